-- If a handle's interface of a protocol is found, the handle has the protocol.
use Rattle.std.proofs.Common.{◌≡◌, ℕ, Bool, true, false, List, [], ◌∷◌, refl, ◌∙◌}
use Rattle.std.specs.Prelude.{Option, Some, None, is_some, find, option_map}
use Rattle.std.specs.List.{list_any}
use Rattle.handle_db.specs.Database.{Database, has, interface_of, interfaces_of, is_guid}
use Rattle.handle_db.specs.declared.handle_entry.Interface.{Interface}

is-some-mapped : {A B : Type 0} → (f : A → B) (found : Option A) → is_some (option_map f found) ≡ is_some found
is-some-mapped f None = refl
is-some-mapped f (Some a) = refl

is-some-more : {A : Type 0} → (test : A → Bool) (item : A) (rest : List A) (here : Bool) → test item ≡ here → is_some (find test rest) ≡ list_any test rest → is_some (find test (item ∷ rest)) ≡ list_any test (item ∷ rest)
is-some-more test item rest true is later = rw is refl
is-some-more test item rest false is later = rw is later

is-some-found : {A : Type 0} → (test : A → Bool) (items : List A) → is_some (find test items) ≡ list_any test items
is-some-found test [] = refl
is-some-found test (item ∷ rest) = is-some-more test item rest (test item) refl (is-some-found test rest)

pub had : (handle : ℕ) (name : List ℕ) (db : Database) → is_some (interface_of handle name db) ≡ has handle name db
had handle name db =
    is-some-mapped (λ (found : Interface). (found.interface, found.owner)) (find (is_guid name) (interfaces_of handle db))
    ∙ is-some-found (is_guid name) (interfaces_of handle db)
