-- Noting a child of the bus, and setting a bus list, leave what holds of every soft part.
use Rattle.std.proofs.Common.{◌≡◌, ℕ, Bool, true, false, not, nat_lt, List, [], ◌∷◌, ◌++◌, length, find, Option, Some, None, refl, sym, ◌∙◌, subst, arith}
use Rattle.std.specs.Prelude.{option_map, slice_set, if◌then◌else◌}
use Rattle.std.specs.List.{list_all, list_any}
use Rattle.std.proofs.lemmas.Bool.{and_from, and_parts, not-true, or_parts}
use Rattle.std.proofs.lemmas.Bool.Decides.{nat_tests}
use Rattle.std.proofs.lemmas.List.{length-set}
use Rattle.std.proofs.lemmas.List.Folds.{list_all-append, list_any-append}
use Rattle.world_model.specs.declared.bus_child.BusChild.{BusChild}
use Rattle.world_model.specs.World.{Soft}
use Rattle.world_model.specs.BusChildren.{is_child, pci_io_of}
use Rattle.world_model.specs.Kept.{AreChildrenKept, IsKept, are_apart, is_child_there, is_on_board}
use Rattle.world_model.specs.Keeping.{BusListKeeps, NotingKeeps}

-- other children, or other bus lists
kept_with : (soft : Soft) (children : List BusChild) (bus_lists : List (Option (List ℕ))) → IsKept soft → AreChildrenKept soft.database children bus_lists
    → IsKept (record soft { bus_children = children; bus_lists = bus_lists })
kept_with soft children bus_lists kept are = record {
  memory = kept.memory;
  images = kept.images;
  database = kept.database;
  thunks = kept.thunks;
  records = kept.records;
  children = are;
  ranges = kept.ranges;
}

-- no child is a handle that has no function
pub none_with : (handle : ℕ) (children : List BusChild) → option_map (λ (child : BusChild). child.function) (find (is_child handle) children) ≡ None → list_any (is_child handle) children ≡ false
none_with handle [] none = refl
none_with handle (child ∷ children) none = by_head (is_child handle child) refl (λ later. none_with handle children later) none
  where
    by_head : (here : Bool) → is_child handle child ≡ here
        → (option_map (λ (child : BusChild). child.function) (find (is_child handle) children) ≡ None → list_any (is_child handle) children ≡ false)
        → option_map (λ (child : BusChild). child.function) (if here then Some child else find (is_child handle) children) ≡ None
        → list_any (is_child handle) (child ∷ children) ≡ false
    by_head true is later none = absurd cc
    by_head false is later none = rw (is, later none) refl

-- one more, with a handle that none has
apart-more : (children : List BusChild) (new : BusChild) → are_apart children ≡ true → list_any (is_child new.handle) children ≡ false → are_apart (children ++ new ∷ []) ≡ true
apart-more [] new apart none = refl
apart-more (child ∷ children) new apart none =
    let parts = and_parts (not (list_any (is_child child.handle) children)) (are_apart children) apart in
    let others = or_parts (is_child new.handle child) (list_any (is_child new.handle) children) none in
    let other : is_child child.handle new ≡ false = grind (arith, nat_tests, others.0) in
    let alone : list_any (is_child child.handle) (children ++ new ∷ []) ≡ false =
    list_any-append (is_child child.handle) children (new ∷ []) ∙ rw (not-true (list_any (is_child child.handle) children) parts.0, other) refl in
    rw (alone, apart-more children new parts.1 others.1) refl

all-more : (P : BusChild → Bool) (children : List BusChild) (new : BusChild) → list_all P children ≡ true → P new ≡ true → list_all P (children ++ new ∷ []) ≡ true
all-more P children new all one = list_all-append P children (new ∷ []) ∙ and_from (list_all P children) (list_all P (new ∷ [])) all (and_from (P new) true one refl)

pub noting : NotingKeeps
noting soft handle function kept has none = by_room (nat_lt function (length soft.bus_lists)) refl
  where
    new : BusChild
    new = record { handle = handle; pci_io = pci_io_of handle soft.database; function = function }

    by_room : (room : Bool) → nat_lt function (length soft.bus_lists) ≡ room
        → IsKept (if room then record soft { bus_children = soft.bus_children ++ record { handle = handle; pci_io = pci_io_of handle soft.database; function = function } ∷ [] } else soft)
    by_room true is =
        kept_with soft (soft.bus_children ++ new ∷ []) soft.bus_lists kept (record {
          installed = all-more (is_child_there soft.database) soft.bus_children new kept.children.installed has;
          functions = all-more (is_on_board (length soft.bus_lists)) soft.bus_children new kept.children.functions is;
          apart = apart-more soft.bus_children new kept.children.apart (none_with handle soft.bus_children none);
        })
    by_room false is = kept

pub bus_list_set : BusListKeeps
bus_list_set soft function images kept =
    kept_with soft soft.bus_children (slice_set soft.bus_lists function (Some images)) kept (record {
      installed = kept.children.installed;
      functions =
          subst (λ (n : ℕ). list_all (is_on_board n) soft.bus_children ≡ true) (sym (length-set soft.bus_lists function (Some images))) kept.children.functions;
      apart = kept.children.apart;
    })
