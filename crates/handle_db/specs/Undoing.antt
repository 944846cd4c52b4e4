-- Taking an installation or a removal back.
use Rattle.std.specs.Prelude.{◌≡◌, ℕ, ◌+◌, ◌-◌, ◌<◌, ◌≤◌, Bool, true, false, not, nat_eq, nat_lt, List, [], ◌∷◌, length, map, insert, slice_get, Option, Some, is_some, unwrap_or, option_map, Ok, is_ok, if◌then◌else◌}
use Rattle.fw_types.specs.declared.limits.TheConstants.{MOST_INTERFACES}
use Rattle.handle_db.specs.Database.{Database, IsSound, has, interfaces_of, is_handle, is_live}
use Rattle.handle_db.specs.Installing.{install_answer, installed, new_entry}
use Rattle.handle_db.specs.Removing.{remove_answer, removed}
use Rattle.handle_db.specs.declared.handle_entry.HandleEntry.{HandleEntry}
use Rattle.handle_db.specs.declared.handle_entry.Interface.{Interface}
use Rattle.handle_db.specs.declared.refusal.Removed.{Removed}

-- ---- an installation

-- the protocol of the last of a handle's interfaces
abbrev pub last_guid : List Interface → Option (List ℕ)
last_guid interfaces = option_map (λ (one : Interface). one.guid) (slice_get interfaces (length interfaces - 1))

-- An interface was the last to be installed on a handle. It is the handle's only one exactly if the handle was made for
-- it, and the handle is then the newest.
pub record IsInstalledLast (handle : ℕ) (guid : List ℕ) (made : Bool) (db : Database) : Type 0 where
  pub last : last_guid (interfaces_of handle db) ≡ Some guid
  pub alone : nat_eq (length (interfaces_of handle db)) 1 ≡ made
  pub newest : made ≡ true → db.next ≡ handle + 1

-- the database without the interface; if the handle was made for it, the handle's number is the next one again
abbrev pub install_undone : ℕ → List ℕ → Bool → Database → Database
install_undone handle guid made db = record (removed handle guid db) { next = if made then handle else db.next }

-- what is installed, if it is not refused, can be taken back, and that gives the earlier database
abbrev pub InstallingIsUndone : Type 0
InstallingIsUndone =
    (given : Option ℕ) (new : Interface) (db : Database)
    → IsSound db → is_ok (install_answer given new.guid db) ≡ true
    → let handle = unwrap_or given db.next in
    let made = not (is_some given) in
    IsInstalledLast handle new.guid made (installed given new db) × (install_undone handle new.guid made (installed given new db) ≡ db)

-- ---- a removal

-- the interface that was removed
abbrev pub interface_again : List ℕ → Removed → Interface
interface_again guid r = record { guid = guid; interface = r.interface; owner = r.owner }

-- There is room for an interface that was removed, at its place. If its handle was removed with it, the handle is not
-- live, and there is room for it too.
pub record HasRoomFor (handle : ℕ) (guid : List ℕ) (r : Removed) (db : Database) : Type 0 where
  pub live : is_live handle db ≡ not r.gone
  pub lacks : has handle guid db ≡ false
  pub place : r.place ≤ length (interfaces_of handle db)
  pub few : length (interfaces_of handle db) < MOST_INTERFACES
  pub handles : r.gone ≡ true → length db.handles < db.limit
  pub from : 0 < handle
  pub old : handle < db.next

-- the handles with one more, by rising number
abbrev pub with_entry : HandleEntry → List HandleEntry → List HandleEntry
with_entry new [] = new ∷ []
with_entry new (entry ∷ entries) =
    if nat_lt new.handle entry.handle then new ∷ entry ∷ entries else entry ∷ with_entry new entries

-- a handle with one more interface, at a place
abbrev pub inserted : ℕ → Interface → HandleEntry → HandleEntry
inserted place one entry = record entry { interfaces = insert entry.interfaces place one }

-- the handles, of which one has one more interface, at a place
abbrev pub with_interface_at : ℕ → ℕ → Interface → List HandleEntry → List HandleEntry
with_interface_at handle place one entries =
    map (λ (entry : HandleEntry). if is_handle handle entry then inserted place one entry else entry) entries

-- the handles with one more interface of a handle, at a place; if the handle was removed, with the handle
abbrev pub with_back : (gone : Bool) → ℕ → ℕ → Interface → List HandleEntry → List HandleEntry
with_back gone handle place one entries =
    if gone then with_entry (new_entry handle one) entries else with_interface_at handle place one entries

-- the handles with an interface that was removed, and with its handle, if that was removed too
abbrev pub with_removed : ℕ → List ℕ → Removed → List HandleEntry → List HandleEntry
with_removed handle guid r entries = with_back r.gone handle r.place (interface_again guid r) entries

-- the database with an interface that was removed
abbrev pub remove_undone : ℕ → List ℕ → Removed → Database → Database
remove_undone handle guid r db = record db { handles = with_removed handle guid r db.handles }

-- what is removed can be put back, and that gives the earlier database
abbrev pub RemovingIsUndone : Type 0
RemovingIsUndone =
    (handle : ℕ) (guid : List ℕ) (r : Removed) (db : Database)
    → IsSound db → remove_answer handle guid db ≡ Ok r
    → HasRoomFor handle guid r (removed handle guid db) × (remove_undone handle guid r (removed handle guid db) ≡ db)

-- ---- a sound database stays sound

abbrev pub UndoingInstallKeeps : Type 0
UndoingInstallKeeps =
    (handle : ℕ) (guid : List ℕ) (made : Bool) (db : Database)
    → IsSound db → IsInstalledLast handle guid made db → IsSound (install_undone handle guid made db)

abbrev pub UndoingRemoveKeeps : Type 0
UndoingRemoveKeeps =
    (handle : ℕ) (guid : List ℕ) (r : Removed) (db : Database)
    → IsSound db → HasRoomFor handle guid r db → IsSound (remove_undone handle guid r db)
