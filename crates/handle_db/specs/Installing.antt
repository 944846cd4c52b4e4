-- Installing a protocol interface (UEFI 2.8, 'EFI_BOOT_SERVICES.InstallProtocolInterface()').
use Rattle.std.specs.Prelude.{◌≡◌, ℕ, ◌+◌, Bool, true, ◌||◌, not, nat_le, List, [], ◌∷◌, ◌++◌, length, map, Option, Some, None, unwrap_or, Result, is_ok, if◌then◌else◌}
use Rattle.fw_types.specs.declared.limits.TheConstants.{HANDLE_NUMBER_END, MOST_INTERFACES}
use Rattle.handle_db.specs.Database.{Database, IsSound, is_handle, is_live, interfaces_of, has, unless}
use Rattle.handle_db.specs.declared.handle_entry.HandleEntry.{HandleEntry}
use Rattle.handle_db.specs.declared.handle_entry.Interface.{Interface}
use Rattle.handle_db.specs.declared.refusal.DbRefusal.{DbRefusal}
use Rattle.handle_db.specs.declared.refusal.DbRefusal.TheVariants.{BadHandle, Already, Full}

-- whether there is no room for a new handle
abbrev pub is_full : Database → Bool
is_full db = nat_le db.limit (length db.handles) || nat_le HANDLE_NUMBER_END db.next

-- why a protocol is not installed, on a new handle or on one that is given, in this order
abbrev pub install_refusals : Option ℕ → List ℕ → Database → List (Bool × DbRefusal)
install_refusals None guid db = (is_full db, Full) ∷ []
install_refusals (Some handle) guid db =
    (not (is_live handle db), BadHandle)
    ∷ (has handle guid db, Already)
    ∷ (nat_le MOST_INTERFACES (length (interfaces_of handle db)), Full)
    ∷ []

-- what installing answers: the handle that is given, or the new one
abbrev pub install_answer : Option ℕ → List ℕ → Database → Result ℕ DbRefusal
install_answer handle guid db = unless (install_refusals handle guid db) (unwrap_or handle db.next)

-- a handle with one more interface, after those that it has
abbrev pub appended : Interface → HandleEntry → HandleEntry
appended new entry = record entry { interfaces = entry.interfaces ++ new ∷ [] }

-- the handles, of which one has one more interface
abbrev pub with_interface : ℕ → Interface → List HandleEntry → List HandleEntry
with_interface handle new entries =
    map (λ (entry : HandleEntry). if is_handle handle entry then appended new entry else entry) entries

-- a handle with one interface
abbrev pub new_entry : ℕ → Interface → HandleEntry
new_entry handle new = record { handle = handle; interfaces = new ∷ [] }

-- the database with one more interface, of a handle or of a new one
abbrev pub installed : Option ℕ → Interface → Database → Database
installed None new db = record db { handles = db.handles ++ new_entry db.next new ∷ []; next = db.next + 1 }
installed (Some handle) new db = record db { handles = with_interface handle new db.handles }

-- after an interface is installed, a sound database is sound
abbrev pub InstallingKeeps : Type 0
InstallingKeeps =
    (handle : Option ℕ) (new : Interface) (db : Database)
    → IsSound db → is_ok (install_answer handle new.guid db) ≡ true → IsSound (installed handle new db)
