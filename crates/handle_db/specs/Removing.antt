-- Removing a protocol interface (UEFI 2.8, 'EFI_BOOT_SERVICES.UninstallProtocolInterface()'). A handle
-- whose last interface is removed is no longer live.
use Rattle.std.specs.Prelude.{ℕ, not, nat_eq, List, length, map, filter, find, Option, Some, None, Result, Ok, Err, if◌then◌else◌}
use Rattle.std.specs.List.{position_or_len}
use Rattle.handle_db.specs.Database.{Database, IsSound, is_handle, is_guid, is_live, interfaces_of, has_any}
use Rattle.handle_db.specs.declared.handle_entry.HandleEntry.{HandleEntry}
use Rattle.handle_db.specs.declared.handle_entry.Interface.{Interface}
use Rattle.handle_db.specs.declared.refusal.DbRefusal.{DbRefusal}
use Rattle.handle_db.specs.declared.refusal.DbRefusal.TheVariants.{BadHandle, NotThere}
use Rattle.handle_db.specs.declared.refusal.Removed.{Removed}

-- what is answered about a handle's interface of a protocol that is removed, if there is one: what it is,
-- its place among those of its handle, and whether the handle is removed with it
abbrev pub removal_of : List Interface → List ℕ → Option Interface → Result Removed DbRefusal
removal_of interfaces guid None = Err NotThere
removal_of interfaces guid (Some one) = Ok (record {
  interface = one.interface;
  owner = one.owner;
  place = position_or_len (is_guid guid) interfaces;
  gone = nat_eq (length interfaces) 1;
})

-- what removing answers
abbrev pub remove_answer : ℕ → List ℕ → Database → Result Removed DbRefusal
remove_answer handle guid db =
    if not (is_live handle db) then Err BadHandle
    else removal_of (interfaces_of handle db) guid (find (is_guid guid) (interfaces_of handle db))

-- a handle without its interface of a protocol
abbrev pub without_guid : List ℕ → HandleEntry → HandleEntry
without_guid guid entry =
    record entry { interfaces = filter (λ (one : Interface). not (is_guid guid one)) entry.interfaces }

-- the handles, of which one is without its interface of a protocol; a handle without interfaces is left out
abbrev pub without_interface : ℕ → List ℕ → List HandleEntry → List HandleEntry
without_interface handle guid entries =
    filter has_any (map (λ (entry : HandleEntry). if is_handle handle entry then without_guid guid entry else entry) entries)

-- the database without a handle's interface of a protocol
abbrev pub removed : ℕ → List ℕ → Database → Database
removed handle guid db = record db { handles = without_interface handle guid db.handles }

-- after an interface is removed, a sound database is sound
abbrev pub RemovingKeeps : Type 0
RemovingKeeps =
    (handle : ℕ) (guid : List ℕ) (db : Database) → IsSound db → IsSound (removed handle guid db)
