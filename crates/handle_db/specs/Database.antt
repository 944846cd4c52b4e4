-- The handle database (UEFI 2.8, 'Protocol Handler Services'): which handles are live, and which
-- protocol interfaces are installed on each.
use Rattle.std.specs.Prelude.{◌≡◌, ℕ, ◌+◌, ◌<◌, ◌≤◌, Bool, true, ◌&&◌, not, nat_eq, nat_le, nat_lt, List, [], ◌∷◌, length, map, filter, find, Option, Some, None, option_map, Result, Ok, Err, bytes_eq, if◌then◌else◌}
use Rattle.std.specs.List.{list_any, list_all}
use Rattle.fw_types.specs.declared.limits.TheConstants.{HANDLE_NUMBER_END, MOST_INTERFACES}
use Rattle.handle_db.specs.declared.handle_entry.HandleEntry.{HandleEntry}
use Rattle.handle_db.specs.declared.handle_entry.Interface.{Interface}
use Rattle.handle_db.specs.declared.refusal.DbRefusal.{DbRefusal}
use Rattle.handle_db.specs.declared.refusal.DbRefusal.TheVariants.{BadHandle, Already, Full, NotThere, OutOfMemory}

-- the live handles by rising number, each with its interfaces in order of installation; the number of
-- the next new handle; and how many handles may be live
pub record Database : Type 0 where
  pub handles : List HandleEntry
  pub next : ℕ
  pub limit : ℕ

-- ---- looking

abbrev pub is_handle : ℕ → HandleEntry → Bool
is_handle handle entry = nat_eq entry.handle handle

-- whether an interface is one of the protocol that a GUID names
abbrev pub is_guid : List ℕ → Interface → Bool
is_guid guid interface = bytes_eq interface.guid guid

abbrev pub is_live : ℕ → Database → Bool
is_live handle db = list_any (is_handle handle) db.handles

abbrev pub interfaces_in : Option HandleEntry → List Interface
interfaces_in None = []
interfaces_in (Some entry) = entry.interfaces

-- a handle's interfaces in order of installation, none if it is not live
abbrev pub interfaces_of : ℕ → Database → List Interface
interfaces_of handle db = interfaces_in (find (is_handle handle) db.handles)

-- a handle's interface of a protocol, with its owner
abbrev pub interface_of : ℕ → List ℕ → Database → Option (ℕ × ℕ)
interface_of handle guid db =
    option_map (λ (one : Interface). (one.interface, one.owner)) (find (is_guid guid) (interfaces_of handle db))

-- whether a handle has a protocol
abbrev pub has_guid : List ℕ → HandleEntry → Bool
has_guid guid entry = list_any (is_guid guid) entry.interfaces

-- the same of a handle among others
abbrev pub has_in : ℕ → List ℕ → List HandleEntry → Bool
has_in handle guid entries = list_any (is_guid guid) (interfaces_in (find (is_handle handle) entries))

abbrev pub has : ℕ → List ℕ → Database → Bool
has handle guid db = has_in handle guid db.handles

abbrev pub numbers : List HandleEntry → List ℕ
numbers entries = map (λ (entry : HandleEntry). entry.handle) entries

-- the handles that have a protocol, or all, by rising number
abbrev pub handles_with : Option (List ℕ) → Database → List ℕ
handles_with None db = numbers db.handles
handles_with (Some guid) db = numbers (filter (has_guid guid) db.handles)

-- an entry's interface of a protocol, with its owner, if there is an entry
abbrev pub interface_in : List ℕ → Option HandleEntry → Option (ℕ × ℕ)
interface_in guid entry =
    option_map (λ (one : Interface). (one.interface, one.owner)) (find (is_guid guid) (interfaces_in entry))

-- the interface of a protocol, with its owner, of the handle with the least number that has it
abbrev pub first_with : List ℕ → Database → Option (ℕ × ℕ)
first_with guid db = interface_in guid (find (has_guid guid) db.handles)

-- a handle's protocols in order of installation, each with its interface and the owner of it
abbrev pub protocols_of : ℕ → Database → List (List ℕ × ℕ × ℕ)
protocols_of handle db = map (λ (one : Interface). (one.guid, one.interface, one.owner)) (interfaces_of handle db)

-- ---- what holds of every database

-- whether handle numbers rise strictly, from a number on
abbrev pub rise_from : ℕ → List HandleEntry → Bool
rise_from low [] = true
rise_from low (entry ∷ entries) = nat_le low entry.handle && rise_from (entry.handle + 1) entries

abbrev pub is_below : ℕ → HandleEntry → Bool
is_below high entry = nat_lt entry.handle high

-- whether no two interfaces are of one protocol
abbrev pub differ : List Interface → Bool
differ [] = true
differ (interface ∷ interfaces) = not (list_any (is_guid interface.guid) interfaces) && differ interfaces

abbrev pub has_any : HandleEntry → Bool
has_any entry = nat_lt 0 (length entry.interfaces)

-- whether a handle has an interface, no more than it may have, and no protocol twice
abbrev pub is_kept : HandleEntry → Bool
is_kept entry = has_any entry && nat_le (length entry.interfaces) MOST_INTERFACES && differ entry.interfaces

-- The handle numbers rise strictly from 1 and lie below the next number, so that a new handle gets a number
-- that no live handle has. Each handle has an interface, no more than MOST_INTERFACES and no protocol twice.
pub record IsSound (db : Database) : Type 0 where
  pub rising : rise_from 1 db.handles ≡ true
  pub below : list_all (is_below db.next) db.handles ≡ true
  pub kept : list_all is_kept db.handles ≡ true
  pub few : length db.handles ≤ db.limit
  pub from : 0 < db.next
  pub end : db.next ≤ HANDLE_NUMBER_END

-- ---- answers

-- a call gives this answer, unless it runs out of memory
abbrev pub Gives : {T : Type 0} → Result T DbRefusal → Result T DbRefusal → Type 0
Gives (Ok value) answer = answer ≡ Ok value
Gives (Err BadHandle) answer = answer ≡ Err BadHandle
Gives (Err Already) answer = answer ≡ Err Already
Gives (Err Full) answer = answer ≡ Err Full
Gives (Err NotThere) answer = answer ≡ Err NotThere
Gives (Err OutOfMemory) answer = Unit {0}

-- the first refusal of a list whose test holds, or the value if none does
abbrev pub unless : {T : Type 0} → List (Bool × DbRefusal) → T → Result T DbRefusal
unless [] value = Ok value
unless ((test, refusal) ∷ rest) value = if test then Err refusal else unless rest value
