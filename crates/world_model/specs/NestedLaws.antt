-- What each single change means for the nested view, in which each handle has its interfaces and each
-- interface its records. There is one equation for each change, so that the database can be compared with
-- the standard (UEFI 2.8, 7.3: Protocol Handler Services).
use Rattle.std.specs.Prelude.{◌≡◌, ℕ, Bool, false, not, nat_eq, nat_lt, bytes_eq, List, [], ◌∷◌, ◌++◌, length, map, filter, Some, None, if◌then◌else◌}
use Rattle.fw_types.specs.declared.attr.TheConstants.Attr.{ALL_BITS, BY_CHILD_CONTROLLER, WEAK_BITS}
use Rattle.handle_db.specs.declared.handle_entry.Interface.{Interface}
use Rattle.handle_db.specs.Database.{has}
use Rattle.open_records.specs.Adding.{entered}
use Rattle.open_records.specs.Laws.{is_same}
use Rattle.open_records.specs.Leaving.{is_meant, is_named}
use Rattle.open_records.specs.declared.open_record.Rec.{Rec}
use Rattle.world_model.specs.World.{Soft}
use Rattle.world_model.specs.Interfaces.{interface_added, interface_removed}
use Rattle.world_model.specs.Records.{all_left, child_left, record_entered, records_left, weak_dropped}
use Rattle.world_model.specs.Kept.{IsKept}
use Rattle.world_model.specs.Legal.{HandleNode, InterfaceNode, is_among, nested}

-- ---- records

-- a change of records, as a function of the handle and the protocol whose interface has them
abbrev pub RecordsChange : Type 0
RecordsChange = ℕ → List ℕ → List Rec → List Rec

abbrev pub at_interface : ℕ → List ℕ → (List Rec → List Rec) → RecordsChange
at_interface handle guid change of of_guid records = if is_same handle guid of of_guid then change records else records

abbrev pub at_handle : ℕ → (List Rec → List Rec) → RecordsChange
at_handle handle change of of_guid records = if nat_eq handle of then change records else records

abbrev pub everywhere : (List Rec → List Rec) → RecordsChange
everywhere change of of_guid records = change records

abbrev pub without : (Rec → Bool) → List Rec → List Rec
without test records = filter (λ (rec : Rec). not (test rec)) records

-- the nested view with the records of each interface changed in this way
abbrev pub changed_records : RecordsChange → List HandleNode → List HandleNode
changed_records change handles =
    map (λ (one : HandleNode). record one { interfaces = map (λ (i : InterfaceNode). record i { records = change one.handle i.guid i.records }) one.interfaces }) handles

-- an open is one more record at the end, or one more in the count of an equal one
abbrev pub EnteringInView : Type 0
EnteringInView =
    (soft : Soft) (handle : ℕ) (guid : List ℕ) (agent controller attr : ℕ) → IsKept soft
    → nested (record_entered handle guid agent controller attr soft) ≡ changed_records (at_interface handle guid (entered agent controller attr)) (nested soft)

-- a close removes an agent's records for a controller from one interface
abbrev pub LeavingInView : Type 0
LeavingInView =
    (soft : Soft) (handle : ℕ) (guid : List ℕ) (agent controller : ℕ)
    → nested (records_left handle guid agent controller soft) ≡ changed_records (at_interface handle guid (without (is_meant (Some agent) (Some controller) ALL_BITS))) (nested soft)

abbrev pub AllLeavingInView : Type 0
AllLeavingInView =
    (soft : Soft) (handle agent : ℕ) → nested (all_left handle agent soft) ≡ changed_records (at_handle handle (without (is_meant (Some agent) None ALL_BITS))) (nested soft)

abbrev pub ChildLeavingInView : Type 0
ChildLeavingInView =
    (soft : Soft) (handle agent child : ℕ)
    → nested (child_left handle agent child soft) ≡ changed_records (at_handle handle (without (is_meant (Some agent) (Some child) BY_CHILD_CONTROLLER))) (nested soft)

abbrev pub WeakDroppingInView : Type 0
WeakDroppingInView =
    (soft : Soft) (handle : ℕ) (guid : List ℕ)
    → nested (weak_dropped handle guid soft) ≡ changed_records (at_interface handle guid (without (is_meant None None WEAK_BITS))) (nested soft)

-- ---- interfaces

-- an interface that nobody has open
abbrev pub unopened : Interface → InterfaceNode
unopened new = record { guid = new.guid; interface = new.interface; owner = new.owner; records = [] }

-- a new handle comes last, with its one interface
abbrev pub NewHandleInView : Type 0
NewHandleInView =
    (soft : Soft) (new : Interface) → IsKept soft
    → nested (interface_added None new soft) ≡ nested soft ++ record { handle = soft.database.next; interfaces = unopened new ∷ [] } ∷ []

-- a handle's new interface comes last among its interfaces
abbrev pub with_interface_node : ℕ → Interface → HandleNode → HandleNode
with_interface_node handle new one = if nat_eq one.handle handle then record one { interfaces = one.interfaces ++ unopened new ∷ [] } else one

abbrev pub InstallingInView : Type 0
InstallingInView =
    (soft : Soft) (handle : ℕ) (new : Interface) → IsKept soft → has handle new.guid soft.database ≡ false
    → nested (interface_added (Some handle) new soft) ≡ map (with_interface_node handle new) (nested soft)

-- a handle loses its interface of a protocol, and is no longer there if that was its last one
abbrev pub without_protocol : ℕ → List ℕ → HandleNode → HandleNode
without_protocol handle guid one =
    if nat_eq one.handle handle then record one { interfaces = filter (λ (i : InterfaceNode). not (bytes_eq i.guid guid)) one.interfaces } else one

abbrev pub has_interfaces : HandleNode → Bool
has_interfaces one = nat_lt 0 (length one.interfaces)

abbrev pub without_interface_node : ℕ → List ℕ → List HandleNode → List HandleNode
without_interface_node handle guid handles = filter has_interfaces (map (without_protocol handle guid) handles)

-- then no record names it
abbrev pub unnamed_unless_there : ℕ → List HandleNode → List HandleNode
unnamed_unless_there handle handles = if is_among handles handle then handles else changed_records (everywhere (without (is_named handle))) handles

abbrev pub UninstallingInView : Type 0
UninstallingInView =
    (soft : Soft) (handle : ℕ) (guid : List ℕ)
    → nested (interface_removed handle guid soft) ≡ unnamed_unless_there handle (without_interface_node handle guid (nested soft))
