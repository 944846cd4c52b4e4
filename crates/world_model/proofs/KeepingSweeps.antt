-- The sweep of an image leaves what holds of every soft part, and what it leaves of interfaces.
use Rattle.std.proofs.Common.{◌≡◌, ◌≤◌, ℕ, ◌+◌, Bool, true, false, not, ◌&&◌, ◌||◌, cond, nat_eq, nat_lt, List, [], ◌∷◌, length, map, filter, find, Option, Some, None, refl, sym, ap, ◌∙◌, subst, arith}
use Rattle.std.specs.Prelude.{bytes_eq, option_map, if◌then◌else◌}
use Rattle.std.specs.List.{list_all, list_any}
use Rattle.std.proofs.lemmas.Bool.{and_parts, eqb-true, not-true}
use Rattle.std.proofs.lemmas.Bool.Decides.{nat_tests}
use Rattle.std.proofs.lemmas.Slice.Eq.{bytes_eq-Decides}
use Rattle.fw_types.specs.Guid.{known_guid}
use Rattle.fw_types.specs.declared.guid.Known.TheVariants.{LoadedImage as LoadedImageProtocol, DriverBinding, PciIo}
use Rattle.guest_memory.specs.declared.address_map.TheConstants.{BUS_BINDING, FIRMWARE_IMAGE, FIRST_BLOCK, FIRST_IMAGE}
use Rattle.handle_db.specs.declared.handle_entry.HandleEntry.{HandleEntry}
use Rattle.handle_db.specs.declared.handle_entry.Interface.{Interface}
use Rattle.handle_db.specs.Database.{Database, IsSound, differ, has_any, interface_of, interfaces_in, interfaces_of, is_guid, is_handle, is_kept, rise_from}
use Rattle.handle_db.specs.OwnedInterfaces.{goes_with, without_interfaces_of}
use Rattle.handle_db.proofs.Keeping.{any-filter, kept_parts, removing_owned}
use Rattle.handle_db.proofs.OnlyOne.{find-none}
use Rattle.handle_db.proofs.Order.{head_rises, none_below, rise_from-filter, rise_from-map}
use Rattle.open_records.specs.OpenRecords.{RecordTable}
use Rattle.open_records.specs.Parties.{with_live_parties, without_agents_of}
use Rattle.open_records.specs.declared.open_record.KeyedRecord.{KeyedRecord}
use Rattle.open_records.proofs.RemovalLemmas.{filter_sound}
use Rattle.world_model.specs.declared.bus_child.BusChild.{BusChild}
use Rattle.world_model.specs.declared.image.LoadedImage.{LoadedImage}
use Rattle.world_model.specs.World.{Soft}
use Rattle.world_model.specs.Images.{image_of, without_image, without_loaded}
use Rattle.world_model.specs.ImageSweep.{database_without, image_swept, is_agent_of, is_loaded_image_of, left_of, records_without, record_stays, swept_of}
use Rattle.world_model.specs.Interfaces.{bus_driver, firmware}
use Rattle.world_model.specs.Keeping.{SweepingKeeps}
use Rattle.world_model.specs.Kept.{AreChildrenKept, AreRecordsKept, IsKept, are_parties_live, has_interface, is_address, is_child_there, is_installed}
use Rattle.world_model.proofs.ImageLists.{all_between, found_passes, is_between}
use Rattle.world_model.proofs.KeepingImages.{dropping}
use Rattle.world_model.proofs.Segments.{list_all-both, list_all-filter, list_all-filter_both}

-- the protocol of the image's own interface
abbrev pub own : List ℕ
own = known_guid LoadedImageProtocol

-- ---- the interfaces of a handle

-- those that stay
abbrev left_on : (image handle : ℕ) → List Interface → List Interface
left_on image handle interfaces = filter (λ (one : Interface). not (goes_with image own handle one)) interfaces

-- what is left of one that was found
abbrev left_in : (image handle : ℕ) → Option Interface → Option Interface
left_in image handle None = None
left_in image handle (Some one) = if goes_with image own handle one then None else Some one

same_guid : (guid : List ℕ) (one : Interface) → is_guid guid one ≡ true → one.guid ≡ guid
same_guid guid one is = (bytes_eq-Decides one.guid guid).0 is

found_is : {X : Type 0} (P : X → Bool) (xs : List X) (x : X) → find P xs ≡ Some x → P x ≡ true
found_is P [] x found = absurd cc
found_is P (y ∷ xs) x found = by_head (P y) refl found (found_is P xs x)
  where
    by_head : (here : Bool) → P y ≡ here → cond here (Some y) (find P xs) ≡ Some x → (find P xs ≡ Some x → P x ≡ true) → P x ≡ true
    by_head true is found later = let same : y ≡ x = cc in rw (← same) is
    by_head false is found later = later found

-- no two interfaces are of one protocol
found_left : (image handle : ℕ) (guid : List ℕ) (interfaces : List Interface) → differ interfaces ≡ true
    → find (is_guid guid) (left_on image handle interfaces) ≡ left_in image handle (find (is_guid guid) interfaces)
found_left image handle guid [] apart = refl
found_left image handle guid (first ∷ rest) apart =
    let parts = and_parts (not (list_any (is_guid first.guid) rest)) (differ rest) apart in
    by_first (is_guid guid first) (goes_with image own handle first) refl refl
    (λ is. find-none (is_guid guid) (left_on image handle rest)
    (any-filter (λ (one : Interface). not (goes_with image own handle one)) (is_guid guid) rest
    (subst (λ (g : List ℕ). list_any (is_guid g) rest ≡ false) (same_guid guid first is) (not-true _ parts.0))))
    (found_left image handle guid rest parts.1)
  where
    by_first : (is goes : Bool) → is_guid guid first ≡ is → goes_with image own handle first ≡ goes
        → (is ≡ true → find (is_guid guid) (left_on image handle rest) ≡ None)
        → find (is_guid guid) (left_on image handle rest) ≡ left_in image handle (find (is_guid guid) rest)
        → find (is_guid guid) (cond (not goes) (first ∷ left_on image handle rest) (left_on image handle rest)) ≡ left_in image handle (cond is (Some first) (find (is_guid guid) rest))
    by_first true true is goes none later = rw goes (none refl)
    by_first true false is goes none later = rw (is, goes) refl
    by_first false true is goes none later = later
    by_first false false is goes none later = rw is later

-- ---- all handles

none_left : (interfaces : List Interface) → nat_lt 0 (length interfaces) ≡ false → interfaces ≡ []
none_left [] none = refl
none_left (one ∷ interfaces) none = absurd (grind (arith, nat_tests, none))

abbrev entries_without : (image : ℕ) → List HandleEntry → List HandleEntry
entries_without image entries = filter has_any (map (without_interfaces_of image own) entries)

entries_rise : (image low : ℕ) (entries : List HandleEntry) → rise_from low entries ≡ true → rise_from low (entries_without image entries) ≡ true
entries_rise image low entries rises =
    rise_from-filter has_any low (map (without_interfaces_of image own) entries) (rise_from-map (without_interfaces_of image own) (λ entry. refl) low entries ∙ rises)

-- no two handles have the same number
interfaces_left : (image handle low : ℕ) (entries : List HandleEntry) → rise_from low entries ≡ true
    → interfaces_in (find (is_handle handle) (entries_without image entries)) ≡ left_on image handle (interfaces_in (find (is_handle handle) entries))
interfaces_left image handle low [] rises = refl
interfaces_left image handle low (entry ∷ entries) rises =
    let above = head_rises low entry entries rises in
    by_entry (is_handle handle entry) (has_any (without_interfaces_of image own entry)) refl refl
    (λ is. let number : entry.handle ≡ handle = eqb-true entry.handle handle is in
    find-none (is_handle handle) (entries_without image entries)
    (none_below (entry.handle + 1) handle (entries_without image entries) (entries_rise image (entry.handle + 1) entries above.1) (omega arith)))
    (interfaces_left image handle (entry.handle + 1) entries above.1)
  where
    one : HandleEntry
    one = without_interfaces_of image own entry

    by_entry : (is any : Bool) → is_handle handle entry ≡ is → has_any one ≡ any
        → (is ≡ true → find (is_handle handle) (entries_without image entries) ≡ None)
        → interfaces_in (find (is_handle handle) (entries_without image entries)) ≡ left_on image handle (interfaces_in (find (is_handle handle) entries))
        → interfaces_in (find (is_handle handle) (cond any (one ∷ entries_without image entries) (entries_without image entries)))
        ≡ left_on image handle (interfaces_in (cond is (Some entry) (find (is_handle handle) entries)))
    by_entry true true is any none later =
        let number : entry.handle ≡ handle = eqb-true entry.handle handle is in
        rw is (ap (λ (h : ℕ). left_on image h entry.interfaces) number)
    by_entry true false is any none later =
        let number : entry.handle ≡ handle = eqb-true entry.handle handle is in
        rw (none refl) (sym (none_left one.interfaces any) ∙ ap (λ (h : ℕ). left_on image h entry.interfaces) number)
    by_entry false true is any none later = rw is later
    by_entry false false is any none later = later

-- ---- an interface that is looked up

differ_found : (found : Option HandleEntry) (handle : ℕ) (entries : List HandleEntry) → find (is_handle handle) entries ≡ found → list_all is_kept entries ≡ true → differ (interfaces_in found) ≡ true
differ_found None handle entries is kept = refl
differ_found (Some entry) handle entries is kept = (kept_parts entry (found_passes (is_handle handle) is_kept entries entry is kept)).apart

-- the address and the owner
abbrev looked : Interface → ℕ × ℕ
looked one = (one.interface, one.owner)

looked_up : (found : Option Interface) (image handle : ℕ) (guid : List ℕ) (interfaces : List Interface) → find (is_guid guid) interfaces ≡ found
    → option_map looked (left_in image handle found) ≡ left_of image handle guid (option_map looked found)
looked_up None image handle guid interfaces is = by_own (is_loaded_image_of image handle guid) None
  where
    by_own : (own : Bool) (nothing : Option (ℕ × ℕ)) → nothing ≡ if own then nothing else nothing
    by_own true nothing = refl
    by_own false nothing = refl
looked_up (Some one) image handle guid interfaces is =
    by_end (goes_with image own handle one)
    ∙ ap (λ (g : List ℕ). if nat_eq one.owner image || is_loaded_image_of image handle g then None else Some (looked one))
    (same_guid guid one (found_is (is_guid guid) interfaces one is))
  where
    by_end : (goes : Bool) → option_map looked (if goes then None else Some one) ≡ if goes then None else Some (looked one)
    by_end true = refl
    by_end false = refl

pub interface_left : (image handle : ℕ) (guid : List ℕ) (db : Database) → IsSound db → interface_of handle guid (database_without image db) ≡ left_of image handle guid (interface_of handle guid db)
interface_left image handle guid db sound =
    let entries : interfaces_of handle (database_without image db) ≡ left_on image handle (interfaces_of handle db) = interfaces_left image handle 1 db.handles sound.rising in
    let found : find (is_guid guid) (left_on image handle (interfaces_of handle db)) ≡ left_in image handle (find (is_guid guid) (interfaces_of handle db)) =
    found_left image handle guid (interfaces_of handle db) (differ_found (find (is_handle handle) db.handles) handle db.handles refl sound.kept) in
    ap (λ (interfaces : List Interface). option_map looked (find (is_guid guid) interfaces)) entries
    ∙ ap (option_map looked) found
    ∙ looked_up (find (is_guid guid) (interfaces_of handle db)) image handle guid (interfaces_of handle db) refl

-- an interface that is removed neither for its owner nor as a loaded image interface stays
has-swept : (image : ℕ) (db : Database) (handle : ℕ) (guid : List ℕ) (address owner : ℕ) → IsSound db → nat_eq owner image ≡ false → is_loaded_image_of image handle guid ≡ false
    → has_interface db handle guid address owner ≡ true → has_interface (database_without image db) handle guid address owner ≡ true
has-swept image db handle guid address owner sound other apart has =
    ap (is_address address owner) (interface_left image handle guid db sound) ∙ by_found (interface_of handle guid db) has
  where
    by_found : (found : Option (ℕ × ℕ)) → is_address address owner found ≡ true → is_address address owner (left_of image handle guid found) ≡ true
    by_found None has = absurd cc
    by_found (Some found) has =
        let parts = and_parts (nat_eq found.0 address) (nat_eq found.1 owner) has in
        let same : found.1 ≡ owner = eqb-true found.1 owner parts.1 in
        let stays : nat_eq found.1 image ≡ false = rw same other in
        rw (stays, apart) has

-- ---- the children of the bus: no image owns their PCI I/O

pci_io-apart : (image handle : ℕ) → is_loaded_image_of image handle (known_guid PciIo) ≡ false
pci_io-apart image handle = by_test (nat_eq handle image)
  where
    by_test : (same : Bool) → (same && bytes_eq (known_guid PciIo) (known_guid LoadedImageProtocol)) ≡ false
    by_test true = refl
    by_test false = refl

children-swept : (image : ℕ) (db : Database) → nat_eq firmware image ≡ false → (children : List BusChild) (bus_lists : List (Option (List ℕ))) → IsSound db
    → AreChildrenKept db children bus_lists → AreChildrenKept (database_without image db) children bus_lists
children-swept image db other children bus_lists sound kept = record {
  installed = list_all-both (is_child_there db) (is_child_there db) (is_child_there (database_without image db)) children
      (λ child has same. has-swept image db child.handle (known_guid PciIo) child.pci_io firmware sound other (pci_io-apart image child.handle) has)
      kept.installed kept.installed;
  functions = kept.functions;
  apart = kept.apart;
}

-- ---- the records

records-swept : (image : ℕ) (db : Database) (table : RecordTable) → AreRecordsKept db table → AreRecordsKept (database_without image db) (records_without image db (database_without image db) table)
records-swept image db table opens =
    let after : Database = database_without image db in
    record {
      sound = filter_sound (record_stays image db after) table opens.sound;
      limit = opens.limit;
      parties =
          list_all-filter_both (are_parties_live db) (record_stays image db after) (are_parties_live after) table.entries
          (λ one before is. (and_parts (not (is_agent_of image db one.rec.agent)) (are_parties_live after one) is).1) opens.parties;
    }

-- what two filters leave, one after the other
filter-twice : {X : Type 0} (p q : X → Bool) (xs : List X) → filter q (filter p xs) ≡ filter (λ (x : X). p x && q x) xs
filter-twice p q [] = refl
filter-twice p q (x ∷ xs) = by_tests (p x) (q x) refl refl (filter-twice p q xs)
  where
    by_tests : (first second : Bool) → p x ≡ first → q x ≡ second → filter q (filter p xs) ≡ filter (λ y. p y && q y) xs
        → filter q (cond first (x ∷ filter p xs) (filter p xs)) ≡ cond (first && second) (x ∷ filter (λ y. p y && q y) xs) (filter (λ y. p y && q y) xs)
    by_tests true true is is' later = rw is' (ap (λ ys. x ∷ ys) later)
    by_tests true false is is' later = rw is' later
    by_tests false second is is' later = later

-- first the records of the image's agents are removed, and then those whose parties are not all
-- there
pub records-in_turn : (image : ℕ) (before after : Database) (table : RecordTable)
    → with_live_parties after (without_agents_of image (known_guid DriverBinding) before table) ≡ records_without image before after table
records-in_turn image before after table =
    ap (λ (entries : List KeyedRecord). record table { entries = entries })
    (filter-twice (λ (one : KeyedRecord). not (is_agent_of image before one.rec.agent)) (are_parties_live after) table.entries)

-- ---- all of it

pub sweeping_one : (soft : Soft) (number : ℕ) (one : LoadedImage) → IsKept soft → image_of number soft.images ≡ Some one → IsKept (swept_of (Some one) soft)
sweeping_one soft number one kept found =
    let db = soft.database in
    let images = without_image one.handle soft.images in
    let dropped : IsKept (without_loaded (Some one) soft) = subst (λ (found : Option LoadedImage). IsKept (without_loaded found soft)) found (dropping soft number kept) in
    let between = is_between 3 FIRST_IMAGE FIRST_BLOCK db.next soft.next_image soft.next_block in
    let all = all_between 3 FIRST_IMAGE FIRST_BLOCK soft.images db.next soft.next_image soft.next_block kept.images.rising in
    let here : between one ≡ true = found_passes (λ (i : LoadedImage). nat_eq i.handle number) between soft.images one found all in
    let high : 3 ≤ one.handle = grind (arith, nat_tests) in
    let not_firmware : nat_eq firmware one.handle ≡ false = grind (arith, nat_tests) in
    let not_bus_driver : nat_eq bus_driver one.handle ≡ false = grind (arith, nat_tests) in
    let others : list_all (λ (i : LoadedImage). not (nat_eq i.handle one.handle)) images ≡ true =
    list_all-filter_both between (λ (i : LoadedImage). not (nat_eq i.handle one.handle)) (λ (i : LoadedImage). not (nat_eq i.handle one.handle)) soft.images (λ i within other. other) all in
    let guid = known_guid LoadedImageProtocol in
    record {
      memory = dropped.memory;
      images = dropped.images;
      database = record {
        sound = removing_owned one.handle guid db kept.database.sound;
        limit = kept.database.limit;
        firmware_there = has-swept one.handle db firmware guid FIRMWARE_IMAGE firmware kept.database.sound not_firmware (rw not_firmware refl) kept.database.firmware_there;
        bus_driver_there = has-swept one.handle db bus_driver (known_guid DriverBinding) BUS_BINDING firmware kept.database.sound not_firmware (rw not_bus_driver refl) kept.database.bus_driver_there;
        installed =
            list_all-both (λ (i : LoadedImage). not (nat_eq i.handle one.handle)) (is_installed db) (is_installed (database_without one.handle db)) images
            (λ i other has. has-swept one.handle db i.handle guid i.block firmware kept.database.sound not_firmware (rw (not-true (nat_eq i.handle one.handle) other) refl) has)
            others (list_all-filter (is_installed db) (λ (i : LoadedImage). not (nat_eq i.handle one.handle)) soft.images kept.database.installed);
      };
      thunks = dropped.thunks;
      children = children-swept one.handle db not_firmware soft.bus_children soft.bus_lists kept.database.sound kept.children;
      records = records-swept one.handle db soft.records kept.records;
      ranges = dropped.ranges;
    }

sweeping_found : (found : Option LoadedImage) (soft : Soft) (number : ℕ) → image_of number soft.images ≡ found → IsKept soft → IsKept (swept_of found soft)
sweeping_found None soft number is kept = kept
sweeping_found (Some image) soft number is kept = sweeping_one soft number image kept is

pub sweeping : SweepingKeeps
unfolding image_swept
sweeping soft image kept = sweeping_found (image_of image soft.images) soft image refl kept
