-- What the sweep of an image takes away, and what it leaves.
use Rattle.std.proofs.Common.{◌≡◌, ℕ, Bool, true, false, not, ◌||◌, cond, nat_eq, List, [], ◌∷◌, map, filter, find, Option, Some, None, refl, sym, ap, ◌∙◌, subst, arith}
use Rattle.std.specs.Prelude.{is_some, option_map}
use Rattle.std.specs.List.{list_any}
use Rattle.std.proofs.lemmas.Bool.{and_parts, or_left, or_right, not-true, or_from}
use Rattle.std.proofs.lemmas.Bool.Decides.{nat_tests}
use Rattle.std.proofs.lemmas.Slice.Eq.{bytes_eq-Decides}
use Rattle.fw_types.specs.Guid.{known_guid}
use Rattle.fw_types.specs.declared.guid.Known.TheVariants.{LoadedImage as LoadedImageProtocol}
use Rattle.guest_memory.specs.GuestMemory.{begins, unmapped}
use Rattle.guest_memory.specs.declared.segment.SegKind.{SegKind}
use Rattle.guest_memory.specs.declared.segment.Segment.{Segment}
use Rattle.guest_memory.proofs.SegmentLemmas.{lie_from-unmapped}
use Rattle.handle_db.specs.declared.handle_entry.HandleEntry.{HandleEntry}
use Rattle.handle_db.specs.declared.handle_entry.Interface.{Interface}
use Rattle.handle_db.specs.Database.{Database, has_any, interface_of, interfaces_in, is_guid, is_handle, is_live}
use Rattle.handle_db.specs.OwnedInterfaces.{goes_with, is_owned_by, without_interfaces_of}
use Rattle.open_records.specs.declared.open_record.KeyedRecord.{KeyedRecord}
use Rattle.world_model.specs.World.{Soft}
use Rattle.world_model.specs.Images.{image_of, without_loaded}
use Rattle.world_model.specs.ImageSweep.{database_without, image_swept, is_agent_of, is_loaded_image_of, left_of, record_stays, swept_of}
use Rattle.world_model.specs.Kept.{IsKept, are_parties_live}
use Rattle.world_model.specs.declared.image.LoadedImage.{LoadedImage}
use Rattle.world_model.specs.declared.thunk.Thunk.{Thunk}
use Rattle.world_model.proofs.KeepingSweeps.{interface_left, own}
use Rattle.world_model.proofs.Segments.{list_any-unmapped, list_any-unmapped_less, none-unmapped}
use Rattle.world_model.proofs.ThunkLaws.{dropping as thunks_dropped}
use Rattle.world_model.proofs.ThunkTargets.{is_some-find}
use Rattle.driver_model.specs.UnloadLaws.{IsGone, OthersStay, SweepsLeaveOthers, SweptImagesAreGone, is_segment_of, is_thunk_of}
use Rattle.driver_model.proofs.UnmappedBytes.{unreadable}

-- ---- lists

-- what a filter leaves passes no test that fails whenever the filter passes
none_in_filter : {X : Type 0} (P Q : X → Bool) (xs : List X) → ((x : X) → P x ≡ true → Q x ≡ false) → list_any Q (filter P xs) ≡ false
none_in_filter P Q [] none = refl
none_in_filter P Q (x ∷ xs) none = by_head (P x) refl (none_in_filter P Q xs none)
  where
    by_head : (here : Bool) → P x ≡ here → list_any Q (filter P xs) ≡ false → list_any Q (cond here (x ∷ filter P xs) (filter P xs)) ≡ false
    by_head true is later = or_from (Q x) (list_any Q (filter P xs)) (none x is) later
    by_head false is later = later

-- and no test that nothing passed before
none_left_in : {X : Type 0} (P Q : X → Bool) (xs : List X) → list_any Q xs ≡ false → list_any Q (filter P xs) ≡ false
none_left_in P Q [] none = refl
none_left_in P Q (x ∷ xs) none = by_head (P x) (Q x) refl none (λ rest. none_left_in P Q xs rest)
  where
    by_head : (here is : Bool) → Q x ≡ is → (is || list_any Q xs) ≡ false → (list_any Q xs ≡ false → list_any Q (filter P xs) ≡ false) → list_any Q (cond here (x ∷ filter P xs) (filter P xs)) ≡ false
    by_head true true is none later = absurd cc
    by_head true false is none later = or_from (Q x) (list_any Q (filter P xs)) is (later none)
    by_head false true is none later = absurd cc
    by_head false false is none later = later none

-- ---- what is removed

-- no handle has an interface of the image's
none_owned : (image : ℕ) (entries : List HandleEntry)
    → list_any (λ (entry : HandleEntry). list_any (λ (one : Interface). nat_eq one.owner image) entry.interfaces) (map (without_interfaces_of image own) entries) ≡ false
none_owned image [] = refl
none_owned image (entry ∷ entries) =
    or_from _ _
    (none_in_filter (λ (one : Interface). not (goes_with image own entry.handle one)) (λ (one : Interface). nat_eq one.owner image) entry.interfaces (λ one stays. owner_differs one (nat_eq one.owner image) refl stays))
    (none_owned image entries)
  where
    owner_differs : (one : Interface) (owned : Bool) → nat_eq one.owner image ≡ owned → not (owned || is_loaded_image_of image entry.handle one.guid) ≡ true → nat_eq one.owner image ≡ false
    owner_differs one true is stays = absurd cc
    owner_differs one false is stays = is

own_protocol : (image : ℕ) (found : Option (ℕ × ℕ)) → left_of image image (known_guid LoadedImageProtocol) found ≡ None
own_protocol image found =
    let same : nat_eq image image ≡ true = grind (arith, nat_tests) in
    let guid : is_loaded_image_of image image (known_guid LoadedImageProtocol) ≡ true = rw same ((bytes_eq-Decides (known_guid LoadedImageProtocol) (known_guid LoadedImageProtocol)).1 refl) in
    let both : (is_owned_by image found || is_loaded_image_of image image (known_guid LoadedImageProtocol)) ≡ true = or_right (is_owned_by image found) _ guid in
    rw both refl

gone_one : (image : LoadedImage) (soft : Soft) → IsKept soft → image_of image.handle soft.images ≡ Some image → IsGone image soft (swept_of (Some image) soft)
gone_one image soft kept found =
    let dropped : (without_loaded (Some image) soft).thunks ≡ filter (λ (thunk : Thunk). not (is_thunk_of image.handle soft thunk)) soft.thunks =
    subst (λ (one : Option LoadedImage). (without_loaded one soft).thunks ≡ filter (λ (thunk : Thunk). not (is_thunk_of image.handle soft thunk)) soft.thunks) found
    (thunks_dropped soft image.handle kept (ap is_some found)) in
    record {
      images = none_in_filter (λ (one : LoadedImage). not (nat_eq one.handle image.handle)) (λ (one : LoadedImage). nat_eq one.handle image.handle) soft.images (λ one other. not-true _ other);
      interfaces = none_left_in has_any (λ (entry : HandleEntry). list_any (λ (one : Interface). nat_eq one.owner image.handle) entry.interfaces) (map (without_interfaces_of image.handle own) soft.database.handles) (none_owned image.handle soft.database.handles);
      loaded_image = interface_left image.handle image.handle (known_guid LoadedImageProtocol) soft.database kept.database.sound ∙ own_protocol image.handle (interface_of image.handle (known_guid LoadedImageProtocol) soft.database);
      records =
          none_in_filter (record_stays image.handle soft.database (database_without image.handle soft.database)) (λ (one : KeyedRecord). is_agent_of image.handle soft.database one.rec.agent) soft.records.entries
          (λ one stays. not-true _ (and_parts (not (is_agent_of image.handle soft.database one.rec.agent)) (are_parties_live (database_without image.handle soft.database) one) stays).0);
      thunks =
          ap (list_any (is_thunk_of image.handle soft)) dropped
          ∙ none_in_filter (λ (thunk : Thunk). not (is_thunk_of image.handle soft thunk)) (is_thunk_of image.handle soft) soft.thunks (λ thunk other. not-true _ other);
      bytes = λ kind. none_later kind (none-unmapped kind image.base 0 soft.memory kept.memory.apart);
      block = λ kind. none-unmapped kind image.block 0 (unmapped soft.memory image.base) (lie_from-unmapped 0 soft.memory image.base kept.memory.apart);
      unreadable = λ segment at of begins_there has. unreadable image soft.memory segment at kept.memory.apart begins_there of has;
    }
  where
    none_later : (kind : SegKind) → begins kind image.base (unmapped soft.memory image.base) ≡ false → begins kind image.base (unmapped (unmapped soft.memory image.base) image.block) ≡ false
    none_later kind none = by_test (begins kind image.base (unmapped (unmapped soft.memory image.base) image.block)) refl
      where
        by_test : (there : Bool) → begins kind image.base (unmapped (unmapped soft.memory image.base) image.block) ≡ there → there ≡ false
        by_test true is = sym (list_any-unmapped_less _ image.block (unmapped soft.memory image.base) is) ∙ none
        by_test false is = refl

pub swept_images_are_gone : SweptImagesAreGone
unfolding image_swept
swept_images_are_gone image soft kept found = subst (λ (one : Option LoadedImage). IsGone image soft (swept_of one soft)) (sym found) (gone_one image soft kept found)

-- ---- what is left

pub live_with : (handle : ℕ) (guid : List ℕ) (db : Database) → is_some (interface_of handle guid db) ≡ true → is_live handle db ≡ true
live_with handle guid db some = sym (is_some-find (is_handle handle) db.handles) ∙ by_found (find (is_handle handle) db.handles) some
  where
    by_found : (found : Option HandleEntry) → is_some {T = ℕ × ℕ} (option_map (λ (one : Interface). (one.interface, one.owner)) (find (is_guid guid) (interfaces_in found))) ≡ true → is_some found ≡ true
    by_found None some = absurd cc
    by_found (Some entry) some = refl

memory_left : (image : LoadedImage) (memory : List Segment) (test : Segment → Bool) → ((segment : Segment) → is_segment_of image segment ≡ true → test segment ≡ false)
    → list_any test (unmapped (unmapped memory image.base) image.block) ≡ list_any test memory
memory_left image memory test none =
    list_any-unmapped test image.block (unmapped memory image.base) (λ segment is. none segment (or_right (nat_eq segment.base image.base) (nat_eq segment.base image.block) is))
    ∙ list_any-unmapped test image.base memory (λ segment is. none segment (or_left (nat_eq segment.base image.base) (nat_eq segment.base image.block) is))

left_one : (image : LoadedImage) (soft : Soft) → IsKept soft → image_of image.handle soft.images ≡ Some image → OthersStay image soft (swept_of (Some image) soft)
left_one image soft kept found =
    let same : (handle : ℕ) (guid : List ℕ) → interface_of handle guid (database_without image.handle soft.database) ≡ left_of image.handle handle guid (interface_of handle guid soft.database) =
    λ handle guid. interface_left image.handle handle guid soft.database kept.database.sound in
    record {
      interfaces = same;
      handles = λ handle guid some. live_with handle guid (database_without image.handle soft.database) (ap is_some (same handle guid) ∙ some);
      records = refl;
      images = refl;
      thunks =
          subst (λ (one : Option LoadedImage). (without_loaded one soft).thunks ≡ filter (λ (thunk : Thunk). not (is_thunk_of image.handle soft thunk)) soft.thunks) found
          (thunks_dropped soft image.handle kept (ap is_some found));
      memory = λ test none. memory_left image soft.memory test none;
      tpl = refl;
      next_handle = refl;
      next_image = refl;
      next_block = refl;
      next_thunk = refl;
    }

pub sweeps_leave_others : SweepsLeaveOthers
unfolding image_swept
sweeps_leave_others image soft kept found = subst (λ (one : Option LoadedImage). OthersStay image soft (swept_of one soft)) (sym found) (left_one image soft kept found)
