-- Changes that take interfaces, made and taken back, if there are no open records.
use Rattle.std.proofs.Common.{◌≡◌, ℕ, Bool, true, false, cond, nat_eq, nat_le, List, [], ◌∷◌, filter, find, Option, Some, None, refl, sym, ap, ◌∙◌, arith}
use Rattle.std.specs.Prelude.{Ok, Result, bytes_eq, insert, option_map}
use Rattle.std.specs.List.{position_or_len}
use Rattle.std.proofs.lemmas.Bool.{eqb-true}
use Rattle.std.proofs.lemmas.Bool.Decides.{nat_tests}
use Rattle.fw_types.specs.Guid.{known_guid}
use Rattle.fw_types.specs.declared.guid.Known.TheVariants.{LoadedImage as LoadedImageProtocol, PciIo}
use Rattle.guest_memory.specs.declared.address_map.TheConstants.{FIRST_BLOCK, FIRST_IMAGE}
use Rattle.guest_memory.specs.declared.guest.MemRefusal.{MemRefusal}
use Rattle.guest_memory.specs.declared.segment.Segment.{Segment}
use Rattle.guest_memory.specs.GuestMemory.{beginning_at, lie_from, mapped, unmapped}
use Rattle.guest_memory.proofs.MappingLemmas.{mapped_takes_back_unmapped}
use Rattle.guest_memory.proofs.SegmentLemmas.{lie_from-unmapped}
use Rattle.handle_db.specs.Database.{Database, is_live}
use Rattle.handle_db.specs.Removing.{remove_answer, removed}
use Rattle.handle_db.specs.Undoing.{remove_undone}
use Rattle.handle_db.specs.declared.refusal.Removed.{Removed}
use Rattle.handle_db.proofs.RemovalBack.{undone as removal_undone}
use Rattle.open_records.specs.OpenRecords.{RecordTable}
use Rattle.world_model.specs.declared.bus_child.BusChild.{BusChild}
use Rattle.world_model.specs.declared.change.Change.TheVariants.{DropImage}
use Rattle.world_model.specs.declared.image.LoadedImage.{LoadedImage}
use Rattle.world_model.specs.declared.thunk.Thunk.{Thunk}
use Rattle.world_model.specs.BusChildren.{children_left, is_child, without_child}
use Rattle.world_model.specs.Images.{image_of, without_image, without_loaded}
use Rattle.world_model.specs.Kept.{IsKept, are_apart}
use Rattle.world_model.specs.Marks.{stacks}
use Rattle.world_model.specs.Records.{no_records, records_removed}
use Rattle.world_model.specs.Thunks.{enters, without_thunks}
use Rattle.world_model.specs.Undo.{taken_back, with_child, with_thunks}
use Rattle.world_model.specs.UndoLaws.{DropImageIsNoted, IsNoted, UninstallIsNoted, child_gone, dropped_of, is_of_handle}
use Rattle.world_model.specs.World.{Soft}
use Rattle.world_model.proofs.ImageLists.{all_between, found_passes, is_between}
use Rattle.world_model.proofs.StackLaws.{dropping}
use Rattle.world_model.proofs.UndoLists.{child_only, image_only, no_child, one_back, thunks_back}
use Rattle.world_model.proofs.UndoNoted.{begins-base}

-- ---- records

-- ---- no records

either_none : (live : Bool) → cond live no_records no_records ≡ no_records
either_none true = refl
either_none false = refl

-- from no records none is removed
pub none_removed : (handle : ℕ) (guid : List ℕ) (db : Database) (records : RecordTable) → records ≡ no_records → records_removed handle guid db records ≡ records
none_removed handle guid db records none = ap (records_removed handle guid db) none ∙ either_none (is_live handle db) ∙ sym none

-- ---- interfaces

found_back : (handle : ℕ) (found : Option BusChild) (children : List BusChild) → are_apart children ≡ true → find (is_child handle) children ≡ found
    → with_child (option_map (λ (child : BusChild). (position_or_len (is_child handle) children, child)) found) (without_child handle children) ≡ children
found_back handle None children apart is = no_child handle children is
found_back handle (Some child) children apart is = one_back (is_child handle) children child (child_only handle child children apart is)

children_back-more : (handle : ℕ) (pci : Bool) (children : List BusChild) → are_apart children ≡ true
    → with_child (cond pci (option_map (λ (child : BusChild). (position_or_len (is_child handle) children, child)) (find (is_child handle) children)) None) (cond pci (without_child handle children) children) ≡ children
children_back-more handle true children apart = found_back handle (find (is_child handle) children) children apart refl
children_back-more handle false children apart = refl

children_back : (handle : ℕ) (guid : List ℕ) (children : List BusChild) → are_apart children ≡ true
    → with_child (child_gone handle guid children) (children_left handle guid children) ≡ children
children_back handle guid children apart = children_back-more handle (bytes_eq guid (known_guid PciIo)) children apart

pub uninstall_is_noted : UninstallIsNoted
unfolding taken_back
uninstall_is_noted soft handle guid r kept none answer =
    let undone = removal_undone handle guid r soft.database kept.database.sound answer in
    let after = removed handle guid soft.database in
    let left = children_left handle guid soft.bus_children in
    let child = child_gone handle guid soft.bus_children in
    let records = records_removed handle guid after soft.records in
    record {
      back =
          ap (λ (db : Database). record soft { database = db; records = records; bus_children = with_child child left }) undone.1
          ∙ ap (λ (table : RecordTable). record soft { records = table; bus_children = with_child child left }) (none_removed handle guid after soft.records none)
          ∙ ap (λ (children : List BusChild). record soft { bus_children = children }) (children_back handle guid soft.bus_children kept.children.apart);
      stacks = refl;
      rises = omega arith;
      beside = refl;
      fits = undone.0;
    }

-- ---- images

image-named : (handle : ℕ) (image : LoadedImage) (images : List LoadedImage) → image_of handle images ≡ Some image → image.handle ≡ handle
image-named handle image [] is = absurd cc
image-named handle image (one ∷ images) is = by_head (nat_eq one.handle handle) refl is (λ later. image-named handle image images later)
  where
    by_head : (here : Bool) → nat_eq one.handle handle ≡ here → cond here (Some one) (image_of handle images) ≡ Some image → (image_of handle images ≡ Some image → image.handle ≡ handle) → image.handle ≡ handle
    by_head true at found later =
        let same : one ≡ image = cc in
        ap (λ (x : LoadedImage). x.handle) (sym same) ∙ eqb-true one.handle handle at
    by_head false at found later = later found

memory_back : (segments : List Segment) (base block_at : ℕ) (segment block : Segment) → lie_from 0 segments ≡ true → beginning_at segments base ≡ Ok segment → beginning_at (unmapped segments base) block_at ≡ Ok block
    → mapped segment (mapped block (unmapped (unmapped segments base) block_at)) ≡ segments
memory_back segments base block_at segment block lies found next =
    ap (mapped segment) (mapped_takes_back_unmapped (unmapped segments base) block_at block (lie_from-unmapped 0 segments base lies) next)
    ∙ mapped_takes_back_unmapped segments base segment lies found

pub image_gone : (soft : Soft) (handle : ℕ) (image : LoadedImage) (segment block : Segment) (r : Removed) → IsKept soft → soft.records ≡ no_records → image_of handle soft.images ≡ Some image
    → beginning_at soft.memory image.base ≡ Ok segment → beginning_at (unmapped soft.memory image.base) image.block ≡ Ok block
    → remove_answer image.handle (known_guid LoadedImageProtocol) soft.database ≡ Ok r
    → IsNoted (DropImage (dropped_of image segment block r soft)) soft (without_loaded (Some image) soft)
unfolding taken_back
image_gone soft handle image segment block r kept none is found next answer =
    let guid = known_guid LoadedImageProtocol in
    let undone = removal_undone image.handle guid r soft.database kept.database.sound answer in
    let after = removed image.handle guid soft.database in
    let thunks = filter (enters segment) soft.thunks in
    let place = position_or_len (is_of_handle image.handle) soft.images in
    let named : image.handle ≡ handle = image-named handle image soft.images is in
    let own : image_of image.handle soft.images ≡ Some image = ap (λ (h : ℕ). image_of h soft.images) named ∙ is in
    let between = is_between 3 FIRST_IMAGE FIRST_BLOCK soft.database.next soft.next_image soft.next_block in
    let here : between image ≡ true =
    found_passes (λ (i : LoadedImage). nat_eq i.handle handle) between soft.images image is (all_between 3 FIRST_IMAGE FIRST_BLOCK soft.images soft.database.next soft.next_image soft.next_block kept.images.rising) in
    let base_is : segment.base ≡ image.base = begins-base soft.memory image.base segment found in
    let block_is : block.base ≡ image.block = begins-base (unmapped soft.memory image.base) image.block block next in
    let base_high : nat_le FIRST_IMAGE segment.base ≡ true = grind (arith, nat_tests, base_is) in
    let block_high : nat_le FIRST_IMAGE block.base ≡ true = grind (arith, nat_tests, block_is) in
    record {
      back =
          ap (λ (entered : Result Segment MemRefusal). record soft {
            memory = mapped segment (mapped block (unmapped (unmapped soft.memory image.base) image.block));
            database = remove_undone image.handle guid r after;
            records = records_removed image.handle guid after soft.records;
            images = insert (without_image image.handle soft.images) place image;
            thunks = with_thunks thunks (without_thunks entered soft.thunks);
          }) found
          ∙ ap (λ (memory : List Segment). record soft {
            memory = memory;
            database = remove_undone image.handle guid r after;
            records = records_removed image.handle guid after soft.records;
            images = insert (without_image image.handle soft.images) place image;
            thunks = with_thunks thunks (without_thunks (Ok segment) soft.thunks);
          }) (memory_back soft.memory image.base image.block segment block kept.memory.apart found next)
          ∙ ap (λ (db : Database). record soft {
            database = db;
            records = records_removed image.handle guid after soft.records;
            images = insert (without_image image.handle soft.images) place image;
            thunks = with_thunks thunks (without_thunks (Ok segment) soft.thunks);
          }) undone.1
          ∙ ap (λ (table : RecordTable). record soft {
            records = table;
            images = insert (without_image image.handle soft.images) place image;
            thunks = with_thunks thunks (without_thunks (Ok segment) soft.thunks);
          }) (none_removed image.handle guid after soft.records none)
          ∙ ap (λ (images : List LoadedImage). record soft {
            images = images;
            thunks = with_thunks thunks (without_thunks (Ok segment) soft.thunks);
          }) (one_back (is_of_handle image.handle) soft.images image (image_only 3 FIRST_IMAGE FIRST_BLOCK image.handle image soft.images soft.database.next soft.next_image soft.next_block kept.images.rising own))
          ∙ ap (λ (all : List Thunk). record soft { thunks = all }) (thunks_back (enters segment) 0 soft.thunks soft.next_thunk kept.thunks.numbers);
      stacks = ap (λ (found : Option LoadedImage). stacks (without_loaded found soft)) (sym is) ∙ dropping soft handle kept;
      rises = omega arith;
      beside = rw (base_high, block_high) refl;
      fits = undone.0;
    }

pub drop_image_is_noted : DropImageIsNoted
drop_image_is_noted soft handle image segment block r kept none is found next answer =
    rw is (image_gone soft handle image segment block r kept none is found next answer)
