-- Each change, made and taken back; and what is noted, without the stacks that a mark leaves out.
use Rattle.std.proofs.Common.{◌≡◌, ◌≤◌, ◌<◌, ℕ, ◌+◌, ◌-◌, Bool, true, false, cond, nat_eq, nat_le, nat_lt, List, [], ◌∷◌, ◌++◌, length, take, filter, set, Option, Some, None, refl, sym, ap, subst, ◌∙◌, arith, length-append}
use Rattle.std.specs.Prelude.{Ok, Result, is_ok, is_some, option_map, slice_set}
use Rattle.std.specs.List.{list_all}
use Rattle.std.proofs.lemmas.Bool.{and_parts, eqb-true, or_right}
use Rattle.std.proofs.lemmas.Bool.Decides.{nat_tests}
use Rattle.std.proofs.lemmas.List.{set-get_or, set-set, take_at}
use Rattle.std.proofs.lemmas.Option.{unwrap_or-slice_get}
use Rattle.byteorder.specs.Endian.{little_bytes}
use Rattle.byteorder.specs.Numbers.{length-bytes_low_first}
use Rattle.guest_memory.specs.declared.guest.MemRefusal.{MemRefusal}
use Rattle.guest_memory.specs.declared.segment.Segment.{Segment}
use Rattle.guest_memory.specs.declared.address_map.TheConstants.{FIRST_BLOCK, FIRST_IMAGE}
use Rattle.guest_memory.specs.Segment.{is_writable, with_bytes}
use Rattle.guest_memory.specs.GuestMemory.{answer_in, beginning_at, begins, bytes_in, bytes_of, holder, is_writable_holder, is_writable_range, lie_from, mapped, put_bytes, unmapped, write_answer, written}
use Rattle.guest_memory.proofs.MappingLemmas.{mapped_takes_back_unmapped, unmapped_takes_back_mapped}
use Rattle.guest_memory.proofs.PutLemmas.{put_bytes-empty, put_bytes-none}
use Rattle.guest_memory.proofs.ReadingLemmas.{holder-own}
use Rattle.guest_memory.proofs.SegmentLemmas.{written-as_bytes}
use Rattle.guest_memory.proofs.TakingBackLemmas.{put_takes_back_put, size_of}
use Rattle.fw_types.specs.Guid.{known_guid}
use Rattle.fw_types.specs.declared.guid.Known.TheVariants.{LoadedImage as LoadedImageProtocol}
use Rattle.handle_db.specs.Database.{Database}
use Rattle.handle_db.specs.Installing.{install_answer as db_install_answer, installed, is_full}
use Rattle.handle_db.specs.Undoing.{install_undone}
use Rattle.handle_db.proofs.InstallBack.{installing_back}
use Rattle.world_model.specs.declared.image.LoadedImage.{LoadedImage}
use Rattle.world_model.specs.Images.{block_contents, image_block_segment, image_segment, next_loaded}
use Rattle.world_model.specs.Interfaces.{firmware, interface}
use Rattle.world_model.proofs.KeepingImages.{room_of}
use Rattle.world_model.specs.declared.bus_child.BusChild.{BusChild}
use Rattle.world_model.specs.declared.change.Change.{Change}
use Rattle.world_model.specs.declared.change.Change.TheVariants.{SetTpl, Write, Put, Allot, Free, Install, Uninstall, DropImage, AddImage, MakeThunk, NoteChild, SetBusList}
use Rattle.world_model.specs.declared.stack_levels.StackLevels.{StackLevels}
use Rattle.world_model.specs.declared.thunk.Thunk.{Thunk}
use Rattle.world_model.specs.World.{Soft, with_memory}
use Rattle.world_model.specs.Blocks.{block_segment, is_image_block}
use Rattle.world_model.specs.BusChildren.{pci_io_of, rom_images}
use Rattle.world_model.specs.Marks.{stacks}
use Rattle.world_model.specs.Kept.{IsKept}
use Rattle.world_model.specs.Undo.{front, later_levels, put_if_there, taken_back, undone, without_stacks}
use Rattle.world_model.specs.UndoLaws.{AddImageIsNoted, AllotIsNoted, BusListIsNoted, ChildIsNoted, Fits, FreeIsNoted, InstallIsNoted, IsNoted, NotedBesideStacks, PutIsNoted, TakenBesideStacks, ThunkIsNoted, TplIsNoted, UndoingLeavesStacks, WriteIsNoted, addresses_in}
use Rattle.world_model.proofs.ImageSegments.{block_from}
use Rattle.world_model.proofs.KeepingBlocks.{freed_is, ranges}
use Rattle.world_model.proofs.Segments.{list_all-mono}
use Rattle.world_model.proofs.StackLaws.{adding, allotting, freeing, putting, writing}
use Rattle.world_model.proofs.UndoSegments.{at-mapped, at-put_if_there, at-unmapped, at_addresses, lies_rise, rise_from, rise_mapped}
use Rattle.world_model.proofs.UndoStacks.{high-stays, kept-without, later-are_levels, stacks-without, stays}

-- ---- bytes

holder-map : (of : Option Segment) (at : ℕ) (bytes : List ℕ) → is_writable_holder (option_map (λ (s : Segment). with_bytes s at bytes) of) ≡ is_writable_holder of
holder-map None at bytes = refl
holder-map (Some s) at bytes = refl

some-writable : (of : Option Segment) → is_writable_holder of ≡ true → is_some of ≡ true
some-writable None can = absurd cc
some-writable (Some s) can = refl

-- the earlier bytes, put back
restored : (segments : List Segment) (at : ℕ) (bytes : List ℕ) → is_writable_holder (holder segments at (length bytes)) ≡ true
    → put_if_there at (bytes_of segments at (length bytes)) (put_bytes segments at bytes) ≡ segments
restored segments at bytes can =
    let there : is_some (holder segments at (length bytes)) ≡ true = some-writable (holder segments at (length bytes)) can in
    let size : length (bytes_of segments at (length bytes)) ≡ length bytes = size_of segments at (length bytes) there in
    let still : is_writable_holder (holder (put_bytes segments at bytes) at (length bytes)) ≡ true =
    ap is_writable_holder (holder-own segments at bytes) ∙ holder-map (holder segments at (length bytes)) at bytes ∙ can in
    let range : is_writable_range (put_bytes segments at bytes) at (length (bytes_of segments at (length bytes))) ≡ true =
    ap (is_writable_range (put_bytes segments at bytes) at) size ∙ or_right (nat_eq (length bytes) 0) (is_writable_holder (holder (put_bytes segments at bytes) at (length bytes))) still in
    rw range (put_takes_back_put segments at bytes there)

answer-writable : (of : Option Segment) → answer_in of ≡ Ok tt → is_writable_holder of ≡ true
answer-writable None done = absurd cc
answer-writable (Some s) done = by_kind (is_writable s.kind) refl done
  where
    by_kind : (can : Bool) → is_writable s.kind ≡ can → answer_in (Some s) ≡ Ok tt → is_writable s.kind ≡ true
    by_kind true is done = is
    by_kind false is done = let refused = rw is at done in absurd cc

restored_number : (segments : List Segment) (at n value : ℕ) → write_answer segments at n ≡ Ok tt → put_if_there at (bytes_of segments at n) (written segments at n value) ≡ segments
restored_number segments at n value done =
    let size : length (little_bytes n value) ≡ n = length-bytes_low_first 0 n value in
    let can : is_writable_holder (holder segments at (length (little_bytes n value))) ≡ true = ap (λ (m : ℕ). is_writable_holder (holder segments at m)) size ∙ answer-writable (holder segments at n) done in
    ap (put_if_there at (bytes_of segments at n)) (written-as_bytes segments at n value)
    ∙ ap (λ (m : ℕ). put_if_there at (bytes_of segments at m) (put_bytes segments at (little_bytes n value))) (sym size)
    ∙ restored segments at (little_bytes n value) can

put_if_there-empty : (segments : List Segment) (at : ℕ) (bytes : List ℕ) → length bytes ≡ 0 → put_if_there at bytes segments ≡ segments
put_if_there-empty segments at bytes empty =
    let range : is_writable_range segments at (length bytes) ≡ true = ap (is_writable_range segments at) empty in
    rw range (put_bytes-empty segments at bytes empty)

none-at : (of : Option Segment) (at : ℕ) → length (bytes_in of at 0) ≡ 0
none-at None at = refl
none-at (Some s) at = refl

writable-range : (segments : List Segment) (at : ℕ) (bytes : List ℕ) → 0 < length bytes → is_writable_range segments at (length bytes) ≡ true → is_writable_holder (holder segments at (length bytes)) ≡ true
writable-range segments at bytes some can =
    let more : nat_eq (length bytes) 0 ≡ false = grind (arith, nat_tests, some) in
    rw more at can

restored_bytes : (segments : List Segment) (at : ℕ) (bytes : List ℕ) → is_writable_range segments at (length bytes) ≡ true → put_if_there at (bytes_of segments at (length bytes)) (put_bytes segments at bytes) ≡ segments
restored_bytes segments at [] can =
    ap (put_if_there at (bytes_of segments at 0)) (put_bytes-none segments at) ∙ put_if_there-empty segments at (bytes_of segments at 0) (none-at (holder segments at 0) at)
restored_bytes segments at (b ∷ bytes) can = restored segments at (b ∷ bytes) (writable-range segments at (b ∷ bytes) (omega arith) can)

pub tpl_is_noted : TplIsNoted
unfolding taken_back
tpl_is_noted soft tpl = record { back = refl; stacks = refl; rises = omega arith; beside = refl; fits = tt }

pub write_is_noted : WriteIsNoted
unfolding taken_back
write_is_noted soft at n value before kept done is = record {
  back =
      ap (λ (memory : List Segment). with_memory memory soft)
      (ap (λ (bytes : List ℕ). put_if_there at bytes (written soft.memory at n value)) is ∙ restored_number soft.memory at n value done);
  stacks = writing soft at n value;
  rises = omega arith;
  beside = refl;
  fits = tt;
}

pub put_is_noted : PutIsNoted
unfolding taken_back
put_is_noted soft at bytes kept can = record {
  back = ap (λ (memory : List Segment). with_memory memory soft) (restored_bytes soft.memory at bytes can);
  stacks = putting soft at bytes;
  rises = omega arith;
  beside = refl;
  fits = tt;
}

-- ---- blocks

one_high : (base : ℕ) → FIRST_BLOCK ≤ base → list_all (nat_le FIRST_IMAGE) (base ∷ []) ≡ true
one_high base from = let high : nat_le FIRST_IMAGE base ≡ true = grind (arith, nat_tests) in rw high refl

pub allot_is_noted : AllotIsNoted
unfolding taken_back
allot_is_noted soft bytes kind kept is = record {
  back = ap (λ (memory : List Segment). with_memory memory soft) (unmapped_takes_back_mapped soft.memory (block_segment bytes kind soft));
  stacks = allotting soft bytes kind is;
  rises = omega arith;
  beside = one_high soft.next_block (ranges soft kept).block_from;
  fits = tt;
}

pub begins-base : (segments : List Segment) (base : ℕ) (segment : Segment) → beginning_at segments base ≡ Ok segment → segment.base ≡ base
begins-base [] base segment is = absurd cc
begins-base (s ∷ rest) base segment is = by_head (nat_eq s.base base) refl is (λ later. begins-base rest base segment later)
  where
    by_head : (here : Bool) → nat_eq s.base base ≡ here → ◌≡◌ {A = Result Segment MemRefusal} (cond here (Ok s) (beginning_at rest base)) (Ok segment) → (beginning_at rest base ≡ Ok segment → segment.base ≡ base) → segment.base ≡ base
    by_head true at found later =
        let same : s ≡ segment = cc in
        ap (λ (x : Segment). x.base) (sym same) ∙ eqb-true s.base base at
    by_head false at found later = later found

pub free_is_noted : FreeIsNoted
unfolding taken_back
free_is_noted soft at of segment kept is done found =
    let parts = freed_is (begins of at soft.memory) (is_image_block at soft.images) done in
    let from : FIRST_BLOCK ≤ at = block_from soft.next_image soft.next_block of at soft.memory is kept.memory.placed parts.0 in
    let base : segment.base ≡ at = begins-base soft.memory at segment found in
    record {
      back = ap (λ (memory : List Segment). with_memory memory soft) (mapped_takes_back_unmapped soft.memory at segment kept.memory.apart found);
      stacks = freeing soft at of kept is done;
      rises = omega arith;
      beside = one_high segment.base (omega (arith, from, base));
      fits = tt;
    }

-- ---- interfaces and images

pub install_is_noted : InstallIsNoted
unfolding taken_back
install_is_noted soft given new kept done =
    let undone = installing_back given new soft.database kept.database.sound done in
    record {
      back = ap (λ (db : Database). record soft { database = db }) undone.1;
      stacks = refl;
      rises = omega arith;
      beside = refl;
      fits = undone.0;
    }

front-last : {X : Type 0} (xs : List X) (x : X) → front (xs ++ x ∷ []) ≡ xs
front-last xs x =
    let less : length (xs ++ x ∷ []) - 1 ≡ length xs = omega (arith, length-append xs (x ∷ [])) in
    rw less (take_at xs (x ∷ []) (length xs) refl)

new_allowed : (soft : Soft) (guid : List ℕ) → is_full soft.database ≡ false → is_ok (db_install_answer None guid soft.database) ≡ true
new_allowed soft guid room = rw room refl

pub add_image_is_noted : AddImageIsNoted
unfolding taken_back
add_image_is_noted soft bytes entry subsystem device kept room =
    let contents = block_contents bytes subsystem device soft in
    let block = image_block_segment contents soft in
    let new = interface (known_guid LoadedImageProtocol) soft.next_block firmware in
    let undone = installing_back None new soft.database kept.database.sound (new_allowed soft (known_guid LoadedImageProtocol) (room_of (length bytes) soft room).database) in
    let memory_is : unmapped (unmapped (mapped (image_segment bytes soft) (mapped block soft.memory)) soft.next_image) soft.next_block ≡ soft.memory =
    ap (λ (memory : List Segment). unmapped memory soft.next_block) (unmapped_takes_back_mapped (mapped block soft.memory) (image_segment bytes soft)) ∙ unmapped_takes_back_mapped soft.memory block in
    let range = ranges soft kept in
    let image_high : nat_le FIRST_IMAGE soft.next_image ≡ true = grind (arith, nat_tests, range.image_from) in
    let block_high : nat_le FIRST_IMAGE soft.next_block ≡ true = grind (arith, nat_tests, range.block_from) in
    record {
      back =
          ap (λ (memory : List Segment). record soft { memory = memory; database = install_undone soft.database.next (known_guid LoadedImageProtocol) true (installed None new soft.database); images = front (soft.images ++ next_loaded entry soft ∷ []) }) memory_is
          ∙ ap (λ (db : Database). record soft { database = db; images = front (soft.images ++ next_loaded entry soft ∷ []) }) undone.1
          ∙ ap (λ (images : List LoadedImage). record soft { images = images }) (front-last soft.images (next_loaded entry soft));
      stacks = adding soft bytes entry subsystem device;
      rises = omega arith;
      beside = rw (image_high, block_high) refl;
      fits = undone.0;
    }

-- ---- thunks and children

pub thunk_is_noted : ThunkIsNoted
unfolding taken_back
thunk_is_noted soft entry =
    let less : soft.next_thunk + 1 - 1 ≡ soft.next_thunk = omega arith in
    record {
      back =
          ap (λ (thunks : List Thunk). record soft { thunks = thunks; next_thunk = soft.next_thunk + 1 - 1 }) (front-last soft.thunks (record { number = soft.next_thunk; entry = entry }))
          ∙ ap (λ (next : ℕ). record soft { next_thunk = next }) less;
      stacks = refl;
      rises = omega arith;
      beside = refl;
      fits = tt;
    }

take-all : {X : Type 0} (xs : List X) → take (length xs) xs ≡ xs
take-all [] = refl
take-all (x ∷ xs) = ap (λ others. x ∷ others) (take-all xs)

child_noted-more : (soft : Soft) (handle function : ℕ) (room : Bool)
    → IsNoted (NoteChild (length soft.bus_children)) soft
    (cond room (record soft { bus_children = soft.bus_children ++ record { handle = handle; pci_io = pci_io_of handle soft.database; function = function } ∷ [] }) soft)
unfolding taken_back
child_noted-more soft handle function true =
    let child : BusChild = record { handle = handle; pci_io = pci_io_of handle soft.database; function = function } in
    record {
      back = ap (λ (children : List BusChild). record soft { bus_children = children }) (take_at soft.bus_children (child ∷ []) (length soft.bus_children) refl);
      stacks = refl;
      rises = omega arith;
      beside = refl;
      fits = tt;
    }
child_noted-more soft handle function false = record {
  back = ap (λ (children : List BusChild). record soft { bus_children = children }) (take-all soft.bus_children);
  stacks = refl;
  rises = omega arith;
  beside = refl;
  fits = tt;
}

pub child_is_noted : ChildIsNoted
child_is_noted soft handle function = child_noted-more soft handle function (nat_lt function (length soft.bus_lists))

pub bus_list_is_noted : BusListIsNoted
unfolding taken_back
bus_list_is_noted soft function images =
    let lists = soft.bus_lists in
    let same : slice_set (slice_set lists function (Some images)) function (rom_images function soft) ≡ lists =
    set-set lists function (Some images) (rom_images function soft) ∙ ap (set lists function) (unwrap_or-slice_get lists function None) ∙ set-get_or lists function None in
    record { back = ap (λ (lists : List (Option (List ℕ))). record soft { bus_lists = lists }) same; stacks = refl; rises = omega arith; beside = refl; fits = tt }

-- ---- without the stacks that are left out

-- without segments that have nothing to do with a change, it is taken back with the same result
beside : (p : ℕ → Bool) (change : Change) (soft : Soft) → lie_from 0 soft.memory ≡ true → list_all p (addresses_in change) ≡ true
    → taken_back change (with_memory (at_addresses p soft.memory) soft) ≡ with_memory (at_addresses p (taken_back change soft).memory) (taken_back change soft)
unfolding taken_back
beside p (SetTpl before) soft lies passes = refl
beside p (Write at n before) soft lies passes = ap (λ (memory : List Segment). with_memory memory soft) (sym (at-put_if_there p at (take n before) soft.memory lies))
beside p (Put at before) soft lies passes = ap (λ (memory : List Segment). with_memory memory soft) (sym (at-put_if_there p at before soft.memory lies))
beside p (Allot at) soft lies passes =
    ap (λ (memory : List Segment). record soft { memory = memory; next_block = at }) (sym (at-unmapped p at soft.memory (and_parts (p at) true passes).0))
beside p (Free segment) soft lies passes =
    ap (λ (memory : List Segment). with_memory memory soft) (sym (at-mapped p 0 segment soft.memory (lies_rise 0 soft.memory lies) (and_parts (p segment.base) true passes).0))
beside p (Install handle guid made) soft lies passes = refl
beside p (Uninstall went) soft lies passes = refl
beside p (DropImage dropped) soft lies passes =
    let both = and_parts (p dropped.segment.base) (list_all p (dropped.block.base ∷ [])) passes in
    let last = and_parts (p dropped.block.base) true both.1 in
    let rise = lies_rise 0 soft.memory lies in
    let more : rise_from 0 (mapped dropped.block soft.memory) ≡ true = rise_mapped 0 dropped.block soft.memory (low dropped.block.base) rise in
    ap (λ (memory : List Segment). record (taken_back (DropImage dropped) soft) { memory = memory })
    (sym (at-mapped p 0 dropped.segment (mapped dropped.block soft.memory) more both.0 ∙ ap (mapped dropped.segment) (at-mapped p 0 dropped.block soft.memory rise last.0)))
  where
    low : (n : ℕ) → nat_le 0 n ≡ true
    low n = grind (arith, nat_tests)
beside p (AddImage image) soft lies passes =
    let both = and_parts (p image.base) (list_all p (image.block ∷ [])) passes in
    let last = and_parts (p image.block) true both.1 in
    ap (λ (memory : List Segment). record (taken_back (AddImage image) soft) { memory = memory })
    (sym (at-unmapped p image.block (unmapped soft.memory image.base) last.0 ∙ ap (λ (memory : List Segment). unmapped memory image.block) (at-unmapped p image.base soft.memory both.0)))
beside p MakeThunk soft lies passes = refl
beside p (NoteChild count) soft lies passes = refl
beside p (SetBusList function before) soft lies passes = refl

pub taken_beside_stacks : TakenBesideStacks
taken_beside_stacks change soft levels kept high =
    let later = later_levels levels in
    let are = later-are_levels levels in
    beside (stays later) change soft kept.memory.apart (list_all-mono (nat_le FIRST_IMAGE) (stays later) (addresses_in change) (λ base at. high-stays later base are at) high)

-- the stacks that are left out are no part of the database
fits_still : (change : Change) (after : Soft) (levels : StackLevels) → Fits change after.database → let left = without_stacks (later_levels levels) after in Fits change left.database
fits_still change after levels fits = fits

pub noted_beside_stacks : NotedBesideStacks
noted_beside_stacks change before after levels kept still noted =
    let later = later_levels levels in
    let are = later-are_levels levels in
    let same : taken_back change (without_stacks later after) ≡ without_stacks later before = taken_beside_stacks change after levels still noted.beside ∙ ap (without_stacks later) noted.back in
    let stand : stacks (taken_back change (without_stacks later after)) ≡ stacks (without_stacks later after) =
    ap stacks same ∙ stacks-without later before ∙ ap (filter (stays later)) (sym noted.stacks) ∙ sym (stacks-without later after) in
    let less : (taken_back change (without_stacks later after)).next_block ≤ after.next_block = subst (λ (next : ℕ). next ≤ after.next_block) (sym (ap (λ (soft : Soft). soft.next_block) same)) noted.rises in
    (same, record { kept = subst IsKept (sym same) (kept-without later before are kept); stacks = stand; rises = less; beside = noted.beside; fits = fits_still change after levels noted.fits })

pub undoing_leaves_stacks : UndoingLeavesStacks
unfolding undone
undoing_leaves_stacks [] soft can = refl
undoing_leaves_stacks (change ∷ changes) soft can = undoing_leaves_stacks changes (taken_back change soft) can.1 ∙ can.0.stacks
