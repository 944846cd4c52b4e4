-- Each move that can be made leaves what holds of every world, all stacks, and the bytes that no code may write.
use Rattle.std.proofs.Common.{◌≡◌, ◌<◌, inl, inr, ℕ, true, false, ◌&&◌, ◌||◌, not, nat_lt, bytes_eq, List, length, refl, arith}
use Rattle.std.specs.Prelude.{is_ok, is_some}
use Rattle.std.proofs.lemmas.Bool.{and_parts, not-true, or_cases, or_parts}
use Rattle.std.proofs.lemmas.Bool.Decides.{nat_tests}
use Rattle.byteorder.specs.Endian.{little_bytes}
use Rattle.byteorder.specs.Numbers.{length-bytes_low_first}
use Rattle.fw_types.specs.Guid.{known_guid}
use Rattle.fw_types.specs.declared.guid.Known.TheVariants.{LoadedImage as LoadedImageProtocol, DriverBinding}
use Rattle.guest_memory.specs.declared.segment.Segment.{Segment}
use Rattle.guest_memory.specs.declared.segment.SegKind.TheVariants.{Pool}
use Rattle.guest_memory.specs.GuestMemory.{is_writable_range, put_bytes, written}
use Rattle.ebc_machine.specs.declared.cpu.Cpu.{Cpu}
use Rattle.handle_db.specs.Database.{interface_of}
use Rattle.world_model.specs.World.{Soft, State, with_memory, with_tpl}
use Rattle.world_model.specs.Blocks.{block_added, block_freed, block_segment}
use Rattle.world_model.specs.Images.{block_contents, image_added, image_at, image_block_segment, image_segment, is_image_full}
use Rattle.world_model.specs.Interfaces.{is_lasting}
use Rattle.world_model.specs.Kept.{IsKept}
use Rattle.world_model.specs.Marks.{stacks}
use Rattle.world_model.specs.Thunks.{thunk_answer, thunk_made}
use Rattle.world_model.proofs.FixedSegments.{putting as putting_fixed, writing as writing_fixed}
use Rattle.world_model.proofs.KeepingBlocks.{allotting, fitting, freeing, putting, tpl_set, writing}
use Rattle.world_model.proofs.KeepingImages.{adding}
use Rattle.world_model.proofs.KeepingInterfaces.{installing, uninstalling}
use Rattle.world_model.proofs.KeepingRecords.{all_leaving, child_leaving, entering, leaving, weak_dropping}
use Rattle.world_model.proofs.KeepingThunks.{making}
use Rattle.world_model.proofs.Segments.{list_all-unmapped}
use Rattle.world_model.proofs.StackLaws.{adding as adding_stacks, allotting as allotting_stacks, freeing as freeing_stacks, putting as putting_stacks, writing as writing_stacks}
use Rattle.service_model.specs.Allowed.{is_of_image}
use Rattle.service_model.proofs.AllowedRows.{rows-allowed}
use Rattle.service_model.proofs.LastingInterfaces.{images-go}
use Rattle.service_model.proofs.PutBytes.{puts-writable}
use Rattle.service_model.proofs.SecondLooks.{second_look-goes}
use Rattle.service_model.proofs.SoftPart.{Ground, IsKeptBy, StillKept, kept-by, services-go}
use Rattle.driver_model.specs.Moves.{Move, adds_child, frees, lists_images, opens_root, changed, pays, caps, returns, begins_event, ends_event, steps, serves, looks_again, makes_thunk, pushes, pops, sets_tpl, puts_back, closes_all, closes_child, drops_weak, uninstalls, adds_image, drops_all}
use Rattle.driver_model.specs.Allowed.{has_lasting_interfaces, is_allowed}
use Rattle.driver_model.specs.Staying.{Stays, if_fixed}
use Rattle.driver_model.proofs.BusMoves.{child_stays, freed_stays, listed_stays, opened_stays}
use Rattle.driver_model.proofs.Changes.{beside_memory, joined_stays, same_stays}
use Rattle.driver_model.proofs.FixedBytes.{bytes_by_tests, bytes_same, pass_mapped}
use Rattle.driver_model.proofs.ImageSweeps.{swept_stays}
use Rattle.driver_model.proofs.Steps.{step_cases}

-- ---- what the proofs for services need

kept_by_changes : IsKeptBy StillKept
kept_by_changes = kept-by (record {
  puts = putting;
  sets = tpl_set;
  allots = allotting;
  frees = freeing;
  installs = installing;
  enters = entering;
  leaves = leaving;
})

pub ground : Ground
ground = record { keeps = kept_by_changes; fits = fitting; puts = puts-writable }

-- each single change that services make
stays_by_changes : IsKeptBy Stays
stays_by_changes = record {
  same = same_stays;
  after = joined_stays;
  tpl = λ soft tpl kept. beside_memory soft (with_tpl tpl soft) refl refl (tpl_set soft tpl kept);
  put = λ soft at bytes kept can. record {
    kept = putting soft at bytes kept can;
    stacks = putting_stacks soft at bytes;
    later = omega arith;
    bytes = bytes_same soft (with_memory (put_bytes soft.memory at bytes) soft) (putting_fixed soft.memory at bytes can);
  };
  allot = λ soft bytes kept room. record {
    kept = allotting soft bytes Pool kept refl room;
    stacks = allotting_stacks soft bytes Pool refl;
    later = omega arith;
    bytes = bytes_by_tests soft (block_added bytes Pool soft) (λ test all. pass_mapped test (block_segment bytes Pool soft) soft.memory refl all);
  };
  free = λ soft at kept done. record {
    kept = freeing soft at Pool kept refl done;
    stacks = freeing_stacks soft at Pool kept refl done;
    later = omega arith;
    bytes = bytes_by_tests soft (block_freed at soft) (λ test all. list_all-unmapped (if_fixed test) at soft.memory all);
  };
  install = λ soft handle new kept fine. beside_memory soft _ refl refl (installing soft handle new kept fine);
  enter = λ soft handle name agent controller attr kept can. beside_memory soft _ refl refl (kept_by_changes.enter soft handle name agent controller attr kept can);
  leave = λ soft handle name agent controller kept. beside_memory soft _ refl refl (leaving soft handle name agent controller kept);
}

-- ---- steps

step_stays : (cpu : Cpu) (w : State) → IsKept w.soft → Stays w.soft (changed (steps cpu) w).soft
step_stays cpu w kept =
    step_cases (λ (segments : List Segment). Stays w.soft (with_memory segments w.soft)) cpu w.soft.memory (same_stays w.soft kept)
    (λ at n value done. record {
      kept = writing w.soft at n value kept done;
      stacks = writing_stacks w.soft at n value;
      later = omega arith;
      bytes = bytes_same w.soft (with_memory (written w.soft.memory at n value) w.soft) (writing_fixed w.soft.memory at n value done);
    })

-- ---- thunks

thunk_stays : (place entry at : ℕ) (w : State) → IsKept w.soft → is_allowed (makes_thunk place entry at) w ≡ true → Stays w.soft (changed (makes_thunk place entry at) w).soft
thunk_stays place entry at w kept can =
    let one = and_parts (is_writable_range w.soft.memory place 8) (is_some (image_at entry w.soft) && is_ok (thunk_answer w.soft)) can in
    let two = and_parts (is_some (image_at entry w.soft)) (is_ok (thunk_answer w.soft)) one.1 in
    let long : length (little_bytes 8 at) ≡ 8 = length-bytes_low_first 0 8 at in
    let room : is_writable_range w.soft.memory place (length (little_bytes 8 at)) ≡ true = rw long one.0 in
    let made : Soft = thunk_made entry w.soft in
    let still : IsKept made = making w.soft entry kept two.0 two.1 in
    joined_stays w.soft made _ (beside_memory w.soft made refl refl still) (stays_by_changes.put made place (little_bytes 8 at) still room)

-- ---- images

added_stays : (bytes : List ℕ) (entry subsystem device : ℕ) (soft : Soft) → IsKept soft → (nat_lt entry (length bytes) && not (is_image_full (length bytes) soft)) ≡ true
    → Stays soft (image_added bytes entry subsystem device soft)
added_stays bytes entry subsystem device soft kept can =
    let parts = and_parts (nat_lt entry (length bytes)) (not (is_image_full (length bytes) soft)) can in
    let inside : entry < length bytes = grind (arith, nat_tests, parts.0) in
    record {
      kept = adding soft bytes entry subsystem device kept inside (not-true (is_image_full (length bytes) soft) parts.1);
      stacks = adding_stacks soft bytes entry subsystem device;
      later = omega arith;
      bytes = bytes_by_tests soft (image_added bytes entry subsystem device soft)
          (λ test all. pass_mapped test (image_segment bytes soft) _ refl
          (pass_mapped test (image_block_segment (block_contents bytes subsystem device soft) soft) soft.memory refl all));
    }

-- ---- interfaces

-- an interface of an image does not last, nor does one of a protocol without lasting interfaces
not_lasting : (soft : Soft) (handle : ℕ) (guid : List ℕ) → IsKept soft → (is_of_image (interface_of handle guid soft.database) || not (has_lasting_interfaces guid)) ≡ true
    → is_lasting handle guid soft ≡ false
not_lasting soft handle guid kept can =
    elim (or_cases (is_of_image (interface_of handle guid soft.database)) (not (has_lasting_interfaces guid)) can) [
      | inl image ↦ images-go soft handle guid kept image
      | inr other ↦
          let parts = or_parts (bytes_eq guid (known_guid LoadedImageProtocol)) (bytes_eq guid (known_guid DriverBinding)) (not-true (has_lasting_interfaces guid) other) in
          rw (parts.0, parts.1) refl
    ]

-- ---- all moves

pub move_stays : (move : Move) (w : State) → is_allowed move w ≡ true → IsKept w.soft → Stays w.soft (changed move w).soft
move_stays (pays price) w can kept = same_stays w.soft kept
move_stays (caps most) w can kept = absurd cc
move_stays (returns aside) w can kept = absurd cc
move_stays (begins_event parent kind driver controller extra) w can kept = absurd cc
move_stays (ends_event serial outcome) w can kept = same_stays w.soft kept
move_stays (steps cpu) w can kept = step_stays cpu w kept
move_stays (serves service caller) w can kept = services-go Stays stays_by_changes ground rows-allowed service caller w kept
move_stays (looks_again opening) w can kept = second_look-goes Stays stays_by_changes ground opening w kept
move_stays (makes_thunk place entry at) w can kept = thunk_stays place entry at w kept can
move_stays (pushes level slots children) w can kept = absurd cc
move_stays (pops level) w can kept = absurd cc
move_stays (sets_tpl tpl) w can kept = stays_by_changes.tpl w.soft tpl kept
move_stays (puts_back before) w can kept = absurd cc
move_stays (closes_all controller agent) w can kept = beside_memory w.soft _ refl refl (all_leaving w.soft controller agent kept)
move_stays (closes_child controller agent child) w can kept = beside_memory w.soft _ refl refl (child_leaving w.soft controller agent child kept)
move_stays (drops_weak handle guid) w can kept = beside_memory w.soft _ refl refl (weak_dropping w.soft handle guid kept)
move_stays (uninstalls handle guid) w can kept = beside_memory w.soft _ refl refl (uninstalling w.soft handle guid kept (not_lasting w.soft handle guid kept can))
move_stays (adds_image bytes entry subsystem device) w can kept = added_stays bytes entry subsystem device w.soft kept can
move_stays (drops_all image) w can kept = swept_stays image w.soft kept
move_stays (opens_root controller) w can kept = opened_stays controller w can kept
move_stays (adds_child controller function) w can kept = child_stays controller function w can kept
move_stays (lists_images function images) w can kept = listed_stays function images w.soft kept
move_stays (frees at) w can kept = freed_stays at w.soft kept

-- ---- and a step leaves the stacks of every world

pub step_leaves_stacks : (cpu : Cpu) (w : State) → stacks (changed (steps cpu) w).soft ≡ stacks w.soft
step_leaves_stacks cpu w =
    step_cases (λ (segments : List Segment). stacks (with_memory segments w.soft) ≡ stacks w.soft) cpu w.soft.memory refl (λ at n value done. writing_stacks w.soft at n value)
