-- Whatever stays leaves the place of a command's device path as it was.
use Rattle.std.proofs.Common.{◌≡◌, ◌≤◌, ◌⊎◌, inl, inr, ℕ, Bool, true, false, ◌||◌, ◌&&◌, length, nat_eq, nat_le, refl, arith}
use Rattle.std.specs.List.{list_all}
use Rattle.std.proofs.lemmas.Bool.{or_right}
use Rattle.std.proofs.lemmas.Bool.Decides.{nat_tests}
use Rattle.guest_memory.specs.declared.address_map.TheConstants.{COMMAND_PATH, TABLES_END}
use Rattle.guest_memory.specs.declared.segment.Segment.{Segment}
use Rattle.guest_memory.specs.declared.segment.SegKind.{SegKind}
use Rattle.guest_memory.specs.declared.segment.SegKind.TheVariants.{Image, Pool, Firmware, Stack, Table}
use Rattle.guest_memory.specs.Segment.{end_of, is_writable}
use Rattle.guest_memory.specs.GuestMemory.{kind_number}
use Rattle.world_model.specs.World.{Soft}
use Rattle.world_model.specs.Kept.{is_in_region, is_placed}
use Rattle.world_model.specs.CommandPath.{is_beside_path, is_path_or_beside}
use Rattle.world_model.proofs.Segments.{list_all-both, list_all-mono}
use Rattle.driver_model.specs.Staying.{NoPathStays, PathStaysAlone, Stays, if_fixed, is_later_block}

-- a segment passes a test of fixed segments, or lies after all tables
passes_or_after : (image block next : ℕ) (kind : SegKind) (base size : ℕ) (test : Bool) → is_in_region image block kind base size ≡ true
    → (is_writable kind || (test || (nat_eq (kind_number kind) (kind_number Firmware) && nat_le next base))) ≡ true → (test ≡ true) ⊎ (TABLES_END ≤ base)
passes_or_after image block next Image base size test right fixed = inr (grind (arith, nat_tests))
passes_or_after image block next Pool base size test right fixed = inr (grind (arith, nat_tests))
passes_or_after image block next Firmware base size test right fixed = inr (grind (arith, nat_tests))
passes_or_after image block next Stack base size test right fixed = inr (grind (arith, nat_tests))
passes_or_after image block next Table base size true right fixed = inl refl
passes_or_after image block next Table base size false right fixed = absurd cc

-- what holds of all segments, and of whatever lies after all tables, still holds
all_pass : (test : Segment → Bool) → ((s : Segment) → TABLES_END ≤ s.base → test s ≡ true) → (old new : Soft) → Stays old new → list_all test old.memory ≡ true → list_all test new.memory ≡ true
all_pass test after old new stays all =
    let fixed = list_all-mono test (if_fixed test) old.memory (λ s pass. or_right (is_writable s.kind) (test s) pass) all in
    list_all-both (is_placed new.next_image new.next_block) (if_fixed (λ (s : Segment). test s || is_later_block old s)) test new.memory
    (λ s right pass. elim (passes_or_after new.next_image new.next_block old.next_block s.kind s.base (length s.bytes) (test s) right pass) [ inl here ↦ here | inr beyond ↦ after s beyond ])
    stays.kept.memory.placed (stays.bytes test fixed)

after_is_beside : (s : Segment) → TABLES_END ≤ s.base → is_beside_path s ≡ true
after_is_beside s beyond =
    let behind : nat_le TABLES_END s.base ≡ true = grind (arith, nat_tests) in
    or_right (nat_le (end_of s) COMMAND_PATH) (nat_le TABLES_END s.base) behind

pub no_path_stays : NoPathStays
no_path_stays old new stays none = all_pass is_beside_path after_is_beside old new stays none

pub path_stays_alone : PathStaysAlone
path_stays_alone old new stays alone =
    all_pass is_path_or_beside (λ s beyond. or_right (nat_eq s.base COMMAND_PATH) (is_beside_path s) (after_is_beside s beyond)) old new stays alone
