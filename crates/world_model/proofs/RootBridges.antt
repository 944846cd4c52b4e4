-- The handles and the segments that root bridges add to a soft part, one after the other.
use Rattle.std.proofs.Common.{◌≡◌, ℕ, ◌+◌, Bool, true, false, nat_eq, nat_lt, List, [], ◌∷◌, ◌++◌, refl, sym, ap, ◌∙◌, append_assoc, arith}
use Rattle.std.specs.List.{fold, list_all}
use Rattle.std.proofs.lemmas.Bool.{and_from, and_parts}
use Rattle.std.proofs.lemmas.Bool.Decides.{nat_tests}
use Rattle.std.proofs.lemmas.List.{append-nil}
use Rattle.std.proofs.lemmas.List.Folds.{list_all-append}
use Rattle.fw_types.specs.Guid.{known_guid}
use Rattle.fw_types.specs.declared.guid.Known.TheVariants.{DevicePath, RootBridgeIo}
use Rattle.device_path.specs.DevicePath.{root_path}
use Rattle.guest_memory.specs.declared.segment.Segment.{Segment}
use Rattle.guest_memory.specs.declared.segment.SegKind.TheVariants.{Firmware}
use Rattle.guest_memory.specs.GuestMemory.{mapped}
use Rattle.handle_db.specs.declared.handle_entry.HandleEntry.{HandleEntry}
use Rattle.handle_db.specs.declared.handle_entry.Interface.{Interface}
use Rattle.handle_db.specs.Database.{is_below, is_handle}
use Rattle.handle_db.specs.Installing.{new_entry, with_interface}
use Rattle.handle_db.proofs.Order.{below_more}
use Rattle.world_model.specs.World.{Soft}
use Rattle.world_model.specs.Interfaces.{firmware, interface}
use Rattle.world_model.specs.Opening.{root_added, root_bridge_io}
use Rattle.world_model.proofs.Segments.{list_all-mono}

-- ---- what they add

abbrev pub path_interface : (path : ℕ) → Interface
path_interface path = interface (known_guid DevicePath) path firmware

abbrev pub bridge_interface : Interface
bridge_interface = interface (known_guid RootBridgeIo) root_bridge_io firmware

abbrev pub root_entry : (handle path : ℕ) → HandleEntry
root_entry handle path = record { handle = handle; interfaces = path_interface path ∷ bridge_interface ∷ [] }

abbrev pub root_segment : (path uid : ℕ) → Segment
root_segment path uid = record { base = path; bytes = root_path uid; kind = Firmware }

-- from a handle and an address on
abbrev pub root_entries : (handle path : ℕ) → List (ℕ × ℕ) → List HandleEntry
root_entries handle path [] = []
root_entries handle path (bridge ∷ bridges) = root_entry handle path ∷ root_entries (handle + 1) (path + 16) bridges

abbrev pub root_segments : (path : ℕ) → List (ℕ × ℕ) → List Segment
root_segments path [] = []
root_segments path (bridge ∷ bridges) = root_segment path bridge.0 ∷ root_segments (path + 16) bridges

-- ---- one root bridge

abbrev pub step : Soft → ℕ × ℕ → Soft
step soft bridge = root_added bridge.0 soft

abbrev pub is_under : ℕ → Segment → Bool
is_under high segment = nat_lt segment.base high

-- everything that is there lies below the next handle and the next block
pub record IsBelowNext (soft : Soft) : Type 0 where
  pub handles : list_all (is_below soft.database.next) soft.database.handles ≡ true
  pub segments : list_all (is_under soft.next_block) soft.memory ≡ true

-- the new handle comes last, with its two interfaces
pub entry-last : (handle : ℕ) (first second : Interface) (entries : List HandleEntry) → list_all (is_below handle) entries ≡ true
    → with_interface handle second (entries ++ new_entry handle first ∷ []) ≡ entries ++ record { handle = handle; interfaces = first ∷ second ∷ [] } ∷ []
entry-last handle first second [] below = let same : nat_eq handle handle ≡ true = grind (arith, nat_tests) in rw same refl
entry-last handle first second (entry ∷ entries) below =
    let parts = and_parts (is_below handle entry) (list_all (is_below handle) entries) below in
    let other : is_handle handle entry ≡ false = grind (arith, nat_tests, parts.0) in
    rw other (ap (λ (rest : List HandleEntry). entry ∷ rest) (entry-last handle first second entries parts.1))

-- and so does its path
mapped-last : (new : Segment) (segments : List Segment) → list_all (is_under new.base) segments ≡ true → mapped new segments ≡ segments ++ new ∷ []
mapped-last new [] under = refl
mapped-last new (segment ∷ segments) under =
    let parts = and_parts (is_under new.base segment) (list_all (is_under new.base) segments) under in
    rw parts.0 (ap (λ (rest : List Segment). segment ∷ rest) (mapped-last new segments parts.1))

step-handles : (soft : Soft) (bridge : ℕ × ℕ) → IsBelowNext soft → (step soft bridge).database.handles ≡ soft.database.handles ++ root_entry soft.database.next soft.next_block ∷ []
step-handles soft bridge low = entry-last soft.database.next (path_interface soft.next_block) bridge_interface soft.database.handles low.handles

step-memory : (soft : Soft) (bridge : ℕ × ℕ) → IsBelowNext soft → (step soft bridge).memory ≡ soft.memory ++ root_segment soft.next_block bridge.0 ∷ []
step-memory soft bridge low = mapped-last (root_segment soft.next_block bridge.0) soft.memory low.segments

step-below : (soft : Soft) (bridge : ℕ × ℕ) → IsBelowNext soft → IsBelowNext (step soft bridge)
step-below soft bridge low =
    let next = soft.database.next in
    let block = soft.next_block in
    let entry = root_entry next block in
    let segment = root_segment block bridge.0 in
    let entry_low : is_below (next + 1) entry ≡ true = grind (arith, nat_tests) in
    let segment_low : is_under (block + 16) segment ≡ true = grind (arith, nat_tests) in
    let entries_low = below_more next (next + 1) soft.database.handles (omega arith) low.handles in
    let segments_low = list_all-mono (is_under block) (is_under (block + 16)) soft.memory (λ s under. let h : nat_lt s.base block ≡ true = under in grind (arith, nat_tests)) low.segments in
    record {
      handles =
          ap (list_all (is_below (next + 1))) (step-handles soft bridge low)
          ∙ list_all-append (is_below (next + 1)) soft.database.handles (entry ∷ [])
          ∙ and_from (list_all (is_below (next + 1)) soft.database.handles) (list_all (is_below (next + 1)) (entry ∷ [])) entries_low (and_from (is_below (next + 1) entry) true entry_low refl);
      segments =
          ap (list_all (is_under (block + 16))) (step-memory soft bridge low)
          ∙ list_all-append (is_under (block + 16)) soft.memory (segment ∷ [])
          ∙ and_from (list_all (is_under (block + 16)) soft.memory) (list_all (is_under (block + 16)) (segment ∷ [])) segments_low (and_from (is_under (block + 16) segment) true segment_low refl);
    }

-- ---- all of them

pub record IsGrownBy (bridges : List (ℕ × ℕ)) (soft grown : Soft) : Type 0 where
  pub handles : grown.database.handles ≡ soft.database.handles ++ root_entries soft.database.next soft.next_block bridges
  pub memory : grown.memory ≡ soft.memory ++ root_segments soft.next_block bridges

pub grown : (bridges : List (ℕ × ℕ)) (soft : Soft) → IsBelowNext soft → IsGrownBy bridges soft (fold step soft bridges)
grown [] soft low = record { handles = sym (append-nil soft.database.handles); memory = sym (append-nil soft.memory) }
grown (bridge ∷ bridges) soft low =
    let later = grown bridges (step soft bridge) (step-below soft bridge low) in
    let next = soft.database.next in
    let block = soft.next_block in
    record {
      handles =
          later.handles
          ∙ ap (λ (handles : List HandleEntry). handles ++ root_entries (next + 1) (block + 16) bridges) (step-handles soft bridge low)
          ∙ append_assoc soft.database.handles (root_entry next block ∷ []) (root_entries (next + 1) (block + 16) bridges);
      memory =
          later.memory
          ∙ ap (λ (memory : List Segment). memory ++ root_segments (block + 16) bridges) (step-memory soft bridge low)
          ∙ append_assoc soft.memory (root_segment block bridge.0 ∷ []) (root_segments (block + 16) bridges);
    }
