-- A sink in memory.
use Rattle.std.specs.Prelude.{◌≡◌, ◌⊎◌, [], refl, ℕ, ◌-◌, ◌<◌, ◌≤◌, List, ◌++◌, Bool, not, ◌&&◌, ◌||◌, Result, Ok, Err, min, take, length, nat_eq, if◌then◌else◌}
use Rattle.std.specs.List.{list_any}
use Rattle.std.proofs.Common.{inl, inr, le_refl, ap, sym, ◌∙◌, append-nil, append_assoc, length-append}
use Rattle.std.proofs.Math.Nat.{le_trans, le-add_right, le_of_sub-eq-zero, sub-eq-zero_of_le}
use Rattle.fw_shelf.specs.Faults.{next_count}
use Rattle.fw_shelf.specs.declared.sink.SinkFailed.{SinkFailed}

-- what was taken, how much fits, how much one write takes at most, the numbers of the writes that
-- fail, how many writes there were, and how many failed
pub record SinkInMemory : Type 0 where
  pub bytes : List ℕ
  pub room : ℕ
  pub step : ℕ
  pub failing_writes : List ℕ
  pub writes : ℕ
  pub faults : ℕ

-- the room is reserved, and a write can take a byte
pub record IsReserved (len capacity room step : ℕ) : Type 0 where
  pub within : len ≤ room
  pub reserved : room ≤ capacity
  pub positive : 0 < step

-- how many bytes still fit
abbrev pub room_left : SinkInMemory → ℕ
room_left sink = sink.room - length sink.bytes

-- whether the next write fails: its number, from 1, is listed, or there are bytes and no room
abbrev pub write_fails : SinkInMemory → List ℕ → Bool
write_fails sink piece =
    (not (nat_eq (length piece) 0) && nat_eq (room_left sink) 0)
    || list_any (λ n. nat_eq n (next_count sink.writes)) sink.failing_writes

-- how many bytes of a piece a write takes
abbrev pub share_of : SinkInMemory → List ℕ → ℕ
share_of sink piece = min (min (length piece) sink.step) (room_left sink)

-- what a write answers
abbrev pub answer_to : SinkInMemory → List ℕ → Result ℕ SinkFailed
answer_to sink piece = if write_fails sink piece then Err (record {}) else Ok (share_of sink piece)

-- the sink after a write
abbrev pub after_write : SinkInMemory → List ℕ → SinkInMemory
after_write sink piece =
    if write_fails sink piece
    then record sink { writes = next_count sink.writes; faults = next_count sink.faults }
    else record sink {
      bytes = sink.bytes ++ take (share_of sink piece) piece;
      writes = next_count sink.writes;
    }

-- nothing more fits
abbrev pub IsFull : SinkInMemory → Type 0
IsFull sink = room_left sink ≡ 0

-- what writes may make of a sink: what was taken is a prefix of what is taken then, no count falls, and if
-- no write is to fail none rises before the sink is full
pub record IsLater (old new : SinkInMemory) : Type 0 where
  pub bytes : (more : List ℕ) × (new.bytes ≡ old.bytes ++ more)
  pub room : new.room ≡ old.room
  pub step : new.step ≡ old.step
  pub failing_writes : new.failing_writes ≡ old.failing_writes
  pub not_fallen : old.faults ≤ new.faults
  pub faults : old.failing_writes ≡ [] → (new.faults ≡ old.faults) ⊎ IsFull new

-- a full sink stays full
pub IsFull-later : (a b : SinkInMemory) → IsLater a b → IsFull a → IsFull b
IsFull-later a b later full =
    let length_is = ap length later.bytes.1 ∙ length-append a.bytes later.bytes.0 in
    ap (λ room. room - length b.bytes) later.room
    ∙ ap (λ taken. a.room - taken) length_is
    ∙ sub-eq-zero_of_le (le_trans (le_of_sub-eq-zero full) (le-add_right _ _))

-- a sink that did not change counts as later
pub IsLater-same : (sink : SinkInMemory) → IsLater sink sink
IsLater-same sink = record {
  bytes = ([], sym (append-nil sink.bytes));
  room = refl;
  step = refl;
  failing_writes = refl;
  not_fallen = le_refl sink.faults;
  faults = λ _. inl refl;
}

-- a sink that is later than a later one is later
pub IsLater-again : (a b c : SinkInMemory) → IsLater a b → IsLater b c → IsLater a c
IsLater-again a b c first second =
    let more = first.bytes.0 in
    let again = second.bytes.0 in
    let grown = ap (λ bytes. bytes ++ again) first.bytes.1 ∙ append_assoc a.bytes more again in
    record {
      bytes = (more ++ again, second.bytes.1 ∙ grown);
      room = second.room ∙ first.room;
      step = second.step ∙ first.step;
      failing_writes = second.failing_writes ∙ first.failing_writes;
      not_fallen = le_trans first.not_fallen second.not_fallen;
      faults = λ none. elim (second.faults (first.failing_writes ∙ none)) [
        | inr full ↦ inr full
        | inl same ↦ elim (first.faults none) [
          | inl before ↦ inl (same ∙ before)
          | inr full ↦ inr (IsFull-later b c second full)
        ]
      ];
    }

-- a later sink has no lower count of faults
pub IsLater-faults : (a b : SinkInMemory) → IsLater a b → a.faults ≤ b.faults
IsLater-faults a b later = later.not_fallen
