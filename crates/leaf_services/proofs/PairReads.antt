-- If all pairs can be read, each of them can.
use Rattle.std.proofs.Common.{◌≡◌, ◌<◌, ◌≤◌, inl, inr, ℕ, zero, suc, ◌+◌, Bool, true, nat_le, ap, ◌∙◌, arith}
use Rattle.std.specs.Prelude.{is_ok}
use Rattle.std.specs.List.{list_all, range_with_len}
use Rattle.std.proofs.lemmas.Bool.{and_parts, cases_lt}
use Rattle.world_model.specs.World.{State}
use Rattle.service_model.specs.Allowed.{can_read_pairs}
use Rattle.service_model.specs.Many.{pair_at}
use Rattle.service_model.specs.declared.numbers.TheConstants.{MOST_PAIRS}

-- a test that holds for a range holds for each number in it
holds_at : (test : ℕ → Bool) (from n i : ℕ) → list_all test (range_with_len from n) ≡ true → from ≤ i → i < from + n → test i ≡ true
holds_at test from zero i all low high = absurd (omega arith)
holds_at test from (suc n) i all low high =
    let parts = and_parts (test from) (list_all test (range_with_len (from + 1) n)) all in
    elim (cases_lt from i) [
      | inl above ↦ holds_at test (from + 1) n i parts.1 (omega arith) (omega arith)
      | inr first ↦
          let same : i ≡ from = omega arith in
          ap test same ∙ parts.0
    ]

pub reads_pair : (list count i : ℕ) (w : State) → can_read_pairs list count w ≡ true → i < count → is_ok (pair_at list i w) ≡ true
reads_pair list count i w can low =
    let parts = and_parts (nat_le count MOST_PAIRS) (list_all (λ i. is_ok (pair_at list i w)) (range_with_len 0 count)) can in
    holds_at (λ i. is_ok (pair_at list i w)) 0 count i parts.1 (omega arith) (omega arith)
