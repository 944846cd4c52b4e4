use Rattle.std.proofs.Common.{◌≡◌, ◌≤◌, ℕ, false, arith}
use Rattle.std.specs.Ordering.{is_gt, nat_cmp}
use Rattle.std.proofs.lemmas.Bool.Decides.{nat_tests}
use Rattle.std.proofs.lemmas.Map.Keys.{ge_from_not_lt, le_from_not_gt}
use Rattle.guest_memory.proofs.segments.last_key.Goals as goal

not_above : (a b : ℕ) → a ≤ b → is_gt (nat_cmp a b) ≡ false
not_above a b low = grind (arith, nat_tests, low)

-- the last entry of the range is the last of all up to the address
pub returns-in-Some : goal.returns-in-Some
returns-in-Some c =
    let e : ℕ × ℕ = (c.in-Some.field-0-0.now, c.in-Some.key.now) in
    let range = c.range.ensures.in_range tt in
    let within = range.3 e c.next_back.new.self c.in-Some.ensures.steps in
    record {
      base = e.0;
      here = within.1;
      low = le_from_not_gt e.0 c.args.at within.0.1;
      greatest = λ other low there. ge_from_not_lt e.0 other (range.4 e c.next_back.new.self c.in-Some.ensures.steps other (tt, not_above other c.args.at low) there);
    }
