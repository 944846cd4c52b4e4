use Rattle.std.proofs.Common.{◌≡◌, not, false, nat_eq, refl, sym, ap, ◌∙◌, arith}
use Rattle.std.specs.Prelude.{Ok}
use Rattle.std.proofs.lemmas.Bool.Decides.{nat_tests}
use Rattle.std.proofs.lemmas.Result.{err_from_is_err_and}
use Rattle.service_model.specs.Connecting.{first_without}
use Rattle.service_rows.proofs.HandleList.{first-same, slot_last, slot_on}
use Rattle.service_rows.proofs.connecting.length_within.Goals as goal

pub returns-in_err-handle : goal.returns-in_err-handle
returns-in_err-handle c =
    let w = c.args.w.now.now in
    let read = sym c.number.ensures ∙ c.in_err-handle.was in
    let first = c.loop-i.invariant ∙ first-same c.args.list c.args.slots w in
    let p = err_from_is_err_and c.from_residual.result c.from_residual.ensures.1 in
    rw (p.1, p.2) (sym (slot_last c.args.list c.args.slots c.loop-i.i c.slot_at.result w _ (first_without c.args.slots c.args.list w) c.loop-i-test.true c.slot_at.ensures read refl first))

pub returns-then-handle-eq0 : goal.returns-then-handle-eq0
returns-then-handle-eq0 c =
    let w = c.args.w.now.now in
    let read = sym c.number.ensures ∙ c.in_ok-handle.was in
    let first = c.loop-i.invariant ∙ first-same c.args.list c.args.slots w in
    let none : not (nat_eq c.in_ok-handle.handle 0) ≡ false = ap (λ handle. not (nat_eq handle 0)) c.if-handle-eq0.true in
    sym (slot_last c.args.list c.args.slots c.loop-i.i c.slot_at.result w (Ok c.in_ok-handle.handle) (first_without c.args.slots c.args.list w) c.loop-i-test.true c.slot_at.ensures read none first)

pub loop-i-preserved : goal.loop-i-preserved
loop-i-preserved c =
    let w = c.args.w.now.now in
    let read = sym c.number.ensures ∙ c.in_ok-handle.was in
    let some : nat_eq c.in_ok-handle.handle 0 ≡ false = grind (arith, nat_tests, c.if-handle-eq0.false) in
    sym (slot_on c.args.list c.args.slots c.loop-i.i c.slot_at.result c.in_ok-handle.handle w c.loop-i-test.true c.slot_at.ensures read some) ∙ c.loop-i.invariant
