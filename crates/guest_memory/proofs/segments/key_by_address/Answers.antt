use Rattle.std.proofs.Common.{sym, ◌∙◌}
use Rattle.guest_memory.specs.Segments.{all_in}
use Rattle.guest_memory.proofs.AddressLemmas.{holder_none_up_to, holder_without}
use Rattle.guest_memory.proofs.FilingLemmas.{holder_key, last_there, last_up_to, none_up_to}
use Rattle.guest_memory.proofs.segments.key_by_address.Goals as goal

-- no segment begins at the address or below it
pub returns-in_err-key : goal.returns-in_err-key
returns-in_err-key c =
    rw c.from_residual.ensures (holder_none_up_to (all_in c.args.slots.now c.args.bases.now.entries) c.args.at c.args.n (none_up_to c.args.slots.now c.args.bases.now c.requires.filed c.args.at c.in_err-key.ensures))

-- there is one under the last key
pub returns-in_err-get : goal.returns-in_err-get
returns-in_err-get c = absurd (last_there c.args.slots.now c.args.bases.now c.requires.filed c.args.at c.in_ok-key.key c.in_ok-key.ensures (sym c.in_err-get.ensures))

-- it has the range
pub returns-then-has : goal.returns-then-has
returns-then-has c =
    holder_key c.args.slots.now c.args.bases.now c.requires.filed c.in_ok-key.key c.args.at c.args.n c.in_ok-get.field-0.now (sym c.in_ok-get.ensures) c.requires.some (sym c.has.ensures ∙ c.if-has.true)

-- it has not, and so no segment has
pub returns : goal.returns
returns c =
    let segment = c.in_ok-get.field-0.now in
    holder_without (all_in c.args.slots.now c.args.bases.now.entries) segment c.args.at c.args.n c.requires.filed.apart
    (last_up_to c.args.slots.now c.args.bases.now c.requires.filed c.args.at c.in_ok-key.key segment c.in_ok-key.ensures (sym c.in_ok-get.ensures)) c.requires.some (sym c.has.ensures ∙ c.if-has.false)
