use Rattle.std.proofs.Common.{Some, None, cond, sym, ap, ◌∙◌}
use Rattle.std.specs.Option.{option_copied}
use Rattle.guest_memory.specs.declared.segment.Segment.{Segment}
use Rattle.guest_memory.proofs.AddressLemmas.{image_is}
use Rattle.guest_memory.proofs.segments.Segments.image.Goals as goal

-- no segment has the address
pub returns-in_err-segment-clause-found : goal.returns-in_err-segment-clause-found
returns-in_err-segment-clause-found c =
    let none = sym (ap option_copied c.in_err-segment.was) ∙ c.holder.ensures.found in
    ap option_copied c.from_residual.ensures ∙ sym (image_is c.args.self.now c.args.at None c.holder.ensures.apart none)

-- the one that has it is an image
pub returns-then-is_image-clause-found : goal.returns-then-is_image-clause-found
returns-then-is_image-clause-found c =
    let segment : Segment = c.in_ok-segment.segment.now in
    let found = sym (ap option_copied c.in_ok-segment.was) ∙ c.holder.ensures.found in
    sym (image_is c.args.self.now c.args.at (Some segment) c.holder.ensures.apart found ∙ ap (λ is. cond is (Some segment) None) (sym c.is_image.ensures ∙ c.if-is_image.true))

-- or it is not
pub returns-clause-found : goal.returns-clause-found
returns-clause-found c =
    let segment : Segment = c.in_ok-segment.segment.now in
    let found = sym (ap option_copied c.in_ok-segment.was) ∙ c.holder.ensures.found in
    sym (image_is c.args.self.now c.args.at (Some segment) c.holder.ensures.apart found ∙ ap (λ is. cond is (Some segment) None) (sym c.is_image.ensures ∙ c.if-is_image.false))
