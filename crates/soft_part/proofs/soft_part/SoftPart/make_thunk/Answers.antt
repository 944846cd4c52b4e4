use Rattle.std.proofs.Common.{◌≡◌, true, false, nat_le, refl, ap, ◌∙◌, arith}
use Rattle.std.proofs.lemmas.Bool.Decides.{nat_tests}
use Rattle.std.specs.Prelude.{is_ok, is_some}
use Rattle.fw_types.specs.declared.limits.TheConstants.{MOST_THUNKS}
use Rattle.world_model.specs.World.{Soft}
use Rattle.world_model.specs.Images.{image_at}
use Rattle.world_model.specs.Thunks.{thunk_answer}
use Rattle.world_model.proofs.KeepingThunks.{making}
use Rattle.soft_part.specs.Soft.{soft_of}
use Rattle.soft_part.proofs.soft_part.SoftPart.make_thunk.Goals as goal

pub invariant_of-self-2 : goal.invariant_of-self-2
invariant_of-self-2 c =
    let inside = c.self.inside in
    let soft : Soft = soft_of inside.memory inside.database inside.plain in
    let some : is_some (image_at c.args.entry soft) ≡ true = ap (λ (s : Soft). is_some (image_at c.args.entry s)) c.self.view_is ∙ c.requires in
    let room : nat_le MOST_THUNKS inside.plain.next_thunk ≡ false = grind (arith, nat_tests) in
    let done : is_ok (thunk_answer soft) ≡ true = rw room refl in
    rw c.in_ok-push.ensures.items (making soft c.args.entry c.self.invariant some done)
