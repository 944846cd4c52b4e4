use Rattle.std.proofs.Common.{◌≡◌, ℕ, ◌-◌, length, refl, sym, ap, subst, ◌∙◌}
use Rattle.world_model.specs.declared.change.Change.TheVariants.{MakeThunk}
use Rattle.world_model.specs.World.{Soft}
use Rattle.world_model.specs.Kept.{IsKept}
use Rattle.world_model.specs.Undo.{taken_back}
use Rattle.soft_part.specs.Soft.{soft_of}
use Rattle.soft_part.proofs.soft_part.SoftPart.unmake_thunk.Goals as goal

pub invariant_of-self : goal.invariant_of-self
unfolding taken_back
invariant_of-self c =
    let inside = c.self.inside in
    let soft : Soft = soft_of inside.memory inside.database inside.plain in
    let kept : IsKept (taken_back MakeThunk soft) = subst (λ (s : Soft). IsKept (taken_back MakeThunk s)) (sym c.self.view_is) c.requires in
    let count : c.saturating_sub-others.result ≡ length inside.plain.thunks.items - 1 = c.saturating_sub-others.ensures ∙ ap (λ (n : ℕ). n - 1) (c.len.ensures ∙ inside.plain.thunks.ok.0) in
    rw (c.truncate.ensures.items, count, c.saturating_sub-self-inside.ensures) kept

pub returns : goal.returns
unfolding taken_back
returns c =
    let inside = c.self.inside in
    let count : c.saturating_sub-others.result ≡ length inside.plain.thunks.items - 1 = c.saturating_sub-others.ensures ∙ ap (λ (n : ℕ). n - 1) (c.len.ensures ∙ inside.plain.thunks.ok.0) in
    rw (c.truncate.ensures.items, count, c.saturating_sub-self-inside.ensures, ← c.self.view_is) refl
