-- The load of an image: its mark keeps the stacks, and laying the image leaves them as they are.
use Rattle.std.proofs.Common.{◌≡◌, ℕ, List, ◌∷◌, true, sym, ap, ◌∙◌}
use Rattle.std.specs.Prelude.{Result, Ok, Err, OnOk}
use Rattle.fw_types.specs.declared.memory.OutOfMemory.{OutOfMemory}
use Rattle.pe_image.specs.ImageRules.{entry_of, subsystem_of}
use Rattle.pe_image.specs.LaidImage.{laid}
use Rattle.world_model.specs.World.{Soft, State, WorldView, on_soft}
use Rattle.world_model.specs.Levels.{MarkingLeavesFree, is_free}
use Rattle.world_model.specs.Marks.{marked, marked_stacks, put_back, stacks}
use Rattle.world_model.specs.StackLaws.{AddingKeepsStacks}
use Rattle.image_table.specs.Placing.{file_added}

-- the world before the load, with the mark, and with the image
module _ (before with_mark with_image : WorldView) (file : List ℕ) (device : ℕ) where
  pub stacks_after_laying : AddingKeepsStacks → with_mark ≡ marked before → with_image.now ≡ on_soft (file_added file device) with_mark.now
      → stacks with_image.now.soft ≡ stacks before.now.soft
  stacks_after_laying adding marking laying =
      ap (λ (w : State). stacks w.soft) laying
      ∙ adding with_mark.now.soft (laid file with_mark.now.soft.next_image) (entry_of file) (subsystem_of file) device
      ∙ ap (λ (w : WorldView). stacks w.now.soft) marking

-- after the mark is made, the same levels are free
pub free_after_laying : (left : ℕ) (before with_mark with_image : WorldView) → MarkingLeavesFree → is_free left (stacks before.now.soft) before.marks ≡ true
    → with_mark ≡ marked before → with_image.marks ≡ with_mark.marks → stacks with_image.now.soft ≡ stacks before.now.soft
    → is_free left (stacks with_image.now.soft) with_image.marks ≡ true
free_after_laying left before with_mark with_image free_by is-free marking marks stays =
    let open_marks : with_image.marks ≡ before.now.soft ∷ before.marks = marks ∙ ap (λ (w : WorldView). w.marks) marking in
    rw (stays, open_marks) (free_by left before.now.soft before.marks is-free)

-- and what was called leaves the stacks that the mark keeps
pub stacks_of_mark : (before with_mark with_image after : WorldView) → with_mark ≡ marked before → with_image.marks ≡ with_mark.marks
    → after.marks ≡ with_image.marks → stacks after.now.soft ≡ stacks before.now.soft → stacks after.now.soft ≡ marked_stacks after
stacks_of_mark before with_mark with_image after marking marks still stays =
    stays ∙ sym (ap (λ (kept : List Soft). stacks (put_back kept after.now).soft) (still ∙ marks ∙ ap (λ (w : WorldView). w.marks) marking))

-- one fact follows from another, unless memory ran out
pub on_ok : {A P Q : Type 0} (result : Result A OutOfMemory) → (P → Q) → OnOk result P → OnOk result Q
on_ok (Ok a) follows fact = follows fact
on_ok (Err error) follows fact = tt
