-- The load of an image keeps what each single move keeps.
use Rattle.std.proofs.Common.{◌≡◌, ◌<◌, ℕ, ◌+◌, Bool, true, false, not, nat_lt, List, [], length, Option, Some, None, refl, ap, arith}
use Rattle.std.proofs.lemmas.Bool.{and_from}
use Rattle.std.proofs.lemmas.Bool.Decides.{nat_tests}
use Rattle.fw_types.specs.declared.event.Outcome.{Outcome}
use Rattle.fw_types.specs.declared.image.PeRefusal.{PeRefusal}
use Rattle.fw_types.specs.declared.status.Status.{Status}
use Rattle.pe_image.specs.ImageRules.{entry_of, refusal_of, size_of, subsystem_of}
use Rattle.pe_image.specs.LaidImage.{laid}
use Rattle.pe_image.proofs.LaidSizeLemmas.{length-laid}
use Rattle.pe_image.proofs.RuleLemmas.{keeps_limits}
use Rattle.world_model.specs.World.{State}
use Rattle.world_model.specs.Images.{is_image_full}
use Rattle.driver_model.specs.Moves.{Move, Operations, adds_image, pays}
use Rattle.driver_model.specs.Allowed.{is_allowed}
use Rattle.driver_model.specs.Level.{Level}
use Rattle.driver_model.specs.ImageLife.{Load, accepted, entry_call, failure_of, image_loaded, kept_unless, laid_and_entered, laying_price, unless_refused}
use Rattle.driver_model.specs.declared.call.Call.{Call}
use Rattle.driver_model.specs.declared.call.Scope.{Scope}
use Rattle.driver_model.proofs.Keeping.{Keeps, KeepsMoves, choose, choose_by}

-- the move that adds the image of a file
abbrev adds_file : (file : List ℕ) → (device : ℕ) → State → Move
adds_file file device w = adds_image (laid file w.soft.next_image) (entry_of file) (subsystem_of file) device

-- It can be made, if the file is accepted and there is room: the laid image has the size that the file says, and its
-- entry is inside.
can_add : (file : List ℕ) (device : ℕ) (w : State) → refusal_of file ≡ None → is_image_full (size_of file) w.soft ≡ false → is_allowed (adds_file file device w) w ≡ true
can_add file device w fine room =
    let size : length (laid file w.soft.next_image) ≡ size_of file = length-laid file w.soft.next_image fine in
    let inside : entry_of file < size_of file = (keeps_limits file fine).entry_inside in
    let test : nat_lt (entry_of file) (size_of file) ≡ true = grind (arith, nat_tests, inside) in
    rw size (and_from (nat_lt (entry_of file) (size_of file)) (not (is_image_full (size_of file) w.soft)) test (ap not room))

module _ {S : Type 0} (o : Operations S) (is_listable : List ℕ → Bool) (R : (level : ℕ) → S → S → Type 0) (kept : KeepsMoves o is_listable R)
    (level : ℕ) (l : Level S) (k : Keeps is_listable R level l) (scope : Scope) (file : List ℕ) (device : ℕ) where
  -- an image whose entry point failed is taken away by an undo
  undone_keeps : (failure : Option Status) (image : ℕ) (w v : S) → R level w v → R level w (kept_unless o failure image (o.see w).soft v).world
  undone_keeps None image w v keeps = keeps
  undone_keeps (Some status) image w v keeps = kept.undone level w v keeps

  laid_keeps : (w : S) → refusal_of file ≡ None → R level w (laid_and_entered o l scope file device w).world
  laid_keeps w fine =
      let added : S = o.make (adds_file file device (o.see w)) w in
      let call : Call = entry_call (o.see w).soft.database.next ((o.see w).soft.next_image + entry_of file) in
      let r : Outcome × S = l.call scope call [] added in
      choose_by (λ (load : Load S). R level w load.world) (is_image_full (size_of file) (o.see w).soft) _ _ (λ full. kept.same level w)
      (λ room. undone_keeps (failure_of r.0) (o.see w).soft.database.next w r.1
      (kept.joined level w added r.1 (kept.moves level (adds_file file device (o.see w)) w (can_add file device (o.see w) fine room)) (k.call scope call [] added refl kept.childless)))

  accepted_keeps : (w : S) → refusal_of file ≡ None → R level w (accepted o l scope file device w).world
  accepted_keeps w fine =
      choose (λ (load : Load S). R level w load.world) (nat_lt (o.see w).hard.units (laying_price file)) _ _ (kept.same level w)
      (kept.joined level _ _ _ (kept.moves level (pays (laying_price file)) w refl) (laid_keeps _ fine))

  by_refusal : (refusal : Option PeRefusal) (w : S) → refusal_of file ≡ refusal → R level w (unless_refused o l scope file device refusal w).world
  by_refusal (Some refusal) w is = kept.same level w
  by_refusal None w is = accepted_keeps w is

  pub load_keeps : (w : S) → R level w (image_loaded o l scope file device w).world
  unfolding image_loaded
  load_keeps w = by_refusal (refusal_of file) w refl
