use Rattle.soft_part.proofs.soft_part.SoftPart.thunk_at.Goals as goal

-- the thunks rise up to the next one
pub thunk_with-requires : goal.thunk_with-requires
thunk_with-requires c = rw c.as_slice.ensures.value (c.self.inside.plain.next_thunk, c.self.invariant.thunks.numbers)
