use Rattle.std.proofs.Common.{◌≡◌, ◌≤◌, length, nat_le, sym, ap, ◌∙◌, ℕ, List, arith}
use Rattle.std.specs.Prelude.{insert}
use Rattle.std.specs.List.{position_or_len}
use Rattle.world_model.specs.declared.thunk.Thunk.{Thunk}
use Rattle.soft_pieces.proofs.Placing.{by_number, place_within}
use Rattle.soft_pieces.proofs.thunks.put_thunk.Goals as goal

pub insert-requires : goal.insert-requires
insert-requires c =
    let within : position_or_len (λ (t : Thunk). nat_le c.args.new.number t.number) c.as_slice.result.now ≤ length c.as_slice.result.now = place_within (λ (t : Thunk). nat_le c.args.new.number t.number) c.as_slice.result.now in
    omega (arith, within, c.place_by_number-place.ensures, c.as_slice.ensures.len)

pub returns : goal.returns
returns c =
    let list : List Thunk = c.args.thunks.now.items in
    let place : c.place_by_number-place.result ≡ position_or_len (λ (t : Thunk). nat_le c.args.new.number t.number) list =
    c.place_by_number-place.ensures ∙ ap (position_or_len (λ (t : Thunk). nat_le c.args.new.number t.number)) c.as_slice.ensures.value in
    c.in_ok-insert.ensures.items ∙ ap (λ (n : ℕ). insert list n c.args.new) place ∙ sym (by_number c.args.new list)
