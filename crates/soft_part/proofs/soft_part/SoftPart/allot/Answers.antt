use Rattle.std.proofs.Common.{◌≡◌, ℕ, false, length, sym, ap, ◌∙◌}
use Rattle.world_model.specs.World.{Soft}
use Rattle.world_model.specs.Blocks.{is_block_full, block_room}
use Rattle.world_model.proofs.KeepingBlocks.{allotting, fitting}
use Rattle.soft_part.specs.Soft.{soft_of}
use Rattle.soft_part.proofs.soft_part.SoftPart.allot.Goals as goal

pub map_free-requires : goal.map_free-requires
map_free-requires c =
    let inside = c.self.inside in
    let soft : Soft = soft_of inside.memory inside.database inside.plain in
    let count : c.len-size.result ≡ length c.args.bytes.items = c.len-size.ensures ∙ c.args.bytes.ok.0 in
    let room : is_block_full (length c.args.bytes.items) soft ≡ false =
    ap (λ (s : Soft). is_block_full (length c.args.bytes.items) s) c.self.view_is ∙ ap (λ (size : ℕ). is_block_full size c.args.self.now) (sym count) ∙ sym c.is_block_full.ensures ∙ c.if-is_block_full.false in
    fitting soft c.args.bytes.items c.args.kind c.self.invariant c.requires room

pub invariant_of-self-2 : goal.invariant_of-self-2
invariant_of-self-2 c =
    let inside = c.self.inside in
    let soft : Soft = soft_of inside.memory inside.database inside.plain in
    let count : c.len-size.result ≡ length c.args.bytes.items = c.len-size.ensures ∙ c.args.bytes.ok.0 in
    let room : is_block_full (length c.args.bytes.items) soft ≡ false =
    ap (λ (s : Soft). is_block_full (length c.args.bytes.items) s) c.self.view_is ∙ ap (λ (size : ℕ). is_block_full size c.args.self.now) (sym count) ∙ sym c.is_block_full.ensures ∙ c.if-is_block_full.false in
    rw (c.in_ok-map_free.ensures.ok, c.block_room.ensures ∙ ap block_room count) (allotting soft c.args.bytes.items c.args.kind c.self.invariant c.requires room)
