use Rattle.std.proofs.Common.{◌≡◌, ◌<◌, ℕ, ◌+◌, false, [], ◌∷◌, ◌++◌, length, None, refl, ap, sym, ◌∙◌, arith}
use Rattle.fw_types.specs.Guid.{known_guid}
use Rattle.fw_types.specs.declared.guid.Known.TheVariants.{LoadedImage as LoadedImageProtocol}
use Rattle.guest_memory.specs.declared.segment.SegKind.TheVariants as kind
use Rattle.guest_memory.specs.GuestMemory.{mapped}
use Rattle.handle_db.specs.Installing.{installed}
use Rattle.world_model.specs.World.{Soft}
use Rattle.world_model.specs.Interfaces.{firmware, interface}
use Rattle.world_model.specs.Images.{block_bytes, is_image_full, next_step, block_contents}
use Rattle.world_model.proofs.KeepingImages.{fitting, fitting_image_block, room_of}
use Rattle.soft_part.specs.Soft.{soft_of}
use Rattle.soft_part.proofs.Keeps.{kept_added}
use Rattle.soft_part.proofs.soft_part.SoftPart.add_image.Goals as goal

pub add_loaded-requires-clause-handle : goal.add_loaded-requires-clause-handle
add_loaded-requires-clause-handle c =
    let inside = c.self.inside in
    let bytes = c.args.bytes.items in
    let soft : Soft = soft_of inside.memory inside.database inside.plain in
    let count : c.len-size.result ≡ length bytes = c.len-size.ensures ∙ c.args.bytes.ok.0 in
    let room : is_image_full (length bytes) soft ≡ false =
    ap (λ (size : ℕ). is_image_full size soft) (sym count) ∙ ap (is_image_full c.len-size.result) c.self.view_is ∙ sym c.is_image_full.ensures ∙ c.if-is_image_full.false in
    (room_of (length bytes) soft room).database

pub add_loaded-requires-clause-sound : goal.add_loaded-requires-clause-sound
add_loaded-requires-clause-sound c = c.self.invariant.database.sound

pub add_loaded-requires-clause-block : goal.add_loaded-requires-clause-block
add_loaded-requires-clause-block c =
    let inside = c.self.inside in
    let bytes = c.args.bytes.items in
    let soft : Soft = soft_of inside.memory inside.database inside.plain in
    let count : c.len-size.result ≡ length bytes = c.len-size.ensures ∙ c.args.bytes.ok.0 in
    let room : is_image_full (length bytes) soft ≡ false =
    ap (λ (size : ℕ). is_image_full size soft) (sym count) ∙ ap (is_image_full c.len-size.result) c.self.view_is ∙ sym c.is_image_full.ensures ∙ c.if-is_image_full.false in
    let contents = block_contents bytes c.args.subsystem c.args.device soft in
    let contents_is : c.in_ok-contents.contents.items ≡ block_bytes contents =
    c.in_ok-contents.ensures
    ∙ ap (λ (s : Soft). block_bytes (record { parent = firmware; device = c.args.device; base = s.next_image; size = c.len-size.result; subsystem = c.args.subsystem })) (sym c.self.view_is)
    ∙ ap (λ (size : ℕ). block_bytes (record { parent = firmware; device = c.args.device; base = soft.next_image; size = size; subsystem = c.args.subsystem })) count
    in
    rw contents_is (fitting_image_block soft (length bytes) contents c.self.invariant room)

pub add_loaded-requires-clause-image : goal.add_loaded-requires-clause-image
add_loaded-requires-clause-image c =
    let inside = c.self.inside in
    let bytes = c.args.bytes.items in
    let soft : Soft = soft_of inside.memory inside.database inside.plain in
    let count : c.len-size.result ≡ length bytes = c.len-size.ensures ∙ c.args.bytes.ok.0 in
    let room : is_image_full (length bytes) soft ≡ false =
    ap (λ (size : ℕ). is_image_full size soft) (sym count) ∙ ap (is_image_full c.len-size.result) c.self.view_is ∙ sym c.is_image_full.ensures ∙ c.if-is_image_full.false in
    let contents = block_contents bytes c.args.subsystem c.args.device soft in
    let contents_is : c.in_ok-contents.contents.items ≡ block_bytes contents =
    c.in_ok-contents.ensures
    ∙ ap (λ (s : Soft). block_bytes (record { parent = firmware; device = c.args.device; base = s.next_image; size = c.len-size.result; subsystem = c.args.subsystem })) (sym c.self.view_is)
    ∙ ap (λ (size : ℕ). block_bytes (record { parent = firmware; device = c.args.device; base = soft.next_image; size = size; subsystem = c.args.subsystem })) count
    in
    let some : 0 < length bytes = omega arith in
    rw contents_is (fitting soft bytes contents c.self.invariant some room)

pub invariant_of-self-2 : goal.invariant_of-self-2
invariant_of-self-2 c =
    let inside = c.self.inside in
    let bytes = c.args.bytes.items in
    let soft : Soft = soft_of inside.memory inside.database inside.plain in
    let count : c.len-size.result ≡ length bytes = c.len-size.ensures ∙ c.args.bytes.ok.0 in
    let room : is_image_full (length bytes) soft ≡ false =
    ap (λ (size : ℕ). is_image_full size soft) (sym count) ∙ ap (is_image_full c.len-size.result) c.self.view_is ∙ sym c.is_image_full.ensures ∙ c.if-is_image_full.false in
    let contents = block_contents bytes c.args.subsystem c.args.device soft in
    let contents_is : c.in_ok-contents.contents.items ≡ block_bytes contents =
    c.in_ok-contents.ensures
    ∙ ap (λ (s : Soft). block_bytes (record { parent = firmware; device = c.args.device; base = s.next_image; size = c.len-size.result; subsystem = c.args.subsystem })) (sym c.self.view_is)
    ∙ ap (λ (size : ℕ). block_bytes (record { parent = firmware; device = c.args.device; base = soft.next_image; size = size; subsystem = c.args.subsystem })) count
    in
    let memory_is : c.add_loaded.new.memory ≡ mapped (record { base = inside.plain.next_image; bytes = bytes; kind = kind.Image }) (mapped (record { base = inside.plain.next_block; bytes = block_bytes contents; kind = kind.Pool }) inside.memory) =
    c.in_ok-handle.ensures.memory ∙ rw contents_is refl in
    let db_is : c.add_loaded.new.db ≡ installed None (interface (known_guid LoadedImageProtocol) inside.plain.next_block firmware) inside.database =
    c.in_ok-handle.ensures.database in
    let images_is : c.push_reserved.new.self.items ≡ inside.plain.images.items ++ record { handle = inside.database.next; base = inside.plain.next_image; entry = inside.plain.next_image + c.args.entry; block = inside.plain.next_block } ∷ [] =
    c.push_reserved.ensures.items ∙ rw (c.in_ok-reserve.ensures.items, c.in_ok-handle.ensures.handle, c.from.ensures) refl in
    kept_added soft bytes c.args.entry c.args.subsystem c.args.device c.add_loaded.new.memory c.add_loaded.new.db c.push_reserved.new.self.items c.next_step-self-inside.result (inside.plain.next_block + c.block_room.result) c.self.invariant c.requires room
    memory_is db_is images_is (c.next_step-self-inside.ensures ∙ ap (λ (size : ℕ). next_step (inside.plain.next_image + size)) count) (ap (λ (n : ℕ). inside.plain.next_block + n) c.block_room.ensures)
