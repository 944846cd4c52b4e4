use Rattle.std.proofs.Common.{◌≡◌, bytes_eq, false, refl}
use Rattle.soft_part.proofs.RootHandles.{second_fits}
use Rattle.soft_part.proofs.roots.add_root.Goals as goal

pub add_interface-requires-2 : goal.add_interface-requires-2
add_interface-requires-2 c =
    let other : bytes_eq c.known.result c.known-guid.result ≡ false = rw (c.known.ensures, c.known-guid.ensures) refl in
    second_fits c.args.soft.now c.add_block.new.soft c.add_interface.new.soft c.in_ok-path.path c.in_ok-handle.handle c.in_ok-bytes.bytes.items c.known.result c.known-guid.result
    c.is_kept.ensures c.in_ok-path.ensures.ok other c.in_ok-handle.ensures.handle c.in_ok-handle.ensures.ok
