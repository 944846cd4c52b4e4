use Rattle.std.proofs.Common.{◌≡◌, true, None, refl}
use Rattle.std.specs.Prelude.{is_ok}
use Rattle.handle_db.specs.declared.handle_entry.Interface.{Interface}
use Rattle.handle_db.specs.Installing.{install_answer}
use Rattle.world_model.specs.Interfaces.{firmware, interface}
use Rattle.soft_pieces.proofs.mapping.add_loaded.Goals as goal

-- the handle was just installed
pub undo_install-requires : goal.undo_install-requires
undo_install-requires c =
    let new : Interface = interface c.known-guid.result c.args.block.0 firmware in
    let ok : is_ok (install_answer None c.known-guid.result c.args.db.now) ≡ true = rw c.requires.handle refl in
    let undone = c.installing_is_undone.ensures None new c.args.db.now c.requires.sound ok in
    rw (c.in_ok-handle.ensures.handle, c.in_ok-handle.ensures.ok) undone.0

pub returns-in-Err-clause-err : goal.returns-in-Err-clause-err
returns-in-Err-clause-err c =
    let new : Interface = interface c.known-guid.result c.args.block.0 firmware in
    let ok : is_ok (install_answer None c.known-guid.result c.args.db.now) ≡ true = rw c.requires.handle refl in
    let undone = c.installing_is_undone.ensures None new c.args.db.now c.requires.sound ok in
    (c.in-Err.ensures.err, rw (c.undo_install.ensures, c.in_ok-handle.ensures.handle, c.in_ok-handle.ensures.ok) undone.1)
