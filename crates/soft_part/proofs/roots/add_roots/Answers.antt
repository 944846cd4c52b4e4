use Rattle.std.proofs.Common.{◌≡◌, ◌<◌, ℕ, take, length, get_or, false, sym, subst, ap, ◌∙◌, arith}
use Rattle.std.proofs.lemmas.List.{length-take-le}
use Rattle.std.proofs.lemmas.List.Sums.{fold_more}
use Rattle.pci_model.specs.declared.numbers.TheConstants.{MOST_ROOTS}
use Rattle.world_model.specs.World.{Soft}
use Rattle.world_model.specs.Boards.{is_root_full}
use Rattle.world_model.specs.Opening.{firmware_soft, root_added}
use Rattle.soft_part.proofs.roots.add_roots.Goals as goal

pub add_root-requires : goal.add_root-requires
add_root-requires c =
    let bridges = c.args.bridges.now in
    let i = c.loop-bridge.bridge-index in
    let uid = (get_or bridges i (0, 0)).0 in
    let within : i < length bridges = c.loop-bridge-test.true in
    let taken : length (take i bridges) ≡ i = length-take-le i bridges (omega arith) in
    let so_far : length (take i bridges) < MOST_ROOTS = omega (arith, c.requires.few) in
    subst (λ (soft : Soft). is_root_full uid soft ≡ false) (sym c.loop-bridge.invariant) (c.roots_are_there.ensures.fit (length c.args.soft.now.bus_lists) (take i bridges) uid so_far)

pub loop-bridge-preserved : goal.loop-bridge-preserved
loop-bridge-preserved c =
    let bridges = c.args.bridges.now in
    let i = c.loop-bridge.bridge-index in
    c.in_ok-add_root.ensures
    ∙ ap (root_added (get_or bridges i (0, 0)).0) c.loop-bridge.invariant
    ∙ sym (fold_more (λ (soft : Soft) (bridge : ℕ × ℕ). root_added bridge.0 soft) (firmware_soft (length c.args.soft.now.bus_lists)) bridges i (0, 0) c.loop-bridge-test.true)
