use Rattle.std.proofs.Common.{◌≡◌, map, drop}
use Rattle.fw_types.specs.Layout.{put_all}
use Rattle.pci_model.specs.ConfigSpace.{bar_field}
use Rattle.pci_model.proofs.config_space.put_bars.Given as goal

-- the BARs that are left come to the same
abbrev pub invariant-loop-range : goal.invariant-loop-range
invariant-loop-range l = put_all (map bar_field l.ranges) l.initial.config ≡ put_all (map bar_field (drop l.range-index l.ranges)) l.config
