-- A function's device: what a driver reads and writes of it.
use Rattle.std.specs.Prelude.{ℕ, List}
use Rattle.pci_model.specs.declared.device.BarBytes.{BarBytes}

-- the bytes of its configuration space, and those of its BARs, in the order of their lines
pub record DeviceState : Type 0 where
  pub config : List ℕ
  pub bars : List BarBytes
