-- Units, in which the work of a command is paid, and the caps on what a part of it may spend.
use Rattle.std.specs.Prelude.{ℕ, ◌+◌, ◌-◌, min}
use Rattle.world_model.specs.World.{Hard}

abbrev pub units_spent : ℕ → Hard → Hard
units_spent price hard = record hard { units = hard.units - price }

-- A cap leaves at most so many units; the others are set aside until it is given back.
abbrev pub units_capped : ℕ → Hard → Hard
units_capped most hard = record hard { units = min most hard.units }

-- how many a cap sets aside
abbrev pub units_aside : ℕ → Hard → ℕ
units_aside most hard = hard.units - min most hard.units

-- units that were set aside come back
abbrev pub units_returned : ℕ → Hard → Hard
units_returned aside hard = record hard { units = hard.units + aside }
