-- The lines that name option ROMs.
use Rattle.std.proofs.Common.{◌≡◌, ℕ, Bool, true, false, ◌||◌, List, [], ◌∷◌, refl}
use Rattle.std.specs.List.{filter_map, list_any}
use Rattle.pci_model.specs.BoardLines.{Location, is_at, name_at, rom_location}
use Rattle.pci_model.specs.BoardRules.{has_rom}
use Rattle.pci_model.specs.Laws.{RomIsNew}
use Rattle.pci_model.specs.declared.line.BoardLine.{BoardLine}
use Rattle.pci_model.specs.declared.line.BoardLine.TheVariants.{Root, Func, Bridge, Bar, Rom}
use Rattle.pci_model.proofs.LineLaws.{each_passes}
use Rattle.pci_model.proofs.PassingLines.{passes}

any-false : (a b : Bool) → a || b ≡ false → (a ≡ false) × (b ≡ false)
any-false true b h = absurd cc
any-false false b h = (refl, h)

-- if no line is for a ROM, no line names it
none_named : (location : Location) (lines : List BoardLine) → has_rom lines location ≡ false → filter_map (name_at location) lines ≡ []
none_named location [] none = refl
none_named location (Root uid bus ∷ lines) none = none_named location lines none
none_named location (Func bus device function vendor id class ∷ lines) none = none_named location lines none
none_named location (Bridge bus device function vendor id secondary ∷ lines) none = none_named location lines none
none_named location (Bar bus device function index address size ∷ lines) none = none_named location lines none
none_named location (Rom bus device function name ∷ lines) none =
    let parts = any-false (is_at (bus, device, function) location) (has_rom lines location) none in
    rw parts.0 (none_named location lines parts.1)

pub rom_is_new : RomIsNew
rom_is_new before after bus device function name ok =
    none_named (bus, device, function) before (passes before (Rom bus device function name) (each_passes before after (Rom bus device function name) ok)).new_rom
