-- The devices of a board before anything is written fit its lines.
use Rattle.std.proofs.Common.{◌≡◌, ◌≤◌, ℕ, Bool, true, false, ◌&&◌, nat_le, List, [], ◌∷◌, length, map, replicate, Option, Some, None, refl, ap, sym, subst, ◌∙◌, arith}
use Rattle.std.specs.List.{list_all, position}
use Rattle.std.specs.BTreeMap.{BTreeMap, get}
use Rattle.std.proofs.lemmas.List.{length-replicate}
use Rattle.std.proofs.lemmas.Bool.Decides.{nat_tests}
use Rattle.pci_model.specs.BoardLines.{Location, functions, is_at, ranges_at, roots}
use Rattle.pci_model.specs.BoardRules.{board_fault}
use Rattle.fw_types.specs.Layout.{put_all}
use Rattle.pci_model.specs.ConfigSpace.{bar_field, bus_fields, first_bytes, first_config, first_device, header_fields}
use Rattle.pci_model.specs.DeviceState.{DeviceState}
use Rattle.pci_model.specs.Devices.{IsSound, Shape, bar_shape, range_shape, shape_in_lines, shape_of}
use Rattle.pci_model.specs.Indexed.{IsIndexed, location_cmp}
use Rattle.pci_model.specs.declared.line.BoardLine.{BoardLine}
use Rattle.pci_model.specs.declared.function.Function.{Function}
use Rattle.pci_model.specs.declared.function.BarRange.{BarRange}
use Rattle.pci_model.proofs.FieldLemmas.{LieIn, length-put_all}
use Rattle.pci_model.proofs.TableLemmas.{low_ranges}

-- ---- fields do not change the size

header_lies : (function : Function) → LieIn 256 (header_fields function)
unfolding LieIn
header_lies function = (omega arith, (omega arith, (omega arith, (omega arith, tt))))

buses_lie : (primary : ℕ) (secondary : Option ℕ) → LieIn 256 (bus_fields primary secondary)
unfolding LieIn
buses_lie primary None = tt
buses_lie primary (Some secondary) = (omega arith, (omega arith, (omega arith, tt)))

and-true : (a b : Bool) → a && b ≡ true → (a ≡ true) × (b ≡ true)
and-true true b h = (refl, h)
and-true false b h = absurd cc

bars_lie : (ranges : List BarRange) → list_all (λ (range : BarRange). nat_le range.index 5) ranges ≡ true → LieIn 256 (map bar_field ranges)
unfolding LieIn
bars_lie [] low = tt
bars_lie (range ∷ ranges) low =
    let both = and-true (nat_le range.index 5) (list_all (λ (range : BarRange). nat_le range.index 5) ranges) low in
    let index : range.index ≤ 5 = (let h = both.0 in grind (arith, nat_tests)) in
    (omega arith, bars_lie ranges both.1)

length-first_config : (function : Function) (ranges : List BarRange) → list_all (λ (range : BarRange). nat_le range.index 5) ranges ≡ true → length (first_config function ranges) ≡ 256
length-first_config function ranges low =
    let zeros = replicate 256 0 in
    let header = put_all (header_fields function) zeros in
    let buses = put_all (bus_fields function.location.0 function.secondary) header in
    let one : length header ≡ 256 = length-put_all (header_fields function) zeros (header_lies function) in
    let two : length buses ≡ 256 = length-put_all (bus_fields function.location.0 function.secondary) header (subst (λ (size : ℕ). LieIn size (bus_fields function.location.0 function.secondary)) (sym one) (buses_lie function.location.0 function.secondary)) ∙ one in
    length-put_all (map bar_field ranges) buses (subst (λ (size : ℕ). LieIn size (map bar_field ranges)) (sym two) (bars_lie ranges low)) ∙ two

-- ---- shapes

first_bars : (ranges : List BarRange) → map bar_shape (map first_bytes ranges) ≡ map range_shape ranges
first_bars [] = refl
first_bars (range ∷ ranges) =
    let size : length (replicate range.size 0) ≡ range.size = length-replicate range.size 0 in
    ap (λ (size : ℕ). (range.index, size) ∷ map bar_shape (map first_bytes ranges)) size
    ∙ ap (λ (shapes : List (ℕ × ℕ)). (range.index, range.size) ∷ shapes) (first_bars ranges)

first_shape : (lines : List BoardLine) (function : Function) → board_fault lines ≡ None → shape_of (first_device lines function) ≡ shape_in_lines lines function
first_shape lines function ok =
    let ranges = ranges_at lines function.location in
    ap (λ (size : ℕ). (size, map bar_shape (map first_bytes ranges))) (length-first_config function ranges (low_ranges lines function.location ok))
    ∙ ap (λ (shapes : List (ℕ × ℕ)). (256, shapes)) (first_bars ranges)

first_shapes : (lines : List BoardLine) (functions : List Function) → board_fault lines ≡ None → map shape_of (map (first_device lines) functions) ≡ map (shape_in_lines lines) functions
first_shapes lines [] ok = refl
first_shapes lines (function ∷ functions) ok =
    ap (λ (shape : Shape). shape ∷ map shape_of (map (first_device lines) functions)) (first_shape lines function ok)
    ∙ ap (λ (shapes : List Shape). shape_in_lines lines function ∷ shapes) (first_shapes lines functions ok)

-- the board of lines is sound
pub sound-board_of : (lines : List BoardLine) → board_fault lines ≡ None → IsSound (record { lines = lines; devices = map (first_device lines) (functions lines) })
sound-board_of lines ok = record { lines = ok; devices = first_shapes lines (functions lines) ok }

-- and its tables are those of its lines
pub indexed : (lines copies : List BoardLine) (root_table : List (ℕ × ℕ)) (function_table : List Function) (number_table : BTreeMap Location ℕ) (devices : List DeviceState) → board_fault lines ≡ None
    → copies ≡ lines → root_table ≡ roots lines → function_table ≡ functions lines
    → ((location : Location) → get location_cmp number_table location ≡ position (λ (function : Function). is_at function.location location) function_table)
    → devices ≡ map (first_device lines) function_table
    → IsIndexed copies root_table function_table number_table devices
indexed lines copies root_table function_table number_table devices ok copied roots_are functions_are locations_are devices_are =
    let all : devices ≡ map (first_device lines) (functions lines) = devices_are ∙ ap (map (first_device lines)) functions_are in
    let sound : IsSound (record { lines = lines; devices = devices }) = subst (λ (devices : List DeviceState). IsSound (record { lines = lines; devices = devices })) (sym all) (sound-board_of lines ok) in
    let Indexed : List BoardLine → Type 0 = λ lines. IsIndexed lines root_table function_table number_table devices in
    subst Indexed (sym copied) (record {
      sound = sound;
      roots = roots_are;
      functions = functions_are;
      numbers = λ location. locations_are location ∙ ap (position (λ (function : Function). is_at function.location location)) functions_are;
    })
