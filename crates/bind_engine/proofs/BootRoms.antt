-- Line by line, the functions of a board get the option ROMs that are named for them.
use Rattle.std.proofs.Common.{◌≡◌, ◌≢◌, ◌≤◌, ◌<◌, ℕ, zero, suc, ◌+◌, Bool, true, false, cond, nat_eq, List, [], ◌∷◌, ◌++◌, length, map, set, take, drop, get_or, Option, Some, None, refl, sym, ap, subst, ◌∙◌, arith}
use Rattle.std.specs.Prelude.{option_and_then, option_map, option_to_list, slice_get, slice_set}
use Rattle.std.specs.List.{cons_option, filter_map, list_any, range_with_len}
use Rattle.std.specs.declared.vec.Vec.{Vec}
use Rattle.std.specs.declared.alloc.Global.{Global}
use Rattle.std.proofs.Math.Seq.{drop-cons}
use Rattle.std.proofs.lemmas.Bool.Decides.{nat_tests}
use Rattle.std.proofs.lemmas.List.{append-nil, length-map, take-append-drop, take_all, take_more}
use Rattle.std.proofs.lemmas.List.Elements.{filter_map-append}
use Rattle.fw_shelf.specs.Shelf.{Files, file_of}
use Rattle.pci_model.specs.BoardLines.{Location, find_at, functions, is_at, location_of, name_at}
use Rattle.pci_model.specs.BoardRules.{board_fault}
use Rattle.pci_model.specs.Devices.{BoardState}
use Rattle.pci_model.specs.Laws.{FoundAtLocation, IsWhereFound, RomIsNew}
use Rattle.pci_model.specs.declared.line.BoardLine.{BoardLine}
use Rattle.pci_model.specs.declared.line.BoardLine.TheVariants.{Root, Func, Bridge, Bar, Rom}
use Rattle.pci_model.proofs.BoardLimits.{is_at-refl, is_at-same}
use Rattle.world_model.specs.Boards.{roms_in}
use Rattle.bind_engine.specs.Boot.{boot_notes, note_of_line, rom_in_file, rom_of_function, roms_on}
use Rattle.bind_engine.specs.BootLines.{no_rom, roms_after, with_rom}

-- ---- lists over numbers

map-same : {X : Type 0} (f g : ℕ → X) (a n : ℕ) → ((i : ℕ) → a ≤ i → f i ≡ g i) → map f (range_with_len a n) ≡ map g (range_with_len a n)
map-same f g a zero same = refl
map-same {X} f g a (suc n) same =
    ap (λ (x : X). x ∷ map f (range_with_len (a + 1) n)) (same a (omega arith))
    ∙ ap (λ (xs : List X). g a ∷ xs) (map-same f g (a + 1) n (λ i above. same i (omega arith)))

-- a list that is changed at one place
map-set : {X : Type 0} (f g : ℕ → X) (x : X) (a n j k : ℕ) → k ≡ a + j → ((i : ℕ) → i ≢ k → f i ≡ g i) → x ≡ g k → set (map f (range_with_len a n)) j x ≡ map g (range_with_len a n)
map-set f g x a zero j k at other here = refl
map-set {X} f g x a (suc n) zero k at other here =
    let same : k ≡ a = omega arith in
    ap (λ (y : X). y ∷ map f (range_with_len (a + 1) n)) (here ∙ ap g same)
    ∙ ap (λ (xs : List X). g a ∷ xs) (map-same f g (a + 1) n (λ i above. other i (λ is. omega arith)))
map-set {X} f g x a (suc n) (suc j) k at other here =
    ap (λ (y : X). y ∷ set (map f (range_with_len (a + 1) n)) j x) (other a (λ is. omega arith))
    ∙ ap (λ (xs : List X). g a ∷ xs) (map-set f g x (a + 1) n j k (omega arith) other here)

-- the code's ROMs, read as lists of bytes, are as many as before
pub length-roms_in : (roms : List (Option (Vec ℕ Global))) → length (roms_in roms) ≡ length roms
length-roms_in roms = length-map roms (option_map (λ (rom : Vec ℕ Global). rom.items))

-- at first the code has no ROM
abbrev no_bytes : ℕ → Option (Vec ℕ Global)
no_bytes number = None

pub none-in : (numbers : List ℕ) → roms_in (map no_bytes numbers) ≡ map no_rom numbers
none-in [] = refl
none-in (number ∷ numbers) = ap (λ (rest : List (Option (List ℕ))). no_rom number ∷ rest) (none-in numbers)

-- ---- the names of ROMs

abbrev first_name : Location → List BoardLine → Option (List ℕ)
first_name location lines = slice_get (filter_map (name_at location) lines) 0

-- a line that does not name the ROM of a function
first_name-other : (location : Location) (before : List BoardLine) (line : BoardLine) → name_at location line ≡ None → first_name location (before ++ line ∷ []) ≡ first_name location before
first_name-other location before line none =
    let names = filter_map (name_at location) before in
    let last : filter_map (name_at location) (line ∷ []) ≡ [] = rw none refl in
    ap (λ (all : List (List ℕ)). slice_get all 0) (filter_map-append (name_at location) before (line ∷ []) ∙ ap (λ (rest : List (List ℕ)). names ++ rest) last ∙ append-nil names)

-- the first line that names it
first_name-new : (location : Location) (before : List BoardLine) (line : BoardLine) (name : List ℕ) → name_at location line ≡ Some name → filter_map (name_at location) before ≡ []
    → first_name location (before ++ line ∷ []) ≡ Some name
first_name-new location before line name is none =
    let last : filter_map (name_at location) (line ∷ []) ≡ name ∷ [] = rw is refl in
    let whole : filter_map (name_at location) (before ++ line ∷ []) ≡ name ∷ [] = filter_map-append (name_at location) before (line ∷ []) ∙ rw (none, last) refl in
    ap (λ (all : List (List ℕ)). slice_get all 0) whole

-- ---- the ROMs so far

abbrev pub rom_named : Files → Option (List ℕ) → Option (List ℕ)
rom_named files name = option_and_then (λ (name : List ℕ). rom_in_file (file_of files name)) name

abbrev pub rom_at : Files → List BoardLine → Option Location → Option (List ℕ)
rom_at files before location = rom_named files (option_and_then (λ (at : Location). slice_get (filter_map (name_at at) before) 0) location)

-- the ROM of a function of the board, by the lines before one
abbrev pub rom_so_far : Files → (lines before : List BoardLine) → (number : ℕ) → Option (List ℕ)
rom_so_far files lines before number = rom_at files before (location_of lines number)

abbrev pub roms_so_far : Files → (lines before : List BoardLine) → List (Option (List ℕ))
roms_so_far files lines before = map (rom_so_far files lines before) (range_with_len 0 (length (functions lines)))

pub no_roms_at_first : (files : Files) (lines : List BoardLine) → map no_rom (range_with_len 0 (length (functions lines))) ≡ roms_so_far files lines []
no_roms_at_first files lines = map-same no_rom (rom_so_far files lines []) 0 (length (functions lines)) (λ i above. none (location_of lines i))
  where
    none : (location : Option Location) → no_rom 0 ≡ rom_at files [] location
    none None = refl
    none (Some location) = refl

-- ---- one more line

-- a line that names no ROM
same_roms : (files : Files) (lines before : List BoardLine) (line : BoardLine) → ((location : Location) → name_at location line ≡ None) → roms_so_far files lines before ≡ roms_so_far files lines (before ++ line ∷ [])
same_roms files lines before line none =
    map-same (rom_so_far files lines before) (rom_so_far files lines (before ++ line ∷ [])) 0 (length (functions lines)) (λ i above. same (location_of lines i))
  where
    same : (location : Option Location) → rom_at files before location ≡ rom_at files (before ++ line ∷ []) location
    same None = refl
    same (Some location) = ap (rom_named files) (sym (first_name-other location before line (none location)))

-- a line that names the ROM of a function
module _ (found_at_location : FoundAtLocation) (is_where_found : IsWhereFound) (rom_is_new : RomIsNew) (files : Files) (lines before after : List BoardLine) (bus device function : ℕ) (name : List ℕ)
    (whole : lines ≡ before ++ Rom bus device function name ∷ after) (ok : board_fault lines ≡ None) where
  here : Location
  here = (bus, device, function)

  -- no line before it names that ROM
  is_new : filter_map (name_at (bus, device, function)) before ≡ []
  is_new = rom_is_new before after bus device function name (subst (λ (all : List BoardLine). board_fault all ≡ None) whole ok)

  -- the functions at other locations
  elsewhere : (i : ℕ) (location : Option Location) → location_of lines i ≡ location → (find_at lines (bus, device, function) ≡ Some i → ⊥)
      → rom_at files before location ≡ rom_at files (before ++ Rom bus device function name ∷ []) location
  elsewhere i None at other = refl
  elsewhere i (Some location) at other = by_place (is_at (bus, device, function) location) refl
    where
      by_place : (same : Bool) → is_at (bus, device, function) location ≡ same → rom_at files before (Some location) ≡ rom_at files (before ++ Rom bus device function name ∷ []) (Some location)
      by_place true is =
          let there : location_of lines i ≡ Some (bus, device, function) = at ∙ ap (λ (l : Location). Some l) (sym (is_at-same (bus, device, function) location is)) in
          absurd (other (found_at_location lines i (bus, device, function) ok there))
      by_place false is =
          let none : name_at location (Rom bus device function name) ≡ None = rw is refl in
          ap (rom_named files) (sym (first_name-other location before (Rom bus device function name) none))

  -- the function itself
  before_it : (i : ℕ) → location_of lines i ≡ Some (bus, device, function) → rom_so_far files lines before i ≡ None
  before_it i at = ap (rom_at files before) at ∙ ap (λ (names : List (List ℕ)). rom_named files (slice_get names 0)) is_new

  after_it : (i : ℕ) → location_of lines i ≡ Some (bus, device, function) → rom_so_far files lines (before ++ Rom bus device function name ∷ []) i ≡ rom_in_file (file_of files name)
  after_it i at =
      let named : name_at (bus, device, function) (Rom bus device function name) ≡ Some name = rw (is_at-refl (bus, device, function)) refl in
      ap (rom_at files (before ++ Rom bus device function name ∷ [])) at
      ∙ ap (rom_named files) (first_name-new (bus, device, function) before (Rom bus device function name) name named is_new)

  with_one : (found : Option ℕ) (rom : Option (List ℕ)) → find_at lines (bus, device, function) ≡ found → rom_in_file (file_of files name) ≡ rom
      → with_rom found rom (roms_so_far files lines before) ≡ roms_so_far files lines (before ++ Rom bus device function name ∷ [])
  with_one None rom is given =
      map-same (rom_so_far files lines before) (rom_so_far files lines (before ++ Rom bus device function name ∷ [])) 0 (length (functions lines))
      (λ i above. elsewhere i (location_of lines i) refl (λ at. let no : None ≡ Some i = sym is ∙ at in absurd cc))
  with_one (Some k) None is given =
      map-same (rom_so_far files lines before) (rom_so_far files lines (before ++ Rom bus device function name ∷ [])) 0 (length (functions lines)) (λ i above. by_number i (nat_eq k i) refl)
    where
      by_number : (i : ℕ) (same : Bool) → nat_eq k i ≡ same → rom_so_far files lines before i ≡ rom_so_far files lines (before ++ Rom bus device function name ∷ []) i
      by_number i true here =
          let number : k ≡ i = grind (arith, nat_tests, here) in
          let at : location_of lines i ≡ Some (bus, device, function) = is_where_found lines i (bus, device, function) (is ∙ ap (λ (n : ℕ). Some n) number) in
          before_it i at ∙ sym given ∙ sym (after_it i at)
      by_number i false there =
          elsewhere i (location_of lines i) refl (λ at. let same : Some k ≡ Some i = sym is ∙ at in let number : k ≡ i = cc in absurd (grind (arith, nat_tests, there)))
  with_one (Some k) (Some bytes) is given =
      map-set (rom_so_far files lines before) (rom_so_far files lines (before ++ Rom bus device function name ∷ [])) (Some bytes) 0 (length (functions lines)) k k (omega arith)
      (λ i other. elsewhere i (location_of lines i) refl (λ at. let same : Some k ≡ Some i = sym is ∙ at in let number : i ≡ k = cc in other number))
      (sym given ∙ sym (after_it k (is_where_found lines k (bus, device, function) is)))

pub next_roms : FoundAtLocation → IsWhereFound → RomIsNew → (files : Files) (lines before after : List BoardLine) (line : BoardLine) → lines ≡ before ++ line ∷ after → board_fault lines ≡ None
    → roms_after files lines (roms_so_far files lines before) line ≡ roms_so_far files lines (before ++ line ∷ [])
next_roms found where_found is_new files lines before after (Root uid bus) whole ok = same_roms files lines before (Root uid bus) (λ location. refl)
next_roms found where_found is_new files lines before after (Func bus device function vendor id class) whole ok = same_roms files lines before (Func bus device function vendor id class) (λ location. refl)
next_roms found where_found is_new files lines before after (Bridge bus device function vendor id secondary) whole ok = same_roms files lines before (Bridge bus device function vendor id secondary) (λ location. refl)
next_roms found where_found is_new files lines before after (Bar bus device function index address size) whole ok = same_roms files lines before (Bar bus device function index address size) (λ location. refl)
next_roms found where_found is_new files lines before after (Rom bus device function name) whole ok =
    with_one found where_found is_new files lines before after bus device function name whole ok (find_at lines (bus, device, function)) (rom_in_file (file_of files name)) refl refl

-- ---- the line at a place

pub split_at : (lines : List BoardLine) (i : ℕ) (line : BoardLine) → i < length lines → line ≡ get_or lines i line → lines ≡ take i lines ++ line ∷ drop (suc i) lines
split_at lines i line within is =
    sym (take-append-drop i lines) ∙ ap (λ (rest : List BoardLine). take i lines ++ rest) (drop-cons lines i line within ∙ ap (λ (l : BoardLine). l ∷ drop (suc i) lines) (sym is))

pub taken_more : (lines : List BoardLine) (i : ℕ) (line : BoardLine) → i < length lines → line ≡ get_or lines i line → take i lines ++ line ∷ [] ≡ take (i + 1) lines
taken_more lines i line within is = ap (λ (l : BoardLine). take i lines ++ l ∷ []) is ∙ sym (take_more lines i line within)

pub roms_at : FoundAtLocation → IsWhereFound → RomIsNew → (files : Files) (lines : List BoardLine) (i : ℕ) (line : BoardLine) (old new : List (Option (List ℕ))) → i < length lines → line ≡ get_or lines i line
    → board_fault lines ≡ None → old ≡ roms_so_far files lines (take i lines) → new ≡ roms_after files lines old line → new ≡ roms_so_far files lines (take (i + 1) lines)
roms_at found where_found is_new files lines i line old new within is ok before step =
    step
    ∙ ap (λ (roms : List (Option (List ℕ))). roms_after files lines roms line) before
    ∙ next_roms found where_found is_new files lines (take i lines) (drop (suc i) lines) line (split_at lines i line within is) ok
    ∙ ap (roms_so_far files lines) (taken_more lines i line within is)

-- and the notes
pub notes_more : {X : Type 0} (note : BoardLine → Option X) (lines : List BoardLine) (i : ℕ) (line : BoardLine) (old new : List X) → i < length lines → line ≡ get_or lines i line
    → old ≡ filter_map note (take i lines) → new ≡ old ++ option_to_list (note line) → new ≡ filter_map note (take (i + 1) lines)
notes_more {X} note lines i line old new within is before step =
    step
    ∙ ap (λ (notes : List X). notes ++ option_to_list (note line)) before
    ∙ ap (λ (last : List X). filter_map note (take i lines) ++ last) (one (note line))
    ∙ sym (filter_map-append note (take i lines) (line ∷ []))
    ∙ ap (filter_map note) (taken_more lines i line within is)
  where
    one : (found : Option X) → option_to_list found ≡ cons_option found []
    one None = refl
    one (Some x) = refl

-- the ROMs after all lines
pub all_roms : (files : Files) (lines : List BoardLine) (i : ℕ) → length lines ≤ i → roms_so_far files lines (take i lines) ≡ roms_on files lines
all_roms files lines i past = ap (roms_so_far files lines) (take_all i lines past)
