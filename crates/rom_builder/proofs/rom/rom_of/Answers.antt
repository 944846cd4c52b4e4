use Rattle.std.proofs.Common.{◌≡◌, ℕ, Bool, true, false, ◌||◌, nat_eq, List, [], ◌∷◌, length, Some, None, Err, rules, if◌then◌else◌, refl, ap, sym, ◌∙◌}
use Rattle.std.specs.List.{list_any}
use Rattle.std.proofs.Common.{Vec, Global}
use Rattle.option_rom.specs.RomLayout.{fault_of, is_none_left, is_too_long}
use Rattle.option_rom.specs.declared.part.RomWriteFault.TheVariants.{OutOfMemory, TooLong}
use Rattle.rom_builder.specs.RomParts.{part_of, parts_of}
use Rattle.rom_builder.proofs.rom.rom_of.Goals as goal

-- a test of the parts is one of the files
any_part : (vendor device class : ℕ) (files : List (Vec ℕ Global)) → list_any is_too_long (parts_of vendor device class files) ≡ list_any (λ file. is_too_long (part_of vendor device class file)) files
any_part vendor device class [] = refl
any_part vendor device class (file ∷ files) = ap (λ rest. is_too_long (part_of vendor device class file) || rest) (any_part vendor device class files)

some_part : (vendor device class : ℕ) (files : List (Vec ℕ Global)) → nat_eq (length files) 0 ≡ false → is_none_left (parts_of vendor device class files) ≡ false
some_part vendor device class [] h = absurd cc
some_part vendor device class (file ∷ files) h = refl

-- the fault of files of which there are some
fault_of-some : (vendor device class : ℕ) (files : List (Vec ℕ Global)) (long : Bool) → nat_eq (length files) 0 ≡ false → list_any (λ file. is_too_long (part_of vendor device class file)) files ≡ long
    → fault_of (parts_of vendor device class files) ≡ (if long then Some TooLong else None)
fault_of-some vendor device class files long some any =
    rw (some_part vendor device class files some, any_part vendor device class files, any) refl

pub returns-then-is_any_too_long-clause-refused : goal.returns-then-is_any_too_long-clause-refused
returns-then-is_any_too_long-clause-refused c =
    fault_of-some c.args.vendor c.args.device c.args.class c.args.files.now true (sym c.is_empty.ensures ∙ c.if-is_empty.false) (sym c.is_any_too_long.ensures ∙ c.if-is_any_too_long.true)

pub returns-in_err-parts-clause-refused : goal.returns-in_err-parts-clause-refused
returns-in_err-parts-clause-refused c =
    let fault = fault_of-some c.args.vendor c.args.device c.args.class c.args.files.now false (sym c.is_empty.ensures ∙ c.if-is_empty.false) (sym c.is_any_too_long.ensures ∙ c.if-is_any_too_long.false) in
    let stopped : c.from_residual.result ≡ Err OutOfMemory = search rules in
    rw (fault, stopped) refl
