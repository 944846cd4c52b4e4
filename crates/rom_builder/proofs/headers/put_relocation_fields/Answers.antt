use Rattle.std.proofs.Common.{◌≡◌, nat_eq, false, arith}
use Rattle.std.proofs.lemmas.Bool.Decides.{nat_tests}
use Rattle.rom_builder.proofs.headers.put_relocation_fields.Goals as goal

-- there are relocations
pub returns-then-size-ne0 : goal.returns-then-size-ne0
returns-then-size-ne0 c =
    let some : nat_eq c.args.size 0 ≡ false = grind (arith, nat_tests) in
    rw some c.put_relocation_section.ensures
