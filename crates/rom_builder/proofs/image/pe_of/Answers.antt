use Rattle.std.proofs.Common.{◌≡◌, None, length, sym, ap, ◌∙◌, arith}
use Rattle.rom_builder.specs.MadeImage.{fault_of}
use Rattle.rom_builder.proofs.AcceptanceLemmas.{made_accepted}
use Rattle.rom_builder.proofs.SizeLemmas.{too_long, buildable, few_bytes}
use Rattle.rom_builder.proofs.image.pe_of.Goals as goal

-- even the code without relocations is too long
pub returns-then-as_slice-clause-answer : goal.returns-then-as_slice-clause-answer
returns-then-as_slice-clause-answer c =
    let size = ap length c.as_slice.ensures in
    too_long c.args.p.now (omega (arith, size, c.if-as_slice.true))

pub made_image-requires-clause-entry : goal.made_image-requires-clause-entry
made_image-requires-clause-entry c =
    let parts = c.args.p.now in
    let known : fault_of parts ≡ None = sym c.fault_of.ensures ∙ c.in-None.is in
    let ok = buildable parts known in
    let few = few_bytes parts ok.short in
    omega (arith, ok.inside, few.0)

pub made_image-requires-clause-few : goal.made_image-requires-clause-few
made_image-requires-clause-few c =
    let parts = c.args.p.now in
    let known : fault_of parts ≡ None = sym c.fault_of.ensures ∙ c.in-None.is in
    let ok = buildable parts known in
    let few = few_bytes parts ok.short in
    rw (c.deref-in-None.ensures.value ∙ c.in_ok-blocks.ensures) few.1

-- the file that was made is accepted
pub returns-clause-accepted : goal.returns-clause-accepted
returns-clause-accepted c =
    let parts = c.args.p.now in
    let known : fault_of parts ≡ None = sym c.fault_of.ensures ∙ c.in-None.is in
    rw c.in_ok-made_image-in-None.ensures (made_accepted parts (buildable parts known))
