use Rattle.std.proofs.Common.{refl}
use Rattle.rom_builder.specs.MadeImage.{header_bytes}
use Rattle.rom_builder.proofs.headers.header_bytes.Goals as goal

pub returns : goal.returns
unfolding header_bytes
returns c =
    rw (c.put_relocation_fields.ensures, c.put_code_fields.ensures, c.put_optional_fields.ensures, c.put_file_fields.ensures, c.aligned_size-place.ensures, c.aligned_size.ensures, c.section_count.ensures) refl
