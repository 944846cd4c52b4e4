use Rattle.std.proofs.Common.{◌≡◌, replicate, refl, ap, ◌∙◌}
use Rattle.byteorder.specs.Endian.{little_bytes}
use Rattle.fw_types.specs.Layout.{put, put_all}
use Rattle.service_thunks.specs.Tables.{header_fields, system_signature, system_table, system_table_size}
use Rattle.service_thunks.proofs.tables.system_table.Goals as goal

-- the fields that are not 0 are put, computed over the whole table
all_fields : put 96 (little_bytes 8 69632) (put 32 (little_bytes 4 1) (put 24 (little_bytes 8 65656) (put_all (header_fields system_signature system_table_size) (replicate 128 0)))) ≡ system_table
unfolding put system_table
all_fields = refl

pub returns : goal.returns
returns c =
    c.put_u64-2.ensures
    ∙ ap (put 96 (little_bytes 8 69632)) (c.put_u32.ensures ∙ ap (put 32 (little_bytes 4 1)) (c.put_u64.ensures ∙ ap (put 24 (little_bytes 8 65656)) c.put_header.ensures))
    ∙ all_fields
