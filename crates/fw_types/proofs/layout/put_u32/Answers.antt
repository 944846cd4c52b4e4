use Rattle.byteorder.specs.Endian.{little_bytes}
use Rattle.fw_types.proofs.LayoutLemmas.{put_in_tail}
use Rattle.fw_types.proofs.layout.put_u32.Goals as goal

-- what the call writes into the rest is the field in its place
pub returns : goal.returns
returns c = put_in_tail c.args.offset (little_bytes 4 c.args.value) c.args.bytes.now c.write_u32.new.buf c.requires c.write_u32.ensures
