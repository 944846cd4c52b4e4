use Rattle.std.proofs.lemmas.Str.{IsUtf8-from_ascii}
use Rattle.image_tools.proofs.TextLemmas.{IsAscii-listing}
use Rattle.image_tools.proofs.assembling.text_of.Goals as goal

-- a listing is ASCII, and so UTF-8
pub unreachable-requires : goal.unreachable-requires
unreachable-requires c = c.in-Err.ensures.cases.0 (IsUtf8-from_ascii c.args.bytes.now (IsAscii-listing c.args.bytes.now c.requires))
