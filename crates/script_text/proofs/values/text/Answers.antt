use Rattle.std.proofs.lemmas.Str.{IsUtf8-from_ascii}
use Rattle.script_text.proofs.ScriptLemmas.{IsAscii-text}
use Rattle.script_text.proofs.values.text.Goals as goal

-- text is ASCII, and so UTF-8
pub unreachable-requires : goal.unreachable-requires
unreachable-requires c = c.in-Err.ensures.cases.0 (IsUtf8-from_ascii c.args.word.now (IsAscii-text c.args.word.now c.requires))
