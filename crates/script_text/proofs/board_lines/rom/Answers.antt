use Rattle.std.proofs.Common.{◌∙◌, ap}
use Rattle.std.specs.List.{list_all}
use Rattle.text_lines.specs.Words.{is_text_byte}
use Rattle.script_text.proofs.ScriptLemmas.{word_at-text}
use Rattle.script_text.proofs.board_lines.rom.Goals as goal

pub text-requires : goal.text-requires
text-requires c = ap (list_all is_text_byte) c.at.ensures ∙ word_at-text c.args.words.now 4 c.requires
