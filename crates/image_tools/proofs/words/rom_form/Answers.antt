use Rattle.std.proofs.Common.{sym, ◌∙◌, arith}
use Rattle.std.proofs.lemmas.List.{take_rest}
use Rattle.image_tools.proofs.WordLemmas.{few_words, rom_words}
use Rattle.image_tools.proofs.words.rom_form.Goals as goal

pub returns-then-words-lt4 : goal.returns-then-words-lt4
returns-then-words-lt4 c = sym (few_words c.args.words.now c.if-words-lt4.true)

pub returns : goal.returns
returns c =
    c.rom_form_of.ensures
    ∙ rw (c.as_bytes.ensures.value, c.as_bytes-2.ensures.value, c.as_bytes-3.ensures.value, take_rest c.args.words.now 3) (sym (rom_words c.args.words.now c.index-words-0.result c.index-words-1.result c.index-words-2.result (omega arith) c.index-words-0.is c.index-words-1.is c.index-words-2.is))
