-- The bytes so far, and those of the rest.
use Rattle.std.proofs.Common.{◌≡◌, ◌≤◌, drop, map, vec_len}
use Rattle.ebc_asm.specs.Assembly.{bytes_of_words}
use Rattle.ebc_asm.proofs.LineLemmas.{rest_of}
use Rattle.ebc_asm.proofs.lines.bytes_of_words.Given as goal

abbrev pub invariant-loop-word : goal.invariant-loop-word
invariant-loop-word l = record {
  reading : bytes_of_words (map (λ word. word.now) l.words) ≡ rest_of l.bytes.items (bytes_of_words (map (λ word. word.now) (drop l.word-index l.words)));
  count : vec_len l.bytes ≤ l.word-index;
}
