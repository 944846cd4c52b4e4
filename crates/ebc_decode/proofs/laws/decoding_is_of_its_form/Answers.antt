use Rattle.std.proofs.Common.{◌<◌, ℕ, zero, suc, List, [], ◌∷◌, get_or, arith}
use Rattle.std.specs.List.{All}
use Rattle.std.proofs.lemmas.List.Elements.{All-head, All-tail}
use Rattle.ebc_decode.proofs.SpellingLemmas.{decoding-form}
use Rattle.ebc_decode.proofs.laws.decoding_is_of_its_form.Goals as goal

-- past the end each byte reads as 0
each-small : (bytes : List ℕ) → All (λ b. b < 256) bytes → (i : ℕ) → get_or bytes i 0 < 256
each-small [] small i = omega arith
each-small (b ∷ bytes) small zero = All-head (λ x. x < 256) b bytes small
each-small (b ∷ bytes) small (suc i) = each-small bytes (All-tail (λ x. x < 256) b bytes small) i

pub returns : goal.returns
returns c bytes instr n small is = decoding-form bytes instr n (each-small bytes small) is
