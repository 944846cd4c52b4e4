-- What a format with sixteen hexadecimal digits writes.
use Rattle.std.proofs.Common.{◌≡◌, ℕ, ◌-◌, ◌^◌, List, [], ◌∷◌, ◌++◌, false, ap, arith, length, map}
use Rattle.std.specs.List.{flat_map, join_with_byte}
use Rattle.std.specs.Fmt.{char_count, decimal, digits, format_spec, padded_integral}
use Rattle.std.proofs.lemmas.List.{append-nil}
use Rattle.report_text.specs.Report.{hex, hex_16}

-- the digits after as many zeros as are missing
pub hex_16-padded : (n : ℕ) → padded_integral (format_spec 32 0 4 16 (2 ^ 64 - 1)) false [] (digits 16 false n) ≡ hex_16 n
unfolding padded_integral char_count
hex_16-padded n = let missing : 16 - length (hex n) - 0 - 0 ≡ 16 - length (hex n) = omega arith in simp (append-nil, missing)

pub ruleset sixteen_digits = (hex_16-padded)

-- handles after a word: each after a space
pub join-handles : (word : List ℕ) (handles : List ℕ) → join_with_byte 32 (word ∷ map decimal handles) ≡ word ++ flat_map (λ handle. 32 ∷ decimal handle) handles
join-handles word [] = simp append-nil
join-handles word (handle ∷ handles) = ap (λ rest. word ++ (32 ∷ rest)) (join-handles (decimal handle) handles)
