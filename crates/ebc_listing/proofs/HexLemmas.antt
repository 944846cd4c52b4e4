-- What a format with leading zeros writes.
use Rattle.std.proofs.Common.{◌≡◌, ℕ, ◌-◌, ◌^◌, [], false, true, arith, length}
use Rattle.std.specs.Fmt.{char_count, digits, format_spec, padded_integral}
use Rattle.std.proofs.lemmas.List.{append-nil}
use Rattle.ebc_listing.specs.Listing.{hex}

-- the digits after as many zeros as are missing
pub hex-padded : (least n : ℕ) → padded_integral (format_spec 32 0 4 least (2 ^ 64 - 1)) false [] (digits 16 true n) ≡ hex least n
unfolding padded_integral char_count
hex-padded least n = let missing : least - length (digits 16 true n) - 0 - 0 ≡ least - length (digits 16 true n) = omega arith in simp (append-nil, missing)

pub ruleset padded_hex = (hex-padded)
