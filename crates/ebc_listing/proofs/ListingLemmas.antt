-- The listing, line by line.
use Rattle.std.proofs.Common.{◌≡◌, ℕ, zero, suc, ◌+◌, ◌-◌, ◌/◌, ◌%◌, ◌<◌, ◌≤◌, Bool, true, false, List, [], ◌∷◌, ◌++◌, length, drop, nat_eq, nat_lt, cond, refl, sym, ap, ◌∙◌, arith, Option, Some, None, Result, Ok, Err, append_assoc, get_or, rules}
use Rattle.std.proofs.lemmas.Bool.Decides.{nat_tests}
use Rattle.std.proofs.lemmas.Grind.{common_steps}
use Rattle.std.proofs.lemmas.List.{append-nil}
use Rattle.std.specs.List.{flat_map}
use Rattle.ebc_decode.specs.Spelling.{decoding, decoding_by_form, form_in_table}
use Rattle.ebc_decode.specs.declared.form.Form.{Form}
use Rattle.ebc_decode.specs.declared.instr.Instr.{Instr}
use Rattle.ebc_decode.specs.declared.instr.DecodeRefusal.{DecodeRefusal}
use Rattle.ebc_listing.specs.Listing.{Line, illegal_text, instr_text, line_of, line_text, lines_from, listing_lines, listing}

-- the size of what is found
second : Result (Instr × ℕ) DecodeRefusal → ℕ
second (Err e) = 2
second (Ok found) = found.1

unless : (b : Bool) (refusal : DecodeRefusal) (rest : Result (Instr × ℕ) DecodeRefusal) → 2 ≤ second rest → 2 ≤ second (cond b (Err refusal) rest)
unfolding second
unless true refusal rest h = omega arith
unless false refusal rest h = h

-- an instruction has at least two bytes
by-size : (form : Option Form) (bytes : List ℕ) → 2 ≤ second (decoding_by_form form bytes)
unfolding second
by-size None bytes = omega arith
by-size (Some form) bytes = unless (nat_lt (length bytes) (2 + form.first + form.second)) _ _ (omega arith)

at-least-two : (bytes : List ℕ) → 2 ≤ second (decoding bytes)
unfolding second
at-least-two bytes = unless (nat_lt (length bytes) 2) _ _ (by-size (form_in_table (get_or bytes 0 0 % 64) (get_or bytes 0 0 / 64) (get_or bytes 1 0)) bytes)

pub decoding-size : (bytes : List ℕ) (found : Instr × ℕ) → decoding bytes ≡ Ok found → 2 ≤ found.1
unfolding second
decoding-size bytes found h = rw (sym (ap second h)) (at-least-two bytes)

-- the rest of a line matters only at the size of what is found
line_of-same : (at : ℕ) (found : Result (Instr × ℕ) DecodeRefusal) (f g : ℕ → List Line) → ((size : ℕ) → 2 ≤ size → f size ≡ g size) → 2 ≤ second found → line_of at found f ≡ line_of at found g
unfolding second
line_of-same at (Err e) f g same two = refl
line_of-same at (Ok found) f g same two = ap (λ rest. record { address = at; text = instr_text found.0 } ∷ rest) (same found.1 two)

-- as many lines as bytes are enough
enough : (most more : ℕ) (bytes : List ℕ) (at : ℕ) → length bytes ≤ most → length bytes ≤ more → lines_from most bytes at ≡ lines_from more bytes at
unfolding lines_from
enough zero zero bytes at h k = refl
enough zero (suc more) bytes at h k = let none : nat_eq (length bytes) 0 ≡ true = grind (arith, nat_tests) in rw none refl
enough (suc most) zero bytes at h k = let none : nat_eq (length bytes) 0 ≡ true = grind (arith, nat_tests) in rw none refl
enough (suc most) (suc more) bytes at h k =
    let later : line_of at (decoding bytes) (λ size. lines_from most (drop size bytes) (at + size)) ≡ line_of at (decoding bytes) (λ size. lines_from more (drop size bytes) (at + size)) =
    line_of-same at (decoding bytes) _ _
    (λ size two. enough most more (drop size bytes) (at + size) (grind (arith, common_steps)) (grind (arith, common_steps)))
    (at-least-two bytes) in
    ap (cond (nat_eq (length bytes) 0) []) later

-- one line, and the rest after what is found
line_of-some : (bytes : List ℕ) (at : ℕ) (instr : Instr) (size k : ℕ) → length bytes ≡ suc k → decoding bytes ≡ Ok (instr, size) → lines_from (suc k) bytes at ≡ record { address = at; text = instr_text instr } ∷ lines_from k (drop size bytes) (at + size)
unfolding lines_from
line_of-some bytes at instr size k e found = let some : nat_eq (length bytes) 0 ≡ false = grind (arith, nat_tests) in rw (some, found) refl

pub listing_lines-found : (bytes : List ℕ) (at : ℕ) (instr : Instr) (size : ℕ) → 0 < length bytes → decoding bytes ≡ Ok (instr, size) → listing_lines bytes at ≡ record { address = at; text = instr_text instr } ∷ listing_lines (drop size bytes) (at + size)
listing_lines-found bytes at instr size some found =
    let two : 2 ≤ size = decoding-size bytes (instr, size) found in
    let e : length bytes ≡ suc (length bytes - 1) = omega arith in
    let first : listing_lines bytes at ≡ record { address = at; text = instr_text instr } ∷ lines_from (length bytes - 1) (drop size bytes) (at + size) =
    ap (λ n. lines_from n bytes at) e ∙ line_of-some bytes at instr size (length bytes - 1) e found in
    first ∙ ap (λ rest. record { address = at; text = instr_text instr } ∷ rest) (enough (length bytes - 1) (length (drop size bytes)) (drop size bytes) (at + size) (grind (arith, common_steps)) (omega arith))

-- the last line, if none is found
line_of-none : (bytes : List ℕ) (at : ℕ) (refusal : DecodeRefusal) (k : ℕ) → length bytes ≡ suc k → decoding bytes ≡ Err refusal → lines_from (suc k) bytes at ≡ record { address = at; text = illegal_text } ∷ []
unfolding lines_from
line_of-none bytes at refusal k e found = let some : nat_eq (length bytes) 0 ≡ false = grind (arith, nat_tests) in rw (some, found) refl

pub listing_lines-refused : (bytes : List ℕ) (at : ℕ) (refusal : DecodeRefusal) → 0 < length bytes → decoding bytes ≡ Err refusal → listing_lines bytes at ≡ record { address = at; text = illegal_text } ∷ []
listing_lines-refused bytes at refusal some found =
    let e : length bytes ≡ suc (length bytes - 1) = omega arith in
    ap (λ n. lines_from n bytes at) e ∙ line_of-none bytes at refusal (length bytes - 1) e found

pub listing_lines-end : (bytes : List ℕ) (at : ℕ) → length bytes ≡ 0 → listing_lines bytes at ≡ []
unfolding lines_from
listing_lines-end bytes at e = ap (λ n. lines_from n bytes at) e

-- the same of the text
pub listing-found : (bytes : List ℕ) (at : ℕ) (instr : Instr) (size : ℕ) → 0 < length bytes → decoding bytes ≡ Ok (instr, size) → listing bytes at ≡ line_text (record { address = at; text = instr_text instr }) ++ listing (drop size bytes) (at + size)
listing-found bytes at instr size some found = ap (flat_map line_text) (listing_lines-found bytes at instr size some found)

pub listing-refused : (bytes : List ℕ) (at : ℕ) (refusal : DecodeRefusal) → 0 < length bytes → decoding bytes ≡ Err refusal → listing bytes at ≡ line_text (record { address = at; text = illegal_text })
listing-refused bytes at refusal some found = rw (listing_lines-refused bytes at refusal some found) (search rules)

pub listing-end : (bytes : List ℕ) (at : ℕ) → length bytes ≡ 0 → listing bytes at ≡ []
listing-end bytes at e = ap (flat_map line_text) (listing_lines-end bytes at e)

-- what is written so far, with the listing of the rest, is the whole: at the end of the bytes, at the
-- first place at which no instruction begins, and after an instruction
pub at-end : (out bytes whole : List ℕ) (at : ℕ) → length bytes ≡ 0 → out ++ listing bytes at ≡ whole → out ≡ whole
at-end out bytes whole at none h = sym (append-nil out) ∙ ap (λ rest. out ++ rest) (sym (listing-end bytes at none)) ∙ h

pub at-refusal : (out longer bytes whole : List ℕ) (at : ℕ) (refusal : DecodeRefusal) → 0 < length bytes → decoding bytes ≡ Err refusal → longer ≡ out ++ line_text (record { address = at; text = illegal_text }) → out ++ listing bytes at ≡ whole → longer ≡ whole
at-refusal out longer bytes whole at refusal some found e h = e ∙ ap (λ rest. out ++ rest) (sym (listing-refused bytes at refusal some found)) ∙ h

pub at-found : (out longer bytes rest whole : List ℕ) (at to : ℕ) (instr : Instr) (size : ℕ) → 0 < length bytes → decoding bytes ≡ Ok (instr, size) → longer ≡ out ++ line_text (record { address = at; text = instr_text instr }) → rest ≡ drop size bytes → to ≡ at + size → out ++ listing bytes at ≡ whole → longer ++ listing rest to ≡ whole
at-found out longer bytes rest whole at to instr size some found e after next h =
    let line : List ℕ = line_text (record { address = at; text = instr_text instr }) in
    ap (λ place. longer ++ listing rest place) next
    ∙ ap (λ more. longer ++ listing more (at + size)) after
    ∙ ap (λ front. front ++ listing (drop size bytes) (at + size)) e
    ∙ append_assoc out line (listing (drop size bytes) (at + size))
    ∙ ap (λ more. out ++ more) (sym (listing-found bytes at instr size some found))
    ∙ h
