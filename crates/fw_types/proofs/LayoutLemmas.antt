-- Fields put into bytes one after the other.
use Rattle.std.proofs.Common.{◌≡◌, ◌<◌, ◌≤◌, ℕ, ◌+◌, List, [], ◌∷◌, ◌++◌, length, take, drop, get_or, ◌-◌, refl, ap, sym, ◌∙◌, append_assoc, arith}
use Rattle.std.proofs.lemmas.List.{append-nil, drop-drop, length-drop, take_all, take_more}
use Rattle.std.proofs.Math.ListN.{drop_of_length-le}
use Rattle.fw_types.specs.Layout.{Field, put, put_all}

-- first some fields, then others
pub put_all-append : (fields more : List Field) (bytes : List ℕ) → put_all (fields ++ more) bytes ≡ put_all more (put_all fields bytes)
put_all-append [] more bytes = refl
put_all-append (field ∷ fields) more bytes = put_all-append fields more (put field.offset field.bytes bytes)

-- one more field
pub put_all_more : (fields : List Field) (i : ℕ) (d : Field) (bytes : List ℕ) → i < length fields
    → put_all (take (i + 1) fields) bytes ≡ put (get_or fields i d).offset (get_or fields i d).bytes (put_all (take i fields) bytes)
put_all_more fields i d bytes inside =
    ap (λ fields. put_all fields bytes) (take_more fields i d inside) ∙ put_all-append (take i fields) (get_or fields i d ∷ []) bytes

-- a field written at the front of what follows an offset
pub put_in_tail : (offset : ℕ) (field bytes tail : List ℕ) → offset + length field ≤ length bytes
    → tail ≡ field ++ drop (length field) (take (length bytes - offset) (drop offset bytes))
    → take offset bytes ++ (tail ++ drop (length bytes - offset) (drop offset bytes)) ≡ put offset field bytes
unfolding put
put_in_tail offset field bytes tail fits is =
    let whole : take (length bytes - offset) (drop offset bytes) ≡ drop offset bytes = take_all (length bytes - offset) (drop offset bytes) (omega (arith, length-drop offset bytes)) in
    let none : drop (length bytes - offset) (drop offset bytes) ≡ [] = drop_of_length-le (drop offset bytes) (omega (arith, length-drop offset bytes)) in
    ap (λ (rest : List ℕ). take offset bytes ++ (tail ++ rest)) none
    ∙ ap (λ (rest : List ℕ). take offset bytes ++ rest) (append-nil tail ∙ is ∙ ap (λ (rest : List ℕ). field ++ drop (length field) rest) whole)
    ∙ sym (append_assoc (take offset bytes) field (drop (length field) (drop offset bytes)))
    ∙ ap (λ (rest : List ℕ). (take offset bytes ++ field) ++ rest) (drop-drop (length field) offset bytes)
