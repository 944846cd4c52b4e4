-- Fields that are put into bytes leave their number.
use Rattle.std.proofs.Common.{◌≡◌, ◌≤◌, ◌+◌, ℕ, List, [], ◌∷◌, ◌++◌, length, take, drop, refl, sym, subst, ◌∙◌, arith, length-append, length-drop}
use Rattle.std.proofs.lemmas.List.{length-take-le}
use Rattle.fw_types.specs.Layout.{Field, put, put_all}

pub length-put : (at : ℕ) (field bytes : List ℕ) → at + length field ≤ length bytes → length (put at field bytes) ≡ length bytes
unfolding put
length-put at field bytes fits =
    omega (arith, length-append (take at bytes ++ field) (drop (at + length field) bytes), length-append (take at bytes) field, length-take-le at bytes (omega arith), length-drop (at + length field) bytes)

-- each field lies in so many bytes
unfoldable pub LieIn : ℕ → List Field → Type 0
LieIn size [] = Unit {0}
LieIn size (field ∷ fields) = (field.offset + length field.bytes ≤ size) × LieIn size fields

pub length-put_all : (fields : List Field) (bytes : List ℕ) → LieIn (length bytes) fields → length (put_all fields bytes) ≡ length bytes
unfolding LieIn
length-put_all [] bytes lie = refl
length-put_all (field ∷ fields) bytes lie =
    let one = length-put field.offset field.bytes bytes lie.0 in
    length-put_all fields (put field.offset field.bytes bytes) (subst (λ (size : ℕ). LieIn size fields) (sym one) lie.1) ∙ one
