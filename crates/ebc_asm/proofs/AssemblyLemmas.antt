-- The text, line by line.
use Rattle.std.proofs.Common.{◌≡◌, ℕ, ◌+◌, List, [], ◌∷◌, ◌++◌, Bool, true, false, ◌||◌, cond, Result, Ok, Err, refl, sym, ap, ◌∙◌, append_assoc, length, arith}
use Rattle.std.specs.Prelude.{Option, Some, None, bytes_eq, is_some}
use Rattle.std.specs.Option.{option_map, option_map_or}
use Rattle.std.specs.List.{list_any}
use Rattle.std.proofs.lemmas.List.{append-nil}
use Rattle.std.specs.Str.Lines.{lines}
use Rattle.ebc_asm.specs.declared.fault.AsmKind.{AsmKind}
use Rattle.ebc_asm.specs.declared.line_fault.LineFault.{LineFault}
use Rattle.ebc_asm.specs.declared.line_fault.LineFault.TheVariants.{Refused, OutOfMemory}
use Rattle.ebc_asm.specs.Assembly.{Gives, Label, GivesLine, fault_of, before, bytes_from, code_of, is_label, label_at, label_by, label_of, labels_from, labels_of, placed_bytes_of_line, line_size}

-- one line's labels, and those of later lines
pub labels-line : (whole found : List Label) (number place : ℕ) (line rest later : List ℕ) → lines rest ≡ line ∷ lines later → whole ≡ found ++ labels_from number place (lines rest) → whole ≡ (found ++ label_at number place (label_of (code_of line))) ++ labels_from (number + 1) (place + line_size line) (lines later)
unfolding labels_from
labels-line whole found number place line rest later split h =
    h ∙ ap (λ ls. found ++ labels_from number place ls) split ∙ sym (append_assoc found (label_at number place (label_of (code_of line))) (labels_from (number + 1) (place + line_size line) (lines later)))

pub labels-end : (whole found : List Label) (number place : ℕ) (rest : List ℕ) → lines rest ≡ [] → whole ≡ found ++ labels_from number place (lines rest) → whole ≡ found
unfolding labels_from
labels-end whole found number place rest none h = h ∙ ap (λ ls. found ++ labels_from number place ls) none ∙ append-nil found

-- the bytes so far, before all that later lines have
abbrev pub after_out : List ℕ → Result (List ℕ) (ℕ × AsmKind) → Result (List ℕ) (ℕ × AsmKind)
after_out out later = before 0 (Ok out) later

grouped : (out bytes : List ℕ) (number : ℕ) (later : Result (List ℕ) (ℕ × AsmKind)) → after_out out (before number (Ok bytes) later) ≡ after_out (out ++ bytes) later
grouped out bytes number (Ok more) = ap Ok (sym (append_assoc out bytes more))
grouped out bytes number (Err refusal) = refl

-- one line's bytes, and those of later lines
pub bytes-line : (whole : Result (List ℕ) (ℕ × AsmKind)) (labels : List Label) (out bytes : List ℕ) (number place : ℕ) (line rest later : List ℕ) → lines rest ≡ line ∷ lines later → placed_bytes_of_line labels number place line ≡ Ok bytes → whole ≡ after_out out (bytes_from labels number place (lines rest)) → whole ≡ after_out (out ++ bytes) (bytes_from labels (number + 1) (place + line_size line) (lines later))
unfolding bytes_from
bytes-line whole labels out bytes number place line rest later split reading h =
    h
    ∙ ap (λ ls. after_out out (bytes_from labels number place ls)) split
    ∙ ap (λ first. after_out out (before number first (bytes_from labels (number + 1) (place + line_size line) (lines later)))) reading
    ∙ grouped out bytes number (bytes_from labels (number + 1) (place + line_size line) (lines later))

-- a line that is refused
pub bytes-refused : (whole : Result (List ℕ) (ℕ × AsmKind)) (labels : List Label) (out : List ℕ) (number place : ℕ) (line rest later : List ℕ) (refusal : AsmKind) → lines rest ≡ line ∷ lines later → placed_bytes_of_line labels number place line ≡ Err refusal → whole ≡ after_out out (bytes_from labels number place (lines rest)) → whole ≡ Err (number, refusal)
unfolding bytes_from
bytes-refused whole labels out number place line rest later refusal split reading h =
    h
    ∙ ap (λ ls. after_out out (bytes_from labels number place ls)) split
    ∙ ap (λ first. after_out out (before number first (bytes_from labels (number + 1) (place + line_size line) (lines later)))) reading

pub bytes-end : (whole : Result (List ℕ) (ℕ × AsmKind)) (labels : List Label) (out : List ℕ) (number place : ℕ) (rest : List ℕ) → lines rest ≡ [] → whole ≡ after_out out (bytes_from labels number place (lines rest)) → whole ≡ Ok out
unfolding bytes_from
bytes-end whole labels out number place rest none h = h ∙ ap (λ ls. after_out out (bytes_from labels number place ls)) none ∙ ap Ok (append-nil out)

-- a text of no bytes has no lines
pub lines-none : (text : List ℕ) → length text ≡ 0 → lines text ≡ []
lines-none [] h = refl
lines-none (b ∷ text) h = absurd (grind arith)

-- an answer of one line's fault
pub gives-fault : (whole : Result (List ℕ) (ℕ × AsmKind)) (labels : List Label) (out : List ℕ) (number place : ℕ) (line rest later : List ℕ) (stop : LineFault) → lines rest ≡ line ∷ lines later → GivesLine (Err stop) (placed_bytes_of_line labels number place line) → whole ≡ after_out out (bytes_from labels number place (lines rest)) → Gives (Err (fault_of number stop)) whole
gives-fault whole labels out number place line rest later (Refused refusal) split reading h = bytes-refused whole labels out number place line rest later refusal split reading h
gives-fault whole labels out number place line rest later OutOfMemory split reading h = tt

-- ---- where a label is

found-first : (name : List ℕ) (number place : ℕ) (found : Option (List ℕ)) (later : List Label) → is_some (option_map (λ (l : Label). l.place) (label_by (label_at number place found ++ later) name))
    ≡ option_map_or (λ (word : List ℕ). bytes_eq word name) found false || is_some (option_map (λ (l : Label). l.place) (label_by later name))
found-first name number place None later = refl
found-first name number place (Some word) later = elim (bytes_eq word name) as (λ b. is_some (option_map (λ (l : Label). l.place) (cond b (Some (record { name = word; line = number; place = place })) (label_by later name))) ≡ b || is_some (option_map (λ (l : Label). l.place) (label_by later name))) [
  | true ↦ refl
  | false ↦ refl
]

-- a label is found if one of the lines is that label
pub found-in : (name : List ℕ) (number place : ℕ) (texts : List (List ℕ)) → is_some (option_map (λ (l : Label). l.place) (label_by (labels_from number place texts) name)) ≡ list_any (is_label name) texts
unfolding labels_from
found-in name number place [] = refl
found-in name number place (line ∷ later) =
    found-first name number place (label_of (code_of line)) (labels_from (number + 1) (place + line_size line) later)
    ∙ ap (λ (b : Bool). is_label name line || b) (found-in name (number + 1) (place + line_size line) later)

pub found-place : (place : Option ℕ) (labels : List Label) (name word text bytes : List ℕ) → word ≡ name → bytes ≡ text → place ≡ option_map (λ (l : Label). l.place) (label_by labels word) → labels ≡ labels_of bytes
    → is_some place ≡ list_any (is_label name) (lines text)
found-place place labels name word text bytes named same at all = rw (at, all, named, same) (found-in name 1 0 (lines text))
