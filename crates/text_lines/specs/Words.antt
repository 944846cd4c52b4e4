-- Words and blanks of a text of bytes. The lines of a text are std's `lines`: a line feed ends a line,
-- the last may lack it, and a carriage return right before a line feed is dropped.
use Rattle.std.specs.Prelude.{ℕ, List, [], Bool, ◌||◌, ◌&&◌, nat_eq, nat_le, nat_lt, drop, filter, length, slice_get, unwrap_or, if◌then◌else◌}
use Rattle.std.specs.List.{after_first, before_first, list_all, prefix_len, slice_split}

-- a tab or a printable ASCII character
abbrev pub is_text_byte : ℕ → Bool
is_text_byte b = nat_eq b 9 || (nat_le 32 b && nat_le b 126)

-- spaces and tabs separate words
abbrev pub is_blank : ℕ → Bool
is_blank b = nat_eq b 32 || nat_eq b 9

-- ---- from the front of a text

-- the text without the blanks at its front
abbrev pub after_blanks : List ℕ → List ℕ
after_blanks text = drop (prefix_len is_blank text) text

-- the text before its first blank, and after it
abbrev pub first_word : List ℕ → List ℕ
first_word text = before_first is_blank text

abbrev pub after_word : List ℕ → List ℕ
after_word text = after_first is_blank text

-- the one word among blanks, or nothing if there is none or more than one
abbrev pub only_word : List ℕ → List ℕ
only_word text =
    let inner : List ℕ = after_blanks text in
    if list_all is_blank (after_word inner) then first_word inner else []

-- ---- all words of a text

abbrev pub is_some_word : List ℕ → Bool
is_some_word word = nat_lt 0 (length word)

-- what lies between blanks and is not empty
abbrev pub words : List ℕ → List (List ℕ)
words text = filter is_some_word (slice_split is_blank text)

-- the word at a place, from 0, or an empty one past the end
abbrev pub word_at : List (List ℕ) → ℕ → List ℕ
word_at words place = unwrap_or (slice_get words place) []
