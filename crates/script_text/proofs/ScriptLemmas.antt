-- What the words of a text line are, and how a script goes on after its first lines.
use Rattle.std.proofs.Common.{◌≡◌, ℕ, zero, suc, ◌+◌, ◌<◌, ◌≤◌, List, [], ◌∷◌, ◌++◌, Bool, true, false, ◌&&◌, ◌||◌, cond, length, take, nat_eq, nat_lt, refl, sym, ap, subst, ◌∙◌, arith, lit<, append_assoc, length-append}
use Rattle.std.specs.Prelude.{Option, Some, None, Err, filter, option_map}
use Rattle.std.specs.Option.{option_or, option_to_list}
use Rattle.std.proofs.lemmas.List.{append-nil}
use Rattle.std.specs.List.{before_first, cons_option, filter_map, list_all, onto_first, position_or_len, slice_split}
use Rattle.std.specs.Str.{IsAscii}
use Rattle.std.specs.Str.Lines.{lines}
use Rattle.std.proofs.lemmas.Bool.Decides.{nat_tests}
use Rattle.text_lines.specs.Words.{is_blank, is_some_word, is_text_byte, word_at}
use Rattle.fw_types.specs.Commands.{has_legal_budgets}
use Rattle.fw_types.specs.declared.limits.TheConstants.{LEAST_CALL_BUDGET, LEAST_COMMAND_BUDGET, MOST_BUDGET}
use Rattle.pci_model.specs.BoardRules.{board_fault}
use Rattle.pci_model.specs.Laws.{OneMorePasses}
use Rattle.pci_model.specs.declared.fault.LineFault.{LineFault}
use Rattle.pci_model.specs.declared.fault.LineFault.TheVariants as fault
use Rattle.script_text.specs.declared.script.TheConstants.{MOST_LINE_BYTES, MOST_LINES}
use Rattle.script_text.specs.declared.keyword.Keyword.{Keyword}
use Rattle.script_text.specs.declared.keyword.Keyword.TheVariants.{Root, Func, Bridge, Bar, Rom, Load, Connect, Disconnect, Unload, Platform, Budget, Dump}
use Rattle.script_text.specs.Numbers.{number_of}
use Rattle.script_text.proofs.NumbersLemmas.{only_between-within}
use Rattle.script_text.specs.declared.script.Item.{Item}
use Rattle.script_text.specs.declared.script.Item.TheVariants as item
use Rattle.script_text.specs.declared.script.Script.{Script}
use Rattle.script_text.specs.declared.script.ScriptKind.{ScriptKind}
use Rattle.script_text.specs.declared.script.ScriptFault.{ScriptFault}
use Rattle.script_text.specs.declared.script.ScriptFault.TheVariants.{Refused, OutOfMemory}
use Rattle.script_text.specs.declared.script.ScriptKind.TheVariants.{TooLong, Extra, Number, BoardLate, Duplicate}
use Rattle.script_text.specs.Forms.{are_text, is_hash, keyword_of, line_words}
use Rattle.script_text.specs.ScriptGrammar.{Gives, accepted, board_line_in, command_in, fault_after, first_kind, first_refusal, has_too_many_words, has_wrong_number, is_fault, is_late, is_too_long, item_for, item_of, items_of, kind_after, kind_of, line_of, line_unless, refused, refuses_word, script_of, script_unless, script_with, tests_after, tests_alone, with_item}

and-left : (a b : Bool) → (a && b) ≡ true → a ≡ true
and-left true b h = refl
and-left false b h = h

and-right : (a b : Bool) → (a && b) ≡ true → b ≡ true
and-right true b h = h
and-right false b h = cc

-- what passes a test passes it in a prefix, in the parts of a split, and in a filter
list_all-take : (p : ℕ → Bool) (n : ℕ) (xs : List ℕ) → list_all p xs ≡ true → list_all p (take n xs) ≡ true
list_all-take p zero xs h = refl
list_all-take p (suc n) [] h = refl
list_all-take p (suc n) (x ∷ xs) h = rw (and-left (p x) (list_all p xs) h) (list_all-take p n xs (and-right (p x) (list_all p xs) h))

list_all-onto_first : (p : ℕ → Bool) (x : ℕ) (parts : List (List ℕ)) → p x ≡ true → list_all (list_all p) parts ≡ true → list_all (list_all p) (onto_first x parts) ≡ true
list_all-onto_first p x [] h rest = rw h refl
list_all-onto_first p x (part ∷ parts) h rest = rw h rest

list_all-slice_split : (p q : ℕ → Bool) (xs : List ℕ) → list_all p xs ≡ true → list_all (list_all p) (slice_split q xs) ≡ true
list_all-slice_split p q [] h = refl
list_all-slice_split p q (x ∷ xs) h =
    let first : p x ≡ true = and-left (p x) (list_all p xs) h in
    let rest : list_all (list_all p) (slice_split q xs) ≡ true = list_all-slice_split p q xs (and-right (p x) (list_all p xs) h) in
    elim (q x) as (λ b. list_all (list_all p) (cond b ([] ∷ slice_split q xs) (onto_first x (slice_split q xs))) ≡ true) [ true ↦ rest | false ↦ list_all-onto_first p x (slice_split q xs) first rest ]

list_all-filter : (p q : List ℕ → Bool) (xs : List (List ℕ)) → list_all p xs ≡ true → list_all p (filter q xs) ≡ true
list_all-filter p q [] h = refl
list_all-filter p q (x ∷ xs) h =
    let first : p x ≡ true = and-left (p x) (list_all p xs) h in
    let rest : list_all p (filter q xs) ≡ true = list_all-filter p q xs (and-right (p x) (list_all p xs) h) in
    elim (q x) as (λ b. list_all p (cond b (x ∷ filter q xs) (filter q xs)) ≡ true) [ true ↦ rw first rest | false ↦ rest ]

-- the words of a text line are text
pub are_text-line_words : (line : List ℕ) → list_all is_text_byte line ≡ true → are_text (line_words line) ≡ true
are_text-line_words line h =
    list_all-filter (list_all is_text_byte) is_some_word (slice_split is_blank (before_first is_hash line)) (list_all-slice_split is_text_byte is_blank (before_first is_hash line) (list_all-take is_text_byte (position_or_len is_hash line) line h))

-- and so is each of them
pub word_at-text : (ws : List (List ℕ)) (i : ℕ) → are_text ws ≡ true → list_all is_text_byte (word_at ws i) ≡ true
word_at-text [] i h = refl
word_at-text (w ∷ ws) zero h = and-left (list_all is_text_byte w) (are_text ws) h
word_at-text (w ∷ ws) (suc i) h = word_at-text ws i (and-right (list_all is_text_byte w) (are_text ws) h)

text-below : (x : ℕ) → is_text_byte x ≡ true → x < 128
text-below x h = grind (arith, nat_tests)

-- text is ASCII
pub IsAscii-text : (word : List ℕ) → list_all is_text_byte word ≡ true → IsAscii word
IsAscii-text [] h i = lit< tt
IsAscii-text (x ∷ xs) h zero = text-below x (and-left (is_text_byte x) (list_all is_text_byte xs) h)
IsAscii-text (x ∷ xs) h (suc i) = IsAscii-text xs (and-right (is_text_byte x) (list_all is_text_byte xs) h) i

pub ruleset line_text = (are_text-line_words, word_at-text)

-- ---- tests

pub first_kind-append : (tests more : List (Bool × ScriptKind)) → first_kind (tests ++ more) ≡ option_or (first_kind tests) (first_kind more)
first_kind-append [] more = refl
first_kind-append (test ∷ tests) more =
    elim test.0 as (λ b. cond b (Some test.1) (first_kind (tests ++ more)) ≡ option_or (cond b (Some test.1) (first_kind tests)) (first_kind more)) [
      | true ↦ refl
      | false ↦ first_kind-append tests more
    ]

or-none : (kind more : Option ScriptKind) → option_or kind more ≡ None → (kind ≡ None) × (more ≡ None)
or-none None more h = (refl, h)
or-none (Some kind) more h = absurd cc

-- if no kind of a line of the board is one that the rules of boards give, the line breaks none of them
no_fault : (many wrong late : Bool) (found : Option LineFault)
    → first_kind ((many || is_fault fault.Extra found, Extra) ∷ (wrong || is_fault fault.Number found, Number) ∷ (late, BoardLate) ∷ (is_fault fault.Duplicate found, Duplicate) ∷ []) ≡ None
    → found ≡ None
no_fault many wrong late None h = refl
no_fault true wrong late (Some fault.Extra) h = absurd cc
no_fault false wrong late (Some fault.Extra) h = absurd cc
no_fault true wrong late (Some fault.Number) h = absurd cc
no_fault false true late (Some fault.Number) h = absurd cc
no_fault false false late (Some fault.Number) h = absurd cc
no_fault true wrong late (Some fault.Duplicate) h = absurd cc
no_fault false true late (Some fault.Duplicate) h = absurd cc
no_fault false false true (Some fault.Duplicate) h = absurd cc
no_fault false false false (Some fault.Duplicate) h = absurd cc

-- a line that is not refused after a script
kind_after-parts : (number : ℕ) (before : Script) (line : List ℕ) → kind_after number before line ≡ None
    → (first_kind (tests_alone number line (line_words line)) ≡ None) × (first_kind (tests_after before (line_words line) (item_of (line_words line))) ≡ None)
kind_after-parts number before line h =
    let words = line_words line in
    or-none (first_kind (tests_alone number line words)) (first_kind (tests_after before words (item_of words)))
    (sym (first_kind-append (tests_alone number line words) (tests_after before words (item_of words))) ∙ h)

kind_after-fault : (number : ℕ) (before : Script) (line : List ℕ) → kind_after number before line ≡ None → fault_after before (item_of (line_words line)) ≡ None
kind_after-fault number before line h =
    let words = line_words line in
    no_fault (has_too_many_words words) (has_wrong_number words) (is_late before (item_of words)) (fault_after before (item_of words)) (kind_after-parts number before line h).1

-- a line that is refused by itself
pub line_of-alone : (number : ℕ) (before : Script) (line : List ℕ) (kind : ScriptKind) → first_kind (tests_alone number line (line_words line)) ≡ Some kind → line_of number before line ≡ refused number kind
line_of-alone number before line kind h =
    let words = line_words line in
    let first : kind_after number before line ≡ Some kind =
    first_kind-append (tests_alone number line words) (tests_after before words (item_of words)) ∙ ap (λ (found : Option ScriptKind). option_or found (first_kind (tests_after before words (item_of words)))) h in
    ap (λ (found : Option ScriptKind). line_unless found number (item_of words)) first

-- a line that is not: the tests of a line after a script decide
pub line_of-after : (number : ℕ) (before : Script) (line : List ℕ) (kind : ScriptKind) → first_kind (tests_alone number line (line_words line)) ≡ None
    → first_kind (tests_after before (line_words line) (item_of (line_words line))) ≡ Some kind → line_of number before line ≡ refused number kind
line_of-after number before line kind none h =
    let words = line_words line in
    let after : kind_after number before line ≡ Some kind =
    first_kind-append (tests_alone number line words) (tests_after before words (item_of words)) ∙ ap (λ (found : Option ScriptKind). option_or found (first_kind (tests_after before words (item_of words)))) none ∙ h in
    ap (λ (found : Option ScriptKind). line_unless found number (item_of words)) after

-- what the line gives makes a board again
with_item-board : OneMorePasses → (before : Script) (given : Option Item) → board_fault before.board ≡ None → fault_after before given ≡ None → board_fault (with_item before given).board ≡ None
with_item-board more before None ok none = ok
with_item-board more before (Some (item.Board line)) ok none = more before.board line ok none
with_item-board more before (Some (item.Command command)) ok none = ok

-- ---- one more line

line_unless-accepted : (kind : Option ScriptKind) (number : ℕ) (here given : Option Item) → line_unless kind number here ≡ accepted given → (kind ≡ None) × (here ≡ given)
line_unless-accepted None number here given h = (refl, cc)
line_unless-accepted (Some kind) number here given h = absurd (cc)

line_unless-refused : (kind : Option ScriptKind) (number : ℕ) (here : Option Item) (at : ℕ) (why : ScriptKind) → line_unless kind number here ≡ refused at why → (kind ≡ Some why) × (number ≡ at)
line_unless-refused None number here at why h = absurd (cc)
line_unless-refused (Some kind) number here at why h = (cc, cc)

cons_option-list : {X : Type 0} (found : Option X) (xs : List X) → cons_option found xs ≡ option_to_list found ++ xs
cons_option-list None xs = refl
cons_option-list (Some x) xs = refl

filter_map-push : {X Y : Type 0} (f : X → Option Y) (xs : List X) (x : X) → filter_map f (xs ++ x ∷ []) ≡ filter_map f xs ++ option_to_list (f x)
filter_map-push f [] x = cons_option-list (f x) [] ∙ append-nil (option_to_list (f x))
filter_map-push f (y ∷ ys) x =
    elim (f y) as (λ found. cons_option found (filter_map f (ys ++ x ∷ [])) ≡ cons_option found (filter_map f ys) ++ option_to_list (f x)) [
      | None ↦ filter_map-push f ys x
      | Some z ↦ ap (λ zs. z ∷ zs) (filter_map-push f ys x)
    ]

script_with-push : (items : List Item) (given : Option Item) → script_with (items ++ option_to_list given) ≡ with_item (script_with items) given
script_with-push items None = ap script_with (append-nil items)
script_with-push items (Some (item.Board line)) =
    let board : filter_map board_line_in (items ++ item.Board line ∷ []) ≡ filter_map board_line_in items ++ line ∷ [] = filter_map-push board_line_in items (item.Board line) in
    let commands : filter_map command_in (items ++ item.Board line ∷ []) ≡ filter_map command_in items = filter_map-push command_in items (item.Board line) ∙ append-nil (filter_map command_in items) in
    rw (board, commands) refl
script_with-push items (Some (item.Command command)) =
    let board : filter_map board_line_in (items ++ item.Command command ∷ []) ≡ filter_map board_line_in items = filter_map-push board_line_in items (item.Command command) ∙ append-nil (filter_map board_line_in items) in
    let commands : filter_map command_in (items ++ item.Command command ∷ []) ≡ filter_map command_in items ++ command ∷ [] = filter_map-push command_in items (item.Command command) in
    rw (board, commands) refl

-- The first lines of a text were read: none of them is refused, and they give a script, whose board lines are a board.
pub record ReadSoFar (bytes text : List ℕ) (script : Script) (number : ℕ) : Type 0 where
  pub before : List (List ℕ)
  pub whole : lines bytes ≡ before ++ lines text
  pub refusal : first_refusal [] (lines bytes) ≡ first_refusal before (lines text)
  pub given : script ≡ script_with (items_of before)
  pub counted : number ≡ length before + 1
  pub small : number ≤ MOST_LINES + 1
  pub board : board_fault script.board ≡ None

-- the next line is refused for the same kind, given the lines before it, as after their script
kind_of-here : (before : List (List ℕ)) (script : Script) (number : ℕ) (line : List ℕ) → script ≡ script_with (items_of before) → number ≡ length before + 1 → kind_of before line ≡ kind_after number script line
kind_of-here before script number line given counted =
    ap (λ (n : ℕ). kind_after n (script_with (items_of before)) line) (sym counted) ∙ ap (λ (s : Script). kind_after number s line) (sym given)

or-middle : (a b : Bool) → (a || true || b) ≡ true
or-middle true b = refl
or-middle false b = refl

-- only the first 100,000 lines may be accepted
number-small : (number : ℕ) (before : Script) (line : List ℕ) → kind_after number before line ≡ None → number ≤ MOST_LINES
number-small number before line h =
    elim (nat_lt MOST_LINES number) as (λ b. nat_lt MOST_LINES number ≡ b → number ≤ MOST_LINES) [
      | true ↦ λ late.
          let long : is_too_long number line (line_words line) ≡ true = rw late (or-middle (nat_lt MOST_LINE_BYTES (length line)) (refuses_word TooLong false (line_words line))) in
          let refused : first_kind (tests_alone number line (line_words line)) ≡ Some TooLong = rw long refl in
          absurd (let none : first_kind (tests_alone number line (line_words line)) ≡ None = (kind_after-parts number before line h).0 in cc)
      | false ↦ λ early. grind (arith, nat_tests)
    ] refl

passed-on : (before later : List (List ℕ)) (line : List ℕ) → kind_of before line ≡ None → first_refusal before (line ∷ later) ≡ first_refusal (before ++ line ∷ []) later
passed-on before later line h = ap (λ (kind : Option ScriptKind). option_or (option_map (λ (k : ScriptKind). (length before + 1, k)) kind) (first_refusal (before ++ line ∷ []) later)) h

-- a line that is not refused
pub ReadSoFar-line : OneMorePasses → (bytes text rest line : List ℕ) (script next : Script) (number counted : ℕ) (given : Option Item) → ReadSoFar bytes text script number → lines text ≡ line ∷ lines rest
    → line_of number script line ≡ accepted given → next ≡ with_item script given → (number ≤ MOST_LINES → counted ≡ number + 1) → ReadSoFar bytes rest next counted
ReadSoFar-line more bytes text rest line script next number counted given so_far split reads kept counts =
    let before = so_far.before in
    let parts = line_unless-accepted (kind_after number script line) number (item_of (line_words line)) given reads in
    let passes : kind_of before line ≡ None = kind_of-here before script number line so_far.given so_far.counted ∙ parts.0 in
    let small : number ≤ MOST_LINES = number-small number script line parts.0 in
    let items : items_of (before ++ line ∷ []) ≡ items_of before ++ option_to_list given =
    filter_map-push (λ (line : List ℕ). item_of (line_words line)) before line ∙ ap (λ (found : Option Item). items_of before ++ option_to_list found) parts.1 in
    let one : counted ≡ number + 1 = counts small in
    record {
      before = before ++ line ∷ [];
      whole = so_far.whole ∙ ap (λ (ls : List (List ℕ)). before ++ ls) split ∙ sym (append_assoc before (line ∷ []) (lines rest));
      refusal = so_far.refusal ∙ ap (first_refusal before) split ∙ passed-on before (lines rest) line passes;
      given = kept ∙ ap (λ (s : Script). with_item s given) so_far.given ∙ sym (script_with-push (items_of before) given) ∙ ap script_with (sym items);
      counted = (let grown : length (before ++ line ∷ []) ≡ length before + 1 = length-append before (line ∷ []) in omega (arith, so_far.counted, one, grown));
      small = omega arith;
      board = ap (λ (s : Script). board_fault s.board) kept ∙ with_item-board more script given so_far.board (subst (λ (found : Option Item). fault_after script found ≡ None) parts.1 (kind_after-fault number script line parts.0));
    }

-- a line that is refused
pub ReadSoFar-refused : (bytes text line : List ℕ) (later : List (List ℕ)) (script : Script) (number : ℕ) (why : ScriptFault) → ReadSoFar bytes text script number → lines text ≡ line ∷ later
    → Gives {T = Option Item} (Err why) (line_of number script line) → Gives {T = Script} (Err why) (script_of bytes)
ReadSoFar-refused bytes text line later script number (Refused at kind) so_far split reads =
    let before = so_far.before in
    let parts = line_unless-refused (kind_after number script line) number (item_of (line_words line)) at kind reads in
    let stops : kind_of before line ≡ Some kind = kind_of-here before script number line so_far.given so_far.counted ∙ parts.0 in
    let first : first_refusal before (line ∷ later) ≡ Some (length before + 1, kind) =
    ap (λ (found : Option ScriptKind). option_or (option_map (λ (k : ScriptKind). (length before + 1, k)) found) (first_refusal (before ++ line ∷ []) later)) stops in
    let whole : first_refusal [] (lines bytes) ≡ Some (length before + 1, kind) = so_far.refusal ∙ ap (first_refusal before) split ∙ first in
    let number : length before + 1 ≡ at = sym so_far.counted ∙ parts.1 in
    ap (λ (refusal : Option (ℕ × ScriptKind)). script_unless refusal (script_with (items_of (lines bytes)))) whole ∙ ap (λ (n : ℕ). refused n kind) number
ReadSoFar-refused bytes text line later script number OutOfMemory so_far split reads = tt

-- no line is left
pub ReadSoFar-end : (bytes text : List ℕ) (script : Script) (number : ℕ) → ReadSoFar bytes text script number → lines text ≡ [] → script_of bytes ≡ accepted script
ReadSoFar-end bytes text script number so_far none =
    let before = so_far.before in
    let passes : first_refusal [] (lines bytes) ≡ None = so_far.refusal ∙ ap (first_refusal before) none in
    let all : lines bytes ≡ before = so_far.whole ∙ ap (λ (ls : List (List ℕ)). before ++ ls) none ∙ append-nil before in
    ap (λ (refusal : Option (ℕ × ScriptKind)). script_unless refusal (script_with (items_of (lines bytes)))) passes
    ∙ ap (λ (ls : List (List ℕ)). accepted (script_with (items_of ls))) all ∙ ap accepted (sym so_far.given)

-- no byte makes no line
pub lines-empty : (xs : List ℕ) → nat_eq (length xs) 0 ≡ true → lines xs ≡ []
lines-empty [] h = refl
lines-empty (x ∷ xs) h = absurd (grind (arith, nat_tests))

-- ---- budgets

legal : List Item → Bool
legal items = list_all has_legal_budgets (filter_map command_in items)

is_legal : Item → Bool
is_legal (item.Board line) = true
is_legal (item.Command command) = has_legal_budgets command

item_for-legal : (ws : List (List ℕ)) (keyword : Keyword) → is_legal (item_for keyword ws) ≡ true
unfolding is_legal
item_for-legal ws Root = refl
item_for-legal ws Func = refl
item_for-legal ws Bridge = refl
item_for-legal ws Bar = refl
item_for-legal ws Rom = refl
item_for-legal ws Load = refl
item_for-legal ws Connect = refl
item_for-legal ws Disconnect = refl
item_for-legal ws Unload = refl
item_for-legal ws Platform = refl
item_for-legal ws Budget =
    rw (only_between-within LEAST_COMMAND_BUDGET MOST_BUDGET (number_of (word_at ws 1)) (omega arith), only_between-within LEAST_CALL_BUDGET MOST_BUDGET (number_of (word_at ws 2)) (omega arith)) refl
item_for-legal ws Dump = refl

legal-more : (given : Item) (items : List Item) → is_legal given ≡ true → legal items ≡ true → legal (given ∷ items) ≡ true
unfolding legal is_legal
legal-more (item.Board line) items here h = h
legal-more (item.Command command) items here h = rw here h

legal-line : (ws : List (List ℕ)) (keyword : Option Keyword) (items : List Item) → legal items ≡ true → legal (cons_option (option_map (λ (k : Keyword). item_for k ws) keyword) items) ≡ true
legal-line ws None items h = h
legal-line ws (Some keyword) items h = legal-more (item_for keyword ws) items (item_for-legal ws keyword) h

legal-none : legal [] ≡ true
unfolding legal
legal-none = refl

items_of-legal : (ls : List (List ℕ)) → legal (items_of ls) ≡ true
items_of-legal [] = legal-none
items_of-legal (line ∷ later) = legal-line (line_words line) (keyword_of (line_words line)) (items_of later) (items_of-legal later)

script_unless-legal : (refusal : Option (ℕ × ScriptKind)) (items : List Item) (script : Script) → script_unless refusal (script_with items) ≡ accepted script → legal items ≡ true
    → list_all has_legal_budgets script.commands ≡ true
unfolding legal
script_unless-legal None items script h ok =
    let same : script_with items ≡ script = cc in
    ap (λ (s : Script). list_all has_legal_budgets s.commands) (sym same) ∙ ok
script_unless-legal (Some refusal) items script h ok = absurd (cc)

-- a machine may be given the budgets of each command of a script
pub script_of-legal : (bytes : List ℕ) (script : Script) → script_of bytes ≡ accepted script → list_all has_legal_budgets script.commands ≡ true
script_of-legal bytes script h = script_unless-legal (first_refusal [] (lines bytes)) (items_of (lines bytes)) script h (items_of-legal (lines bytes))
