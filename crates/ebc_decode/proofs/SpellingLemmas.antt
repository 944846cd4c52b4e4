-- The two definitions of the table agree: what bytes decode to by the positions of their parts, and
-- which bytes spell an instruction.
use Rattle.std.proofs.Common.{◌≡◌, ◌≤◌, ◌<◌, ◌+◌, ◌*◌, ◌/◌, ◌%◌, ℕ, suc, Bool, true, false, subst, cond, List, [], ◌∷◌, ◌++◌, length, take, drop, get_or, ◌⊎◌, inl, inr, refl, ap, sym, ◌∙◌, length-drop, length-append, append_assoc, arith}
use Rattle.std.specs.Prelude.{Option, Some, None, Result, Ok, Err, slice_index, nat_lt, IfOk, IsSomeAnd, bit_and}
use Rattle.std.specs.Int.Bits.{and_self}
use Rattle.std.proofs.Math.Seq.{drop-append_seam, take-append_seam, take-add}
use Rattle.std.proofs.lemmas.List.{get_or-drop, get_or-take, take-append-drop, drop-append-le, length-take}
use Rattle.std.proofs.lemmas.Nat.{and_assoc, and_le_l}
use Rattle.std.proofs.lemmas.Bool.Decides.{nat_tests}
use Rattle.byteorder.specs.Endian.{little_number, little_bytes}
use Rattle.byteorder.specs.Numbers.{little_number-reads_back, length-bytes_low_first, little_from-lt, little_from-append}
use Rattle.ebc_decode.specs.Spelling.{is_part_size, Spells, FitsForm, IsInstruction, spelling, form_in_table, decoding, decoding_by_form}
use Rattle.ebc_decode.specs.declared.form.Form.{Form}
use Rattle.ebc_decode.specs.declared.instr.Instr.{Instr}
use Rattle.ebc_decode.specs.declared.instr.DecodeRefusal.{DecodeRefusal}
use Rattle.ebc_decode.specs.declared.instr.DecodeRefusal.TheVariants.{Short}
use Rattle.ebc_decode.proofs.KeptBits.{kept_form, form_sizes}
use Rattle.fw_types.proofs.LittleEndian.{little_bytes-little_number}

not-short : (m n : ℕ) → n ≤ m → nat_lt m n ≡ false
not-short m n h = grind (arith, nat_tests)

drop-suc-suc : (n x y : ℕ) (xs : List ℕ) → drop (2 + n) (x ∷ y ∷ xs) ≡ drop n xs
drop-suc-suc n x y xs = let e : 2 + n ≡ suc (suc n) = omega arith in rw e refl

-- the fields of bytes that have a form
fields : Form → List ℕ → Instr
fields form bytes =
    record {
      op = slice_index bytes 0 % 64;
      mods = bit_and (slice_index bytes 0 / 64) form.kept_mods;
      operands = bit_and (slice_index bytes 1) form.kept_operands;
      first = little_number form.first (drop 2 bytes);
      second = little_number form.second (drop (2 + form.first) bytes);
    }

-- bytes of a form are decoded to these fields
decoding-fields : (bytes : List ℕ) (form : Form) → 2 ≤ length bytes → form_in_table (slice_index bytes 0 % 64) (slice_index bytes 0 / 64) (slice_index bytes 1) ≡ Some form
    → 2 + form.first + form.second ≤ length bytes → decoding bytes ≡ Ok (fields form bytes, 2 + form.first + form.second)
unfolding fields
decoding-fields bytes form long listed room =
    let two : nat_lt (length bytes) 2 ≡ false = not-short (length bytes) 2 long in
    let enough : nat_lt (length bytes) (2 + form.first + form.second) ≡ false = not-short (length bytes) (2 + form.first + form.second) room in
    ap (λ b. cond b (Err Short) (decoding_by_form (form_in_table (slice_index bytes 0 % 64) (slice_index bytes 0 / 64) (slice_index bytes 1)) bytes)) two
    ∙ ap (λ f. decoding_by_form f bytes) listed
    ∙ ap (λ b. cond b (Err Short) (Ok (fields form bytes, 2 + form.first + form.second))) enough

-- bytes that spell an instruction are decoded to it, whatever follows
pub decoding-only : (bytes spelled rest : List ℕ) (instr : Instr) → Spells spelled instr → bytes ≡ spelled ++ rest → decoding bytes ≡ Ok (instr, length spelled)
unfolding fields
decoding-only bytes spelled rest instr s whole =
    let form = s.form in
    let F = little_bytes form.first instr.first in
    let S = little_bytes form.second instr.second in
    let f : length F ≡ form.first = length-bytes_low_first 0 form.first instr.first in
    let g : length S ≡ form.second = length-bytes_low_first 0 form.second instr.second in
    let all : List ℕ = spelling form instr s.mods s.operands ++ rest in
    let op : slice_index all 0 % 64 ≡ instr.op = let small : instr.op < 64 = s.op_fits in omega arith in
    let mods : slice_index all 0 / 64 ≡ s.mods = let small : instr.op < 64 = s.op_fits in omega arith in
    let listed : form_in_table (slice_index all 0 % 64) (slice_index all 0 / 64) s.operands ≡ Some form = rw (op, mods) s.listed in
    let regrouped : (F ++ S) ++ rest ≡ F ++ (S ++ rest) = append_assoc F S rest in
    let first : little_number form.first (drop 2 all) ≡ instr.first = ap (little_number form.first) regrouped ∙ little_number-reads_back form.first instr.first (S ++ rest) s.first_fits in
    let later : drop (2 + form.first) all ≡ S ++ rest =
    drop-suc-suc form.first (instr.op + 64 * s.mods) s.operands ((F ++ S) ++ rest)
    ∙ ap (drop form.first) regrouped
    ∙ ap (λ n. drop n (F ++ (S ++ rest))) (sym f)
    ∙ drop-append_seam F (S ++ rest) in
    let second : little_number form.second (drop (2 + form.first) all) ≡ instr.second = ap (little_number form.second) later ∙ little_number-reads_back form.second instr.second rest s.second_fits in
    let size : length spelled ≡ 2 + form.first + form.second = ap length s.bytes_are ∙ omega (arith, length-append F S) in
    let same : fields form all ≡ instr = rw (op, mods, sym s.mods_are, sym s.operands_are, first, second) refl in
    ap decoding (whole ∙ ap (λ t. t ++ rest) s.bytes_are)
    ∙ decoding-fields all form (omega arith) listed (omega (arith, length-append (F ++ S) rest, length-append F S))
    ∙ rw (same, size) refl

take-suc-suc : (n x y : ℕ) (xs : List ℕ) (m : ℕ) → m ≡ suc (suc n) → take m (x ∷ y ∷ xs) ≡ x ∷ y ∷ take n xs
take-suc-suc n x y xs m e = rw e refl

room_of : (len f s : ℕ) → nat_lt (suc (suc len)) (2 + f + s) ≡ false → f + s ≤ len
room_of len f s h = grind (arith, nat_tests)

guard_ok : {X : Type 0} → (b : Bool) (x y : X) → ◌≡◌ {A = Result X DecodeRefusal} (cond b (Err Short) (Ok x)) (Ok y) → (b ≡ false) × (x ≡ y)
guard_ok true x y e = absurd cc
guard_ok false x y e = (refl, cc)

found-in : (short : Bool) (listed : Option Form) (bytes : List ℕ) (found : Instr × ℕ) → cond short (Err Short) (decoding_by_form listed bytes) ≡ Ok found
    → (form : Form) × (listed ≡ Some form) × (nat_lt (length bytes) (2 + form.first + form.second) ≡ false) × ((fields form bytes, 2 + form.first + form.second) ≡ found)
unfolding fields
found-in true listed bytes found e = absurd cc
found-in false None bytes found e = absurd cc
found-in false (Some form) bytes found e =
    let parts = guard_ok (nat_lt (length bytes) (2 + form.first + form.second)) (fields form bytes, 2 + form.first + form.second) found e in
    (form, refl, parts.0, parts.1)

spells-fields : (form : Form) (a b : ℕ) (rest : List ℕ) → a < 256 → b < 256 → ((i : ℕ) → get_or rest i 0 < 256) → form_in_table (a % 64) (a / 64) b ≡ Some form → form.first + form.second ≤ length rest
    → Spells (take (2 + form.first + form.second) (a ∷ b ∷ rest)) (fields form (a ∷ b ∷ rest))
unfolding fields
spells-fields form a b rest small small_b fits listed room =
    let f = form.first in
    let s = form.second in
    let later : drop (2 + f) (a ∷ b ∷ rest) ≡ drop f rest = drop-suc-suc f a b rest in
    let first : little_bytes f (little_number f rest) ≡ take f rest = little_bytes-little_number f rest (omega arith) fits in
    let second : little_bytes s (little_number s (drop f rest)) ≡ take s (drop f rest) = little_bytes-little_number s (drop f rest) (omega (arith, length-drop f rest)) (λ i. rw get_or-drop (fits (f + i))) in
    let front : take (2 + f + s) (a ∷ b ∷ rest) ≡ a ∷ b ∷ take (f + s) rest = take-suc-suc (f + s) a b rest (2 + f + s) (omega arith) in
    let whole : a % 64 + 64 * (a / 64) ≡ a = omega arith in
    record {
      mods = a / 64;
      operands = b;
      form = form;
      listed = listed;
      op_fits = omega arith;
      mods_fit = omega arith;
      operands_fit = small_b;
      mods_are = refl;
      operands_are = refl;
      first_fits = little_from-lt 0 f rest fits;
      second_fits = rw later (little_from-lt 0 s (drop f rest) (λ i. rw get_or-drop (fits (f + i))));
      bytes_are = front ∙ ap (λ t. a ∷ b ∷ t) (take-add f s rest ∙ rw (first, later, second) refl) ∙ ap (λ n. n ∷ b ∷ (little_bytes f (little_number f rest) ++ little_bytes s (little_number s (drop (2 + f) (a ∷ b ∷ rest))))) (sym whole);
    }

-- the bytes that were decoded spell the instruction
pub decoding-found : (bytes : List ℕ) (found : Instr × ℕ) → ((i : ℕ) → get_or bytes i 0 < 256) → decoding bytes ≡ Ok found → Spells (take found.1 bytes) found.0
decoding-found [] found fits e = absurd cc
decoding-found (a ∷ []) found fits e = absurd cc
decoding-found (a ∷ b ∷ rest) found fits e =
    let parts = found-in (nat_lt (length (a ∷ b ∷ rest)) 2) (form_in_table (a % 64) (a / 64) b) (a ∷ b ∷ rest) found e in
    let form = parts.0 in
    let room : form.first + form.second ≤ length rest = room_of (length rest) form.first form.second parts.2 in
    subst (λ (x : Instr × ℕ). Spells (take x.1 (a ∷ b ∷ rest)) x.0) parts.3 (spells-fields form a b rest (fits 0) (fits 1) (λ i. fits (suc (suc i))) parts.1 room)

and_twice : (n mask : ℕ) → bit_and (bit_and n mask) mask ≡ bit_and n mask
and_twice n mask = and_assoc mask n mask ∙ ap (bit_and n) (and_self mask)

some_and : {X : Type 0} → (o : Option X) (x : X) (P : X → Type 0) → o ≡ Some x → P x → IsSomeAnd o P
some_and o x P e p = rw e p

-- the form of what bytes spell
pub form-spelled : (bytes : List ℕ) (instr : Instr) (s : Spells bytes instr) → form_in_table instr.op instr.mods instr.operands ≡ Some s.form
form-spelled bytes instr s = rw (s.mods_are, s.operands_are) (kept_form instr.op s.mods s.operands s.form s.listed)

pub fits-spelled : (bytes : List ℕ) (instr : Instr) (s : Spells bytes instr) → FitsForm instr s.form
fits-spelled bytes instr s =
    let form = s.form in
    let below : bit_and s.mods form.kept_mods ≤ s.mods = and_le_l s.mods form.kept_mods in
    let small : s.mods < 4 = s.mods_fit in
    let mods : instr.mods ≡ bit_and s.mods form.kept_mods = s.mods_are in
    let below_2 : bit_and s.operands form.kept_operands ≤ s.operands = and_le_l s.operands form.kept_operands in
    let small_2 : s.operands < 256 = s.operands_fit in
    let operands : instr.operands ≡ bit_and s.operands form.kept_operands = s.operands_are in
    record {
      op = s.op_fits;
      mods = omega arith;
      operands = omega arith;
      kept_mods = rw s.mods_are (and_twice s.mods form.kept_mods);
      kept_operands = rw s.operands_are (and_twice s.operands form.kept_operands);
      first = s.first_fits;
      second = s.second_fits;
    }

-- what bytes spell is an instruction of the table
pub instruction-spelled : (bytes : List ℕ) (instr : Instr) → Spells bytes instr → IsInstruction instr
instruction-spelled bytes instr s = some_and (form_in_table instr.op instr.mods instr.operands) s.form (FitsForm instr) (form-spelled bytes instr s) (fits-spelled bytes instr s)

-- ---- the bytes of an instruction

-- an instruction of a form is spelled by its bytes if no ignored bit is set
pub plain-spells : (instr : Instr) (form : Form) → form_in_table instr.op instr.mods instr.operands ≡ Some form → FitsForm instr form → Spells (spelling form instr instr.mods instr.operands) instr
plain-spells instr form listed fits =
    record {
      mods = instr.mods;
      operands = instr.operands;
      form = form;
      listed = listed;
      op_fits = fits.op;
      mods_fit = fits.mods;
      operands_fit = fits.operands;
      mods_are = sym fits.kept_mods;
      operands_are = sym fits.kept_operands;
      first_fits = fits.first;
      second_fits = fits.second;
      bytes_are = refl;
    }

pub length-spelling : (form : Form) (instr : Instr) (mods operands : ℕ) → length (spelling form instr mods operands) ≡ 2 + form.first + form.second
length-spelling form instr mods operands =
    let f = length-bytes_low_first 0 form.first instr.first in
    let s = length-bytes_low_first 0 form.second instr.second in
    omega (arith, length-append (little_bytes form.first instr.first) (little_bytes form.second instr.second))

-- two forms of one instruction are the same
form-same : (o : Option Form) (f g : Form) → o ≡ Some f → o ≡ Some g → f ≡ g
form-same o f g a b = cc

-- what spells an instruction of a form has the form's length
pub length-spelled : (bytes : List ℕ) (instr : Instr) (form : Form) → Spells bytes instr → form_in_table instr.op instr.mods instr.operands ≡ Some form → length bytes ≡ 2 + form.first + form.second
length-spelled bytes instr form s listed =
    ap length s.bytes_are
    ∙ length-spelling s.form instr s.mods s.operands
    ∙ ap (λ (f : Form). 2 + f.first + f.second) (form-same (form_in_table instr.op instr.mods instr.operands) s.form form (form-spelled bytes instr s) listed)

-- a fact of an `Ok` value, from one of each value that it may be
pub IfOk-each : {X E : Type 0} (r : Result X E) (P : X → Type 0) → ((x : X) → r ≡ Ok x → P x) → IfOk r P
IfOk-each (Ok x) P h = h x refl
IfOk-each (Err e) P h = tt

-- ---- the front of bytes

fields-append : (form : Form) (front rest : List ℕ) → length front ≡ 2 + form.first + form.second → fields form (front ++ rest) ≡ fields form front
unfolding fields
fields-append form [] rest len = absurd (omega arith)
fields-append form (a ∷ []) rest len = absurd (omega arith)
fields-append form (a ∷ b ∷ body) rest len =
    let f = form.first in
    let s = form.second in
    let room : f ≤ length body = omega arith in
    let first : little_number f (body ++ rest) ≡ little_number f body = little_from-append f body rest room in
    let later : drop (2 + f) (a ∷ b ∷ (body ++ rest)) ≡ drop f body ++ rest = drop-suc-suc f a b (body ++ rest) ∙ drop-append-le f body rest room in
    let second : little_number s (drop (2 + f) (a ∷ b ∷ (body ++ rest))) ≡ little_number s (drop (2 + f) (a ∷ b ∷ body)) =
    ap (little_number s) later
    ∙ little_from-append s (drop f body) rest (omega (arith, length-drop f body))
    ∙ ap (little_number s) (sym (drop-suc-suc f a b body)) in
    rw (first, second) refl

enough : (m n : ℕ) → nat_lt m n ≡ false → n ≤ m
enough m n h = grind (arith, nat_tests)

-- the same bytes at the front, of which there are so many
front_is : (n : ℕ) (bytes other : List ℕ) → take n other ≡ take n bytes → n ≤ length bytes → n ≤ length other
front_is n bytes other same long = omega (arith, length-take n bytes, length-take n other, ap length same)

byte_is : (n i : ℕ) (bytes other : List ℕ) → take n other ≡ take n bytes → i < n → slice_index other i ≡ slice_index bytes i
byte_is n i bytes other same low = sym (get_or-take n other i 0 low) ∙ ap (λ (l : List ℕ). slice_index l i) same ∙ get_or-take n bytes i 0 low

fields_are : (form : Form) (n : ℕ) (bytes other : List ℕ) → n ≡ 2 + form.first + form.second → take n other ≡ take n bytes → n ≤ length bytes → fields form other ≡ fields form bytes
fields_are form n bytes other size same long =
    let len : length (take n bytes) ≡ 2 + form.first + form.second = omega (arith, length-take n bytes) in
    let one : fields form bytes ≡ fields form (take n bytes) = ap (fields form) (sym (take-append-drop n bytes)) ∙ fields-append form (take n bytes) (drop n bytes) len in
    let two : fields form other ≡ fields form (take n bytes) =
    ap (fields form) (sym (take-append-drop n other))
    ∙ ap (λ (l : List ℕ). fields form (l ++ drop n other)) same
    ∙ fields-append form (take n bytes) (drop n other) len in
    two ∙ sym one

-- no byte after the instruction is looked at
pub decoding-front : (bytes other : List ℕ) (instr : Instr) (n : ℕ) → decoding bytes ≡ Ok (instr, n) → take n other ≡ take n bytes → decoding other ≡ Ok (instr, n)
decoding-front bytes other instr n e same =
    let listed_at : List ℕ → Option Form = λ l. form_in_table (slice_index l 0 % 64) (slice_index l 0 / 64) (slice_index l 1) in
    let parts = found-in (nat_lt (length bytes) 2) (listed_at bytes) bytes (instr, n) e in
    let form = parts.0 in
    let size : 2 + form.first + form.second ≡ n = ap (λ (p : Instr × ℕ). p.1) parts.3 in
    let is : fields form bytes ≡ instr = ap (λ (p : Instr × ℕ). p.0) parts.3 in
    let long : 2 + form.first + form.second ≤ length bytes = enough (length bytes) (2 + form.first + form.second) parts.2 in
    let longer : n ≤ length other = front_is n bytes other same (omega arith) in
    let listed : listed_at other ≡ Some form = rw (byte_is n 0 bytes other same (omega arith), byte_is n 1 bytes other same (omega arith)) parts.1 in
    decoding-fields other form (omega arith) listed (omega arith)
    ∙ rw (fields_are form n bytes other (sym size) same (omega arith), is, size) refl

ok-same : (instr other : Instr) (m n : ℕ) (r : Result (Instr × ℕ) DecodeRefusal) → r ≡ Ok (instr, m) → r ≡ Ok (other, n) → (instr ≡ other) × (m ≡ n)
ok-same instr other m n r a b =
    let e : ◌≡◌ {A = Instr × ℕ} (instr, m) (other, n) = cc in
    (ap (λ (p : Instr × ℕ). p.0) e, ap (λ (p : Instr × ℕ). p.1) e)

-- the front of bytes spells at most one instruction
pub one-spelling : (one two rest more : List ℕ) (instr other : Instr) → Spells one instr → Spells two other → one ++ rest ≡ two ++ more → (instr ≡ other) × (length one ≡ length two) × (one ≡ two)
one-spelling one two rest more instr other s t whole =
    let first = decoding-only (one ++ rest) one rest instr s refl in
    let second = decoding-only (one ++ rest) two more other t whole in
    let same = ok-same instr other (length one) (length two) (decoding (one ++ rest)) first second in
    let bytes : one ≡ two =
    sym (take-append_seam one rest)
    ∙ ap (take (length one)) whole
    ∙ ap (λ (n : ℕ). take n (two ++ more)) same.1
    ∙ take-append_seam two more in
    (same.0, same.1, bytes)

some-parts : {X : Type 0} → (o : Option X) (P : X → Type 0) → IsSomeAnd o P → (x : X) × (o ≡ Some x) × P x
some-parts None P h = absurd h
some-parts (Some x) P h = (x, refl, h)

-- an instruction of the table has bytes that spell it
pub instruction-spells : (instr : Instr) → IsInstruction instr → (bytes : List ℕ) × Spells bytes instr
instruction-spells instr h =
    let parts = some-parts (form_in_table instr.op instr.mods instr.operands) (FitsForm instr) h in
    (spelling parts.0 instr instr.mods instr.operands, plain-spells instr parts.0 parts.1 parts.2)

-- what is decoded has as many bytes as its form, and no fewer are there
pub decoding-form : (bytes : List ℕ) (instr : Instr) (n : ℕ) → ((i : ℕ) → get_or bytes i 0 < 256) → decoding bytes ≡ Ok (instr, n)
    → IsSomeAnd (form_in_table instr.op instr.mods instr.operands) (λ form. FitsForm instr form × (n ≡ 2 + form.first + form.second) × (n ≤ length bytes))
decoding-form bytes instr n small e =
    let s = decoding-found bytes (instr, n) small e in
    let parts = found-in (nat_lt (length bytes) 2) (form_in_table (slice_index bytes 0 % 64) (slice_index bytes 0 / 64) (slice_index bytes 1)) bytes (instr, n) e in
    let size : 2 + parts.0.first + parts.0.second ≡ n = ap (λ (p : Instr × ℕ). p.1) parts.3 in
    let room : n ≤ length bytes = omega (arith, enough (length bytes) (2 + parts.0.first + parts.0.second) parts.2) in
    let listed = form-spelled (take n bytes) instr s in
    let same : n ≡ 2 + s.form.first + s.form.second = omega (arith, length-spelled (take n bytes) instr s.form s listed, length-take n bytes) in
    some_and (form_in_table instr.op instr.mods instr.operands) s.form _ listed (fits-spelled (take n bytes) instr s, same, room)

-- the bytes of an instruction of a form are decoded to it
pub spelling-decoding : (instr : Instr) (form : Form) (rest : List ℕ) → form_in_table instr.op instr.mods instr.operands ≡ Some form → FitsForm instr form
    → decoding (spelling form instr instr.mods instr.operands ++ rest) ≡ Ok (instr, 2 + form.first + form.second)
spelling-decoding instr form rest listed fits =
    let bytes = spelling form instr instr.mods instr.operands in
    decoding-only (bytes ++ rest) bytes rest instr (plain-spells instr form listed fits) refl
    ∙ rw (length-spelling form instr instr.mods instr.operands) refl

part_is_even : (x : ℕ) → is_part_size x ≡ true → (x % 2 ≡ 0) × (x ≤ 8)
part_is_even x e =
    let sizes : (x ≡ 0) ⊎ ((x ≡ 2) ⊎ ((x ≡ 4) ⊎ (x ≡ 8))) = grind (arith, nat_tests) in
    elim sizes [
      | inl e ↦ rw e (refl, omega arith)
      | inr later ↦ elim later [
        | inl e ↦ rw e (refl, omega arith)
        | inr later ↦ elim later [ inl e ↦ rw e (refl, omega arith) | inr e ↦ rw e (refl, omega arith) ]
      ]
    ]

-- an instruction has an even number of bytes, from 2 to 18
pub decoding-even : (bytes : List ℕ) (instr : Instr) (n : ℕ) → decoding bytes ≡ Ok (instr, n) → (n % 2 ≡ 0) × (2 ≤ n) × (n ≤ 18)
decoding-even bytes instr n e =
    let op = slice_index bytes 0 % 64 in
    let mods = slice_index bytes 0 / 64 in
    let operands = slice_index bytes 1 in
    let parts = found-in (nat_lt (length bytes) 2) (form_in_table op mods operands) bytes (instr, n) e in
    let size : 2 + parts.0.first + parts.0.second ≡ n = ap (λ (p : Instr × ℕ). p.1) parts.3 in
    let sizes = form_sizes op mods operands parts.0 parts.1 in
    let first = part_is_even parts.0.first sizes.0 in
    let second = part_is_even parts.0.second sizes.1 in
    (omega arith, omega arith, omega arith)
