-- The last place of each key, with one row more and one fewer.
use Rattle.std.proofs.Common.{◌≡◌, ℕ, Bool, true, false, ◌&&◌, nat_eq, cond, List, [], ◌∷◌, ◌++◌, length, Option, Some, refl, sym, ap, ◌∙◌, arith}
use Rattle.std.specs.Prelude.{if◌then◌else◌}
use Rattle.std.specs.declared.cmp.Ordering.{Ordering}
use Rattle.std.specs.declared.cmp.Ordering.TheVariants.{Less, Equal, Greater}
use Rattle.std.specs.Ordering.{nat_cmp, ordering_then, is_eq}
use Rattle.std.specs.BTreeMap as tree
use Rattle.std.proofs.lemmas.Bool.{eqb-true}
use Rattle.std.proofs.lemmas.Bool.Decides.{nat_tests}
use Rattle.std.proofs.lemmas.List.{append-nil, append_assoc, length-map, map_push}
use Rattle.record_rows.specs.Index.{RowKey, is_key, last_key}
use Rattle.record_rows.specs.IndexInside.{AreLast, AreNoted, IsChangedAt, key_cmp, keys_in}
use Rattle.record_rows.specs.declared.last_places.NotedKey.{NotedKey}
use Rattle.record_rows.proofs.IndexLemmas.{last_key_more}

-- ---- the order of keys

eq-then : (o p : Ordering) → is_eq (ordering_then o p) ≡ (is_eq o && is_eq p)
eq-then Less p = refl
eq-then Equal p = refl
eq-then Greater p = refl

eq-nat : (x y : ℕ) → is_eq (nat_cmp x y) ≡ nat_eq x y
eq-nat x y = grind (arith, nat_tests)

-- keys that the order does not tell apart are the same
pub at_key : (key other : RowKey) → tree.is_at (key_cmp key) other ≡ is_key other key
at_key key other =
    let a = nat_cmp key.0 other.0 in
    let b = nat_cmp key.1 other.1 in
    let c = nat_cmp key.2 other.2 in
    let d = nat_cmp key.3 other.3 in
    rw (eq-then (ordering_then (ordering_then a b) c) d, eq-then (ordering_then a b) c, eq-then a b, eq-nat key.0 other.0, eq-nat key.1 other.1, eq-nat key.2 other.2, eq-nat key.3 other.3)
    (regroup (nat_eq key.0 other.0) (nat_eq key.1 other.1) (nat_eq key.2 other.2) (nat_eq key.3 other.3))
  where
    regroup : (a b c d : Bool) → (((a && b) && c) && d) ≡ (a && b && c && d)
    regroup false b c d = refl
    regroup true false c d = refl
    regroup true true false d = refl
    regroup true true true d = refl

pub is_key-same : (key other : RowKey) → is_key key other ≡ true → other ≡ key
is_key-same key other is =
    let four = by_four (nat_eq other.0 key.0) (nat_eq other.1 key.1) (nat_eq other.2 key.2) (nat_eq other.3 key.3) is in
    let first : ℕ → RowKey = λ n. (n, other.1, other.2, other.3) in
    let second : ℕ → RowKey = λ n. (key.0, n, other.2, other.3) in
    let third : ℕ → RowKey = λ n. (key.0, key.1, n, other.3) in
    let fourth : ℕ → RowKey = λ n. (key.0, key.1, key.2, n) in
    ap first (eqb-true other.0 key.0 four.0) ∙ ap second (eqb-true other.1 key.1 four.1) ∙ ap third (eqb-true other.2 key.2 four.2) ∙ ap fourth (eqb-true other.3 key.3 four.3)
  where
    by_four : (a b c d : Bool) → (a && b && c && d) ≡ true → (a ≡ true) × (b ≡ true) × (c ≡ true) × (d ≡ true)
    by_four false b c d e = absurd cc
    by_four true false c d e = absurd cc
    by_four true true false d e = absurd cc
    by_four true true true false e = absurd cc
    by_four true true true true e = (refl, refl, refl, refl)

itself : (n : ℕ) → nat_eq n n ≡ true
itself n = grind (arith, nat_tests)

pub is_key-itself : (key : RowKey) → is_key key key ≡ true
is_key-itself key = rw (itself key.0, itself key.1, itself key.2, itself key.3) refl

-- ---- what rows note

keys_more : (rows : List NotedKey) (row : NotedKey) → keys_in (rows ++ row ∷ []) ≡ keys_in rows ++ row.key ∷ []
keys_more rows row = map_push (λ (one : NotedKey). one.key) rows row

noted_more : (seen : List RowKey) (rows : List NotedKey) (row : NotedKey) → AreNoted seen rows → row.before ≡ last_key (is_key row.key) (seen ++ keys_in rows) → AreNoted seen (rows ++ row ∷ [])
noted_more seen [] row are is = (is ∙ ap (last_key (is_key row.key)) (append-nil seen), tt)
noted_more seen (first ∷ rows) row are is =
    (are.0, noted_more (seen ++ first.key ∷ []) rows row are.1 (is ∙ ap (last_key (is_key row.key)) (sym (append_assoc seen (first.key ∷ []) (keys_in rows)))))

record AreNotedBefore (seen : List RowKey) (rows : List NotedKey) (row : NotedKey) : Type 0 where
  noted : AreNoted seen rows
  before : row.before ≡ last_key (is_key row.key) (seen ++ keys_in rows)

noted_fewer : (seen : List RowKey) (rows : List NotedKey) (row : NotedKey) → AreNoted seen (rows ++ row ∷ []) → AreNotedBefore seen rows row
noted_fewer seen [] row are = record { noted = tt; before = are.0 ∙ ap (last_key (is_key row.key)) (sym (append-nil seen)) }
noted_fewer seen (first ∷ rows) row are =
    let rest = noted_fewer (seen ++ first.key ∷ []) rows row are.1 in
    record { noted = (are.0, rest.noted); before = rest.before ∙ ap (last_key (is_key row.key)) (append_assoc seen (first.key ∷ []) (keys_in rows)) }

-- ---- one row more

pub last_more : (old new : tree.BTreeMap RowKey ℕ) (rows : List NotedKey) (row : NotedKey) → AreLast old rows → row.before ≡ tree.get key_cmp old row.key
    → ((q : RowKey) → tree.get key_cmp new q ≡ cond (tree.is_at (key_cmp row.key) q) (Some (length rows)) (tree.get key_cmp old q)) → AreLast new (rows ++ row ∷ [])
last_more old new rows row are is changed = record { each = each; noted = noted_more [] rows row are.noted (is ∙ are.each row.key) }
  where
    each : (q : RowKey) → tree.get key_cmp new q ≡ last_key (is_key q) (keys_in (rows ++ row ∷ []))
    each q =
        let long : length (keys_in rows) ≡ length rows = length-map rows (λ (one : NotedKey). one.key) in
        changed q ∙ ap (λ (b : Bool). cond b (Some (length rows)) (tree.get key_cmp old q)) (at_key row.key q)
        ∙ ap (λ (found : Option ℕ). cond (is_key q row.key) (Some (length rows)) found) (are.each q)
        ∙ ap (λ (n : ℕ). cond (is_key q row.key) (Some n) (last_key (is_key q) (keys_in rows))) (sym long)
        ∙ sym (last_key_more (is_key q) (keys_in rows) row.key) ∙ ap (last_key (is_key q)) (sym (keys_more rows row))

-- ---- one row fewer

last_there : (old : tree.BTreeMap RowKey ℕ) (rows : List NotedKey) (row : NotedKey) (q : RowKey) → AreLast old (rows ++ row ∷ [])
    → tree.get key_cmp old q ≡ (if is_key q row.key then Some (length (keys_in rows)) else last_key (is_key q) (keys_in rows))
last_there old rows row q are = are.each q ∙ ap (last_key (is_key q)) (keys_more rows row) ∙ last_key_more (is_key q) (keys_in rows) row.key

pub has_last : (old : tree.BTreeMap RowKey ℕ) (rows : List NotedKey) (row : NotedKey) → AreLast old (rows ++ row ∷ []) → tree.get key_cmp old row.key ≡ Some (length (keys_in rows))
has_last old rows row are =
    last_there old rows row row.key are ∙ ap (λ (b : Bool). if b then Some (length (keys_in rows)) else last_key (is_key row.key) (keys_in rows)) (is_key-itself row.key)

pub last_fewer : (old new : tree.BTreeMap RowKey ℕ) (rows : List NotedKey) (row : NotedKey) → AreLast old (rows ++ row ∷ []) → IsChangedAt row.key row.before old new → AreLast new rows
last_fewer old new rows row are changed = record { each = each; noted = noted.noted }
  where
    noted : AreNotedBefore [] rows row
    noted = noted_fewer [] rows row are.noted

    each : (q : RowKey) → tree.get key_cmp new q ≡ last_key (is_key q) (keys_in rows)
    each q =
        changed.each q ∙ ap (λ (b : Bool). if b then row.before else tree.get key_cmp old q) (at_key row.key q)
        ∙ ap (λ (found : Option ℕ). if is_key q row.key then row.before else found) (last_there old rows row q are) ∙ by_test (is_key q row.key) refl
      where
        by_test : (b : Bool) → is_key q row.key ≡ b
            → (if b then row.before else if b then Some (length (keys_in rows)) else last_key (is_key q) (keys_in rows)) ≡ last_key (is_key q) (keys_in rows)
        by_test true is = let same : row.key ≡ q = is_key-same q row.key is in noted.before ∙ ap (λ (key : RowKey). last_key (is_key key) (keys_in rows)) same
        by_test false is = refl
