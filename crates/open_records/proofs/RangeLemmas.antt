-- A rising list in three parts: before an interface, of it, and after it.
use Rattle.std.proofs.Common.{◌≡◌, ℕ, Bool, true, false, not, List, [], ◌∷◌, ◌++◌, filter, refl, ap, ◌∙◌}
use Rattle.std.specs.List.{list_any}
use Rattle.std.specs.declared.cmp.Ordering.{Ordering}
use Rattle.std.specs.declared.cmp.Ordering.TheVariants.{Less, Equal, Greater}
use Rattle.std.specs.Ordering.{is_lt, is_eq, is_gt}
use Rattle.std.proofs.lemmas.Bool.{and_parts, not-true}
use Rattle.open_records.specs.Keyed.{is_of, is_before, is_after, falls, no_pair, rise}
use Rattle.open_records.specs.declared.open_record.KeyedRecord.{KeyedRecord}
use Rattle.open_records.proofs.ListLemmas.{any_weaker, filter_none}
use Rattle.open_records.proofs.Order.{stands, before_later, after_later, after-not_here}

-- ---- three parts

module _ (p q r : KeyedRecord → Bool) (one : KeyedRecord) (entries : List KeyedRecord) (rest : entries ≡ filter p entries ++ (filter q entries ++ filter r entries)) where
  in_first : p one ≡ true → q one ≡ false → r one ≡ false → one ∷ entries ≡ filter p (one ∷ entries) ++ (filter q (one ∷ entries) ++ filter r (one ∷ entries))
  in_first holds no_q no_r = rw (holds, no_q, no_r) (ap (λ l. one ∷ l) rest)

  in_second : p one ≡ false → q one ≡ true → r one ≡ false → filter p entries ≡ [] → one ∷ entries ≡ filter p (one ∷ entries) ++ (filter q (one ∷ entries) ++ filter r (one ∷ entries))
  in_second no_p holds no_r none =
      let short : entries ≡ filter q entries ++ filter r entries = rest ∙ ap (λ l. l ++ (filter q entries ++ filter r entries)) none in
      rw (no_p, holds, no_r, none) (ap (λ l. one ∷ l) short)

  in_third : p one ≡ false → q one ≡ false → r one ≡ true → filter p entries ≡ [] → filter q entries ≡ [] → one ∷ entries ≡ filter p (one ∷ entries) ++ (filter q (one ∷ entries) ++ filter r (one ∷ entries))
  in_third no_p no_q holds none none_q =
      let short : entries ≡ filter q entries ++ filter r entries = rest ∙ ap (λ l. l ++ (filter q entries ++ filter r entries)) none in
      let shorter : entries ≡ filter r entries = short ∙ ap (λ l. l ++ filter r entries) none_q in
      rw (no_p, no_q, holds, none, none_q) (ap (λ l. one ∷ l) shorter)

module _ (handle : ℕ) (guid : List ℕ) where
  none_before : (one : KeyedRecord) (entries : List KeyedRecord) → list_any (falls one) entries ≡ false → is_before handle guid one ≡ false → filter (is_before handle guid) entries ≡ []
  none_before one entries rising fails =
      filter_none (is_before handle guid) entries (any_weaker (falls one) (is_before handle guid) entries (λ later rises. before_later handle guid one later rises fails) rising)

  none_here : (one : KeyedRecord) (entries : List KeyedRecord) → list_any (falls one) entries ≡ false → is_after handle guid one ≡ true → filter (is_of handle guid) entries ≡ []
  none_here one entries rising holds =
      filter_none (is_of handle guid) entries (any_weaker (falls one) (is_of handle guid) entries (λ later rises. after-not_here handle guid later (after_later handle guid one later rises holds)) rising)

  more : (one : KeyedRecord) (entries : List KeyedRecord) → list_any (falls one) entries ≡ false
      → entries ≡ filter (is_before handle guid) entries ++ (filter (is_of handle guid) entries ++ filter (is_after handle guid) entries)
      → (o : Ordering) → is_before handle guid one ≡ is_lt o → is_of handle guid one ≡ is_eq o → is_after handle guid one ≡ is_gt o
      → one ∷ entries ≡ filter (is_before handle guid) (one ∷ entries) ++ (filter (is_of handle guid) (one ∷ entries) ++ filter (is_after handle guid) (one ∷ entries))
  more one entries rising rest Less lt eq gt = in_first (is_before handle guid) (is_of handle guid) (is_after handle guid) one entries rest lt eq gt
  more one entries rising rest Equal lt eq gt =
      in_second (is_before handle guid) (is_of handle guid) (is_after handle guid) one entries rest lt eq gt (none_before one entries rising lt)
  more one entries rising rest Greater lt eq gt =
      in_third (is_before handle guid) (is_of handle guid) (is_after handle guid) one entries rest lt eq gt (none_before one entries rising lt) (none_here one entries rising gt)

  pub three_parts : (entries : List KeyedRecord) → rise entries ≡ true → entries ≡ filter (is_before handle guid) entries ++ (filter (is_of handle guid) entries ++ filter (is_after handle guid) entries)
  three_parts [] rising = refl
  three_parts (one ∷ entries) rising =
      let parts = and_parts (not (list_any (falls one) entries)) (no_pair falls entries) rising in
      let s = stands handle guid one in
      more one entries (not-true _ parts.0) (three_parts entries parts.1) s.order s.lt s.eq s.gt
