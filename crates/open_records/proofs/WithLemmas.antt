-- All records, if one interface has other records than before.
use Rattle.std.proofs.Common.{◌≡◌, ℕ, Bool, true, not, List, [], ◌∷◌, ◌++◌, filter, map, refl, sym, ap, ◌∙◌, append_assoc}
use Rattle.std.specs.List.{list_any}
use Rattle.std.specs.Ordering.{is_lt}
use Rattle.std.proofs.lemmas.Bool.{or_from}
use Rattle.std.proofs.lemmas.Cmp.{tied_itself}
use Rattle.std.proofs.lemmas.List.{map-append}
use Rattle.std.proofs.lemmas.List.Elements.{filter-append}
use Rattle.std.proofs.lemmas.List.Folds.{list_any-append}
use Rattle.open_records.specs.declared.open_record.Rec.{Rec}
use Rattle.open_records.specs.Changing.{with_new}
use Rattle.open_records.specs.Interfaces.{Interface, interface_of, keyed}
use Rattle.open_records.specs.Keyed.{falls, is_after, is_before, is_of, records_of, rise}
use Rattle.open_records.specs.declared.open_record.KeyedRecord.{KeyedRecord}
use Rattle.open_records.proofs.FlatLemmas.{of_records, row_none}
use Rattle.open_records.proofs.ListLemmas.{filter_stays, any_filtered, filter_none, no_pair-filter, no_pair-insert}
use Rattle.open_records.proofs.Order.{after-not_before, after-not_here, before-not_after, before-not_here, before_is_after, total}
use Rattle.open_records.proofs.RangeLemmas.{three_parts}

-- all records, if an interface has these: they are between those of the interfaces before and after
abbrev pub with_interface : ℕ → List ℕ → List Rec → List KeyedRecord → List KeyedRecord
with_interface handle guid records entries =
    filter (is_before handle guid) entries ++ (map (keyed (handle, guid)) records ++ filter (is_after handle guid) entries)

module _ (handle : ℕ) (guid : List ℕ) (entries : List KeyedRecord) (rising : rise entries ≡ true) where
  abbrev here : Interface
  here = (handle, guid)

  abbrev front : List KeyedRecord
  front = filter (is_before handle guid) entries

  abbrev mine : List KeyedRecord
  mine = filter (is_of handle guid) entries

  abbrev back : List KeyedRecord
  back = filter (is_after handle guid) entries

  abbrev stays : KeyedRecord → Bool
  stays one = not (is_of handle guid one)

  -- the records of the others
  others : filter stays entries ≡ front ++ back
  others =
      ap (filter stays) (three_parts handle guid entries rising) ∙ filter-append stays front (mine ++ back) ∙ ap (λ l. filter stays front ++ l) (filter-append stays mine back)
      ∙ ap (λ l. l ++ (filter stays mine ++ filter stays back)) (filter_stays (is_of handle guid) front (any_filtered (is_before handle guid) (is_of handle guid) entries (λ x early. before-not_here handle guid x early)))
      ∙ ap (λ l. front ++ (l ++ filter stays back)) (filter_none stays mine (any_filtered (is_of handle guid) stays entries (λ x on. rw on refl)))
      ∙ ap (λ l. front ++ l) (filter_stays (is_of handle guid) back (any_filtered (is_after handle guid) (is_of handle guid) entries (λ x late. after-not_here handle guid x late)))

  pub rising_with : (records : List Rec) → rise (with_interface handle guid records entries) ≡ true
  rising_with [] = ap rise (sym others) ∙ no_pair-filter falls stays entries rising
  rising_with (rec ∷ records) =
      let new : KeyedRecord = keyed here rec in
      no_pair-insert falls front new (map (keyed here) records ++ back) (rising_with records)
      (any_filtered (is_before handle guid) (λ (one : KeyedRecord). falls one new) entries (λ x early. before_is_after x new ∙ before-not_after handle guid x early))
      (list_any-append (falls new) (map (keyed here) records) back
      ∙ or_from (list_any (falls new) (map (keyed here) records)) (list_any (falls new) back) (row_none here (falls new) (λ other. ap is_lt (tied_itself total here)) records)
      (any_filtered (is_after handle guid) (falls new) entries (λ x late. after-not_before handle guid x late)))

-- one more record, after the others
pub with_pushed : (one : KeyedRecord) (entries : List KeyedRecord) → with_interface one.handle one.guid (records_of entries one.handle one.guid ++ one.rec ∷ []) entries ≡ with_new one entries
with_pushed one entries =
    let here : Interface = interface_of one in
    let front = filter (is_before one.handle one.guid) entries in
    let back = filter (is_after one.handle one.guid) entries in
    let records = records_of entries one.handle one.guid in
    ap (λ l. front ++ (l ++ back)) (map-append (keyed here) records (one.rec ∷ []))
    ∙ ap (λ l. front ++ ((l ++ one ∷ []) ++ back)) (sym (of_records one.handle one.guid entries)) ∙ ap (λ l. front ++ l) (append_assoc (filter (is_of one.handle one.guid) entries) (one ∷ []) back)
