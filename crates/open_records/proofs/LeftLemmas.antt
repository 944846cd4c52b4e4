-- The records of each interface, if some of one interface are left out.
use Rattle.std.proofs.Common.{◌≡◌, ℕ, Bool, true, false, not, ◌&&◌, List, filter, map, refl, sym, ap, ◌∙◌}
use Rattle.open_records.specs.declared.open_record.Rec.{Rec}
use Rattle.open_records.specs.Keyed.{is_of, is_same, records_of}
use Rattle.open_records.specs.declared.open_record.KeyedRecord.{KeyedRecord}
use Rattle.open_records.proofs.ListLemmas.{filter-map, filter_both}
use Rattle.open_records.proofs.Order.{same_from_of}

-- a record of one interface is of no other
pub other_interface : (handle : ℕ) (guid : List ℕ) (other_handle : ℕ) (other_guid : List ℕ) (one : KeyedRecord) → is_same handle guid other_handle other_guid ≡ false → is_of handle guid one ≡ true → is_of other_handle other_guid one ≡ false
other_interface handle guid other_handle other_guid one differ here =
    let same = same_from_of handle guid one here in
    rw (same.same_handle, same.same_guid) differ

stays_here : (here passes : Bool) → (here && not passes) ≡ (not (here && passes) && here)
stays_here true true = refl
stays_here true false = refl
stays_here false passes = refl

pub stays_there : (there here passes : Bool) → (here ≡ true → there ≡ false) → there ≡ (not (here && passes) && there)
stays_there there true true differ = differ refl
stays_there there true false differ = refl
stays_there there false passes differ = refl

-- a filter of the records of an interface
pub filtered_here : (handle : ℕ) (guid : List ℕ) (test : Rec → Bool) (entries : List KeyedRecord) → filter test (records_of entries handle guid) ≡ map (λ (o : KeyedRecord). o.rec) (filter (λ (o : KeyedRecord). is_of handle guid o && test o.rec) entries)
filtered_here handle guid test entries =
    filter-map (λ (o : KeyedRecord). o.rec) test (filter (is_of handle guid) entries)
    ∙ ap (map (λ (o : KeyedRecord). o.rec)) (filter_both (is_of handle guid) (λ (o : KeyedRecord). test o.rec) (λ (o : KeyedRecord). is_of handle guid o && test o.rec) entries (λ o. refl))

-- those of the interface that fail a test
pub left_here : (handle : ℕ) (guid : List ℕ) (test : Rec → Bool) (entries : List KeyedRecord)
    → records_of (filter (λ (o : KeyedRecord). not (is_of handle guid o && test o.rec)) entries) handle guid ≡ filter (λ (rec : Rec). not (test rec)) (records_of entries handle guid)
left_here handle guid test entries =
    ap (map (λ (o : KeyedRecord). o.rec)) (filter_both (λ (o : KeyedRecord). not (is_of handle guid o && test o.rec)) (is_of handle guid) (λ (o : KeyedRecord). is_of handle guid o && not (test o.rec)) entries (λ o. stays_here (is_of handle guid o) (test o.rec)))
    ∙ sym (filtered_here handle guid (λ (rec : Rec). not (test rec)) entries)

-- and all of every other
pub left_elsewhere : (handle : ℕ) (guid : List ℕ) (test : Rec → Bool) (other_handle : ℕ) (other_guid : List ℕ) → is_same handle guid other_handle other_guid ≡ false → (entries : List KeyedRecord)
    → records_of (filter (λ (o : KeyedRecord). not (is_of handle guid o && test o.rec)) entries) other_handle other_guid ≡ records_of entries other_handle other_guid
left_elsewhere handle guid test other_handle other_guid differ entries =
    ap (map (λ (o : KeyedRecord). o.rec)) (filter_both (λ (o : KeyedRecord). not (is_of handle guid o && test o.rec)) (is_of other_handle other_guid) (is_of other_handle other_guid) entries
    (λ o. stays_there (is_of other_handle other_guid o) (is_of handle guid o) (test o.rec) (other_interface handle guid other_handle other_guid o differ)))
