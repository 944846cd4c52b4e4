-- Numbers and GUIDs in bytes.
use Rattle.std.proofs.Common.{◌≡◌, ◌+◌, ◌*◌, ◌<◌, ℕ, List, [], ◌∷◌, ◌++◌, length, map, take, get_or, append_assoc, refl, ap, ◌∙◌, sym, arith, length-append}
use Rattle.std.specs.List.{flat_map, range_with_len}
use Rattle.std.proofs.lemmas.List.{append-nil, flat_map_more, length-map, take_more}
use Rattle.std.proofs.lemmas.List.Folds.{flat_map-map}
use Rattle.std.proofs.lemmas.List.FromFn.{length-range_with_len, map-range_with_len_more}
use Rattle.std.proofs.lemmas.Grind.{flat_map-append}
use Rattle.byteorder.specs.Endian.{little_bytes}
use Rattle.uuid.specs.Parts.{swap_fields}
use Rattle.handle_db.specs.Database.{handles_with, protocols_of}
use Rattle.open_records.specs.OpenRecords.{records_of}
use Rattle.open_records.specs.declared.open_record.Rec.{Rec}
use Rattle.world_model.specs.World.{State}
use Rattle.service_model.specs.Contents.{contents_bytes, contents_count, name_places, names_bytes, names_of, number_bytes, record_bytes, records_bytes}
use Rattle.service_model.specs.declared.plan.Contents.{Contents}
use Rattle.service_model.specs.declared.plan.Contents.TheVariants.{Handles, Opens, Protocols}
use Rattle.leaf_services.specs.Names.{names_alone, names_in}
use Rattle.leaf_services.specs.Sizes.{item_size}

-- numbers take 8 bytes each
pub length_of_numbers : (numbers : List ℕ) → length (number_bytes numbers) ≡ 8 * length numbers
length_of_numbers [] = refl
length_of_numbers (number ∷ numbers) =
    length-append (little_bytes 8 number) (number_bytes numbers) ∙ omega (arith, length_of_numbers numbers)

-- records take 24 bytes each
length_of_records : (records : List Rec) → length (records_bytes records) ≡ 24 * length records
length_of_records [] = refl
length_of_records (rec ∷ records) =
    length-append (record_bytes rec) (records_bytes records) ∙ omega (arith, length_of_records records)

-- GUIDs take 16 bytes each
length_of_names : (names : List (List ℕ)) → length (flat_map swap_fields names) ≡ 16 * length names
length_of_names [] = refl
length_of_names (name ∷ names) =
    length-append (swap_fields name) (flat_map swap_fields names) ∙ omega (arith, length_of_names names)

-- each item takes its bytes
pub length_of_contents : (contents : Contents) (w : State) → length (contents_bytes contents w) ≡ item_size contents * contents_count contents w
length_of_contents (Handles name) w = length_of_numbers (handles_with name w.soft.database)
length_of_contents (Opens handle name) w = length_of_records (records_of w.soft.records.entries handle name)
length_of_contents (Protocols handle) w =
    let names = names_of handle w in
    let places = name_places w.soft.next_block (length names) in
    let listed = protocols_of handle w.soft.database in
    omega (
      arith,
      length-append (number_bytes places) (flat_map swap_fields names),
      length_of_numbers places,
      length-map (range_with_len 0 (length names)) (λ (i : ℕ). w.soft.next_block + 8 * length names + 16 * i),
      length-range_with_len 0 (length names),
      length_of_names names,
      length-map listed (λ (one : List ℕ × ℕ × ℕ). one.0),
    )

-- one more pointer to a GUID
pub places-more : (at n i : ℕ) → number_bytes (map (λ k. at + 8 * n + 16 * k) (range_with_len 0 i)) ++ little_bytes 8 (at + 8 * n + 16 * i) ≡ number_bytes (map (λ k. at + 8 * n + 16 * k) (range_with_len 0 (i + 1)))
places-more at n i =
    let place = λ (k : ℕ). at + 8 * n + 16 * k in
    let more : map place (range_with_len 0 (i + 1)) ≡ map place (range_with_len 0 i) ++ place i ∷ [] = map-range_with_len_more place 0 i i (omega arith) in
    sym (ap number_bytes more
    ∙ flat_map-append (little_bytes 8) (map place (range_with_len 0 i)) (place i ∷ [])
    ∙ ap (λ (bytes : List ℕ). number_bytes (map place (range_with_len 0 i)) ++ bytes) (append-nil (little_bytes 8 (place i))))

-- GUIDs after pointers to them
names_at : (at : ℕ) (protocols : List (List ℕ × ℕ × ℕ)) → number_bytes (name_places at (length protocols)) ++ names_alone protocols ≡ names_bytes at (names_in protocols)
names_at at protocols =
    let name = λ (listed : List ℕ × ℕ × ℕ). listed.0 in
    let names : flat_map swap_fields (names_in protocols) ≡ names_alone protocols = flat_map-map swap_fields name protocols in
    let count : length (names_in protocols) ≡ length protocols = length-map protocols name in
    rw (count, names) refl

-- the same, after other bytes
pub names_after : (before : List ℕ) (at : ℕ) (protocols : List (List ℕ × ℕ × ℕ)) → (before ++ number_bytes (name_places at (length protocols))) ++ names_alone protocols ≡ before ++ names_bytes at (names_in protocols)
names_after before at protocols =
    append_assoc before (number_bytes (name_places at (length protocols))) (names_alone protocols) ∙ ap (λ (bytes : List ℕ). before ++ bytes) (names_at at protocols)

-- one more record
pub records_more : (before : List ℕ) (records : List Rec) (i : ℕ) (rec : Rec) → i < length records → rec ≡ get_or records i rec
    → (before ++ records_bytes (take i records)) ++ record_bytes rec ≡ before ++ records_bytes (take (i + 1) records)
records_more before records i rec lt is =
    flat_map_more record_bytes before (take i records) rec
    ∙ ap (λ (last : Rec). before ++ records_bytes (take i records ++ last ∷ [])) is
    ∙ ap (λ (list : List Rec). before ++ records_bytes list) (sym (take_more records i rec lt))
