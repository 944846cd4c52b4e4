-- What holds inside of rows.
use Rattle.std.specs.Prelude.{◌≡◌, ℕ, List, map, Option}
use Rattle.open_records.specs.Interfaces.{Interface}
use Rattle.open_records.specs.declared.open_record.KeyedRecord.{KeyedRecord}
use Rattle.record_rows.specs.Index.{RowKey, is_key_on, is_other_on}
use Rattle.record_rows.specs.Inside.{AreMarked, cuts_in, key_of, lines_of}
use Rattle.record_rows.specs.ShownPlaces.{AreShownPlaces}
use Rattle.record_rows.specs.declared.cutters.Mark.{Mark}

-- Each record has its mark, the index has the keys of all marks, and what is listed of an interface are the places of its rows
-- that count, and of those that are not weak.
pub record AreRowsKept (names : List (ℕ × ℕ)) (classes : List (Interface × (ℕ × ℕ))) (records : List KeyedRecord) (marks : List Mark) (index : List RowKey) (listed others : List (Option (List ℕ))) : Type 0 where
  pub marked : AreMarked names classes records marks
  pub keys : index ≡ map key_of marks
  pub shown : AreShownPlaces is_key_on (record { lines = lines_of records marks; cuts = cuts_in names classes }) index listed
  pub shown_others : AreShownPlaces is_other_on (record { lines = lines_of records marks; cuts = cuts_in names classes }) index others
