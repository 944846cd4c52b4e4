use Rattle.std.proofs.Common.{◌≡◌, ◌++◌, List, ℕ, drop}
use Rattle.std.specs.List.{flat_map}
use Rattle.std.specs.Option.{option_to_list}
use Rattle.open_records.specs.Changing.{is_open}
use Rattle.record_rows.specs.Inside.{rows_of}
use Rattle.record_log.specs.SoundRows.{last_counting}
use Rattle.record_log.proofs.row_finding.places_of_child.Given as goal

-- the places so far, with those of the protocols that are left, are all
abbrev pub invariant-loop-guid : goal.invariant-loop-guid
invariant-loop-guid l =
    l.places.items ++ flat_map (λ (guid : List ℕ). option_to_list (last_counting (is_open l.handle guid l.opener.0 l.opener.1 l.opener.2) (rows_of l.rows))) (drop l.guid-index l.guid-items)
    ≡ flat_map (λ (guid : List ℕ). option_to_list (last_counting (is_open l.handle guid l.opener.0 l.opener.1 l.opener.2) (rows_of l.rows))) l.guid-items
