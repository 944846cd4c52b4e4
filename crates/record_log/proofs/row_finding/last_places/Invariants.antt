use Rattle.std.proofs.Common.{◌≡◌, ◌++◌, ℕ, drop}
use Rattle.std.specs.List.{flat_map}
use Rattle.std.specs.Option.{option_to_list}
use Rattle.open_records.specs.Changing.{is_open}
use Rattle.record_rows.specs.Inside.{rows_of}
use Rattle.record_log.specs.SoundRows.{last_counting}
use Rattle.record_log.proofs.row_finding.last_places.Given as goal

-- the places so far, with those of the attributes that are left, are all
abbrev pub invariant-loop-attr : goal.invariant-loop-attr
invariant-loop-attr l =
    l.places.items ++ flat_map (λ (attr : ℕ). option_to_list (last_counting (is_open l.handle l.guid l.agent l.controller attr) (rows_of l.rows))) (drop l.attr-index l.attr-items)
    ≡ flat_map (λ (attr : ℕ). option_to_list (last_counting (is_open l.handle l.guid l.agent l.controller attr) (rows_of l.rows))) l.attr-items
