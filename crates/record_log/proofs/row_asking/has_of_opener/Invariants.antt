use Rattle.std.proofs.Common.{◌≡◌, drop}
use Rattle.std.specs.List.{list_any}
use Rattle.record_rows.specs.Inside.{rows_of}
use Rattle.record_log.proofs.AskingLemmas.{is_bit_open}
use Rattle.record_log.proofs.row_asking.has_of_opener.Given as goal

-- if one is meant, its attribute is left
abbrev pub invariant-loop-attr : goal.invariant-loop-attr
invariant-loop-attr l =
    list_any (is_bit_open (rows_of l.rows) l.handle l.guid l.agent l.controller l.meant.bits) (drop l.attr-index l.attr-items)
    ≡ list_any (is_bit_open (rows_of l.rows) l.handle l.guid l.agent l.controller l.meant.bits) l.attr-items
