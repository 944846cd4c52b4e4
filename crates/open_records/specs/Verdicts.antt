-- What the records of an interface say about one more open (UEFI 2.8, 7.3: OpenProtocol, 'Attributes').
use Rattle.std.specs.Prelude.{ℕ, Bool, true, false, ◌&&◌, nat_eq, List, [], ◌∷◌, Option, Some, None, find, if◌then◌else◌}
use Rattle.std.specs.List.{list_any}
use Rattle.fw_types.specs.Attr.{has_bit_of}
use Rattle.fw_types.specs.declared.attr.TheConstants.Attr.{BY_DRIVER, EXCLUSIVE, HOLDING_BITS}
use Rattle.open_records.specs.OpenRecords.{is_equal, is_strong}
use Rattle.open_records.specs.declared.open_record.Rec.{Rec}
use Rattle.open_records.specs.declared.verdict.Verdict.{Verdict}
use Rattle.open_records.specs.declared.verdict.Verdict.TheVariants.{Add, Count, Already, Denied, MustDisconnect}

-- a rule: the attribute that is asked for, the attribute of the record that is there, and the verdict on
-- the agent of that record and on another agent
pub record Rule : Type 0 where
  pub asked : ℕ
  pub there : ℕ
  pub own : Verdict
  pub other : Verdict

abbrev rule : ℕ → ℕ → Verdict → Verdict → Rule
rule asked there own other = record { asked = asked; there = there; own = own; other = other }

-- BY_DRIVER and EXCLUSIVE together are HOLDING_BITS. A driver's own second open is reported as such. An
-- exclusive open takes the place of a driver's, which must be disconnected first. Any other is denied.
abbrev pub rules : (holder : ℕ) → List Rule
rules holder =
    rule BY_DRIVER BY_DRIVER Already Denied
    ∷ rule BY_DRIVER EXCLUSIVE Denied Denied
    ∷ rule BY_DRIVER HOLDING_BITS Denied Denied
    ∷ rule EXCLUSIVE BY_DRIVER (MustDisconnect holder) (MustDisconnect holder)
    ∷ rule EXCLUSIVE EXCLUSIVE Denied Denied
    ∷ rule EXCLUSIVE HOLDING_BITS Denied Denied
    ∷ rule HOLDING_BITS BY_DRIVER (MustDisconnect holder) (MustDisconnect holder)
    ∷ rule HOLDING_BITS EXCLUSIVE Denied Denied
    ∷ rule HOLDING_BITS HOLDING_BITS Already Denied
    ∷ []

-- whether a rule is for an attribute that is asked for and one that is there
abbrev pub applies : ℕ → ℕ → Rule → Bool
applies asked there rule = nat_eq rule.asked asked && nat_eq rule.there there

-- the verdict of a rule, if there is one, on the record's own agent or on another
abbrev pub says : Option Rule → Bool → Verdict
says None own = Denied
says (Some rule) own = if own then rule.own else rule.other

-- the verdict on an open with BY_DRIVER or EXCLUSIVE, by the one record that has one of them, if there is one
abbrev pub against : Option Rec → ℕ → ℕ → Verdict
against None agent attr = Add
against (Some holder) agent attr = says (find (applies attr holder.attr) (rules holder.agent)) (nat_eq holder.agent agent)

-- what the records of an interface say about an open: one with BY_DRIVER or EXCLUSIVE goes by the rules; any
-- other is counted if there is an equal record, and otherwise is one more record
abbrev pub judge : List Rec → (agent controller attr : ℕ) → Verdict
judge records agent controller attr =
    if has_bit_of HOLDING_BITS attr then against (find is_strong records) agent attr
    else if list_any (is_equal agent controller attr) records then Count else Add

-- whether an open may be entered
abbrev pub may_enter : Verdict → Bool
may_enter Add = true
may_enter Count = true
may_enter Already = false
may_enter Denied = false
may_enter (MustDisconnect holder) = false
