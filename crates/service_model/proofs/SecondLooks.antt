-- The second look of an open ends with no change that cannot be applied.
use Rattle.std.proofs.Common.{◌≡◌, ℕ, Bool, true, false, List, refl, sym, ap, subst}
use Rattle.std.specs.Prelude.{◌&&◌, nat_eq, find, Option, Some, None, is_some, Result, Ok, Err, if◌then◌else◌}
use Rattle.std.specs.List.{list_any}
use Rattle.fw_types.specs.Attr.{has_bit_of, is_legal}
use Rattle.fw_types.specs.declared.attr.TheConstants.Attr.{BY_CHILD_CONTROLLER, CONTROLLER_BITS, HOLDING_BITS}
use Rattle.fw_types.specs.declared.status.TheConstants.Status.{ACCESS_DENIED, INVALID_PARAMETER, UNSUPPORTED}
use Rattle.handle_db.specs.Database.{interface_of, is_live}
use Rattle.handle_db.proofs.OnlyOne.{find-none}
use Rattle.open_records.specs.Adding.{is_full}
use Rattle.open_records.specs.OpenRecords.{is_equal, is_strong, records_of}
use Rattle.open_records.specs.Verdicts.{against, judge, may_enter}
use Rattle.open_records.specs.declared.open_record.Rec.{Rec}
use Rattle.open_records.specs.declared.verdict.Verdict.TheVariants.{Add, Count}
use Rattle.world_model.specs.World.{Soft, State}
use Rattle.world_model.specs.Kept.{IsKept}
use Rattle.world_model.specs.Records.{is_none_or_live}
use Rattle.world_model.specs.StackLaws.{AllottingKeepsStacks, FreeingKeepsStacks, PuttingKeepsStacks}
use Rattle.service_model.specs.BootServices.{end_of_row}
use Rattle.service_model.specs.Changes.{applied, open_served}
use Rattle.service_model.specs.Untouched.{goes_on}
use Rattle.service_model.specs.Allowed.{can_store, is_allowed}
use Rattle.service_model.specs.Protocols.{has_record, live_or_zero, out_of, out_size}
use Rattle.service_model.specs.SecondLook.{SecondLooksAreAllowed, SecondLooksEnd, SecondLooksLeaveStacks, looked_again, open_after_removal, second_look}
use Rattle.service_model.specs.Words.{alive, dead, legal, refuse_if, writable}
use Rattle.service_model.specs.declared.call.Opening.{Opening}
use Rattle.service_model.specs.declared.plan.Change.{Change}
use Rattle.service_model.specs.declared.plan.Change.TheVariants.{Open, Store}
use Rattle.service_model.specs.declared.plan.Stop.{Stop}
use Rattle.service_model.specs.declared.plan.Stop.TheVariants as stop
use Rattle.service_model.proofs.AllowedRows.{live_or_zero-none, out-writable, six}
use Rattle.service_model.proofs.PairRows.{lives}
use Rattle.service_model.proofs.RowLines.{Says, is-legal, is-same, not-refused, says-after, says-end, says-found}
use Rattle.service_model.proofs.SoftPart.{Goes, Ground, IsKeptBy, SameStacks, end-goes, stacks-by}

abbrev Can : State → Change → Type 0
Can w change = is_allowed change w ≡ true

-- if no record has BY_DRIVER or EXCLUSIVE, none keeps an open out
enters-alone : (records : List Rec) (agent controller attr : ℕ) → list_any is_strong records ≡ false → may_enter (judge records agent controller attr) ≡ true
enters-alone records agent controller attr none = by_bits (has_bit_of HOLDING_BITS attr) (list_any (is_equal agent controller attr) records)
  where
    by_bits : (holds there : Bool) → may_enter (if holds then against (find is_strong records) agent attr else if there then Count else Add) ≡ true
    by_bits true there = rw (find-none is_strong records none) refl
    by_bits false true = refl
    by_bits false false = refl

-- the open itself, by whether the interface is still there
open-allowed : (found : Option (ℕ × ℕ)) (o : Opening) (w : State) → interface_of o.handle o.guid w.soft.database ≡ found
    → can_store (out_of o.attr o.out) w ≡ true → is_legal o.attr ≡ true → is_live o.agent w.soft.database ≡ true
    → Says (Can w) (open_after_removal found o w)
open-allowed None o w is can lawful live = says-end (Can w) (Store (out_of o.attr o.out) 0 UNSUPPORTED) can
open-allowed (Some found) o w is can lawful live =
    says-after (Can w) (refuse_if (has_record o.handle o.guid None None HOLDING_BITS w) ACCESS_DENIED) _
    (λ none. says-end (Can w) (Open o.handle o.guid o.agent (live_or_zero o.controller w) o.attr (out_of o.attr o.out) found.0)
    (six (can_store (out_of o.attr o.out) w) (is_some (interface_of o.handle o.guid w.soft.database)) (is_live o.agent w.soft.database)
    (is_none_or_live (live_or_zero o.controller w) w.soft.database) (is_legal o.attr)
    (may_enter (judge (records_of w.soft.records.entries o.handle o.guid) o.agent (live_or_zero o.controller w) o.attr))
    can (ap is_some is) live (live_or_zero-none o.controller w) lawful
    (enters-alone (records_of w.soft.records.entries o.handle o.guid) o.agent (live_or_zero o.controller w) o.attr
    (not-refused (has_record o.handle o.guid None None HOLDING_BITS w) ACCESS_DENIED none))))

-- after the lines before it
after-lines : (o : Opening) (attr : ℕ) (w : State) → writable (out_size o.attr) o.out w ≡ Ok tt → legal o.attr ≡ Ok attr → refuse_if (dead o.agent w) INVALID_PARAMETER ≡ Ok tt
    → Says (Can w) (open_after_removal (interface_of o.handle o.guid w.soft.database) o w)
after-lines o attr w can lawful live =
    let same : o.attr ≡ attr = is-same o.attr attr lawful in
    open-allowed (interface_of o.handle o.guid w.soft.database) o w refl
    (subst (λ bits. can_store (out_of bits o.out) w ≡ true) (sym same) (out-writable o.attr attr o.out w lawful can))
    (subst (λ bits. is_legal bits ≡ true) (sym same) (is-legal o.attr attr lawful))
    (lives o.agent w (not-refused (dead o.agent w) INVALID_PARAMETER live))

pub second_look-allowed : (o : Opening) (w : State) → Says (λ change. is_allowed change w ≡ true) (second_look o w)
second_look-allowed o w =
    says-found (Can w) (alive o.handle INVALID_PARAMETER w) _ (λ handle is.
    says-after (Can w) (writable (out_size o.attr) o.out w) _ (λ can.
    says-found (Can w) (legal o.attr) _ (λ attr lawful.
    says-after (Can w) (refuse_if (dead o.agent w) INVALID_PARAMETER) _ (λ live.
    says-after (Can w) (refuse_if (has_bit_of CONTROLLER_BITS attr && dead o.controller w) INVALID_PARAMETER) _ (λ controller.
    says-after (Can w) (refuse_if (nat_eq attr BY_CHILD_CONTROLLER && nat_eq handle o.controller) INVALID_PARAMETER) _ (λ other.
    after-lines o attr w can lawful live))))))

-- a second look goes by each relation that every single change keeps
pub second_look-goes : (R : Soft → Soft → Type 0) → IsKeptBy R → Ground → (o : Opening) (w : State) → IsKept w.soft → Goes R w (looked_again o w)
unfolding looked_again
second_look-goes R by ground o w kept = end-goes R by ground (second_look o w) w kept (second_look-allowed o w)

-- ---- its laws

pub looks-allowed : SecondLooksAreAllowed
looks-allowed o w change is = second_look-allowed o w change is

pub looks-leave-stacks : PuttingKeepsStacks → AllottingKeepsStacks → FreeingKeepsStacks → Ground → SecondLooksLeaveStacks
looks-leave-stacks puts allots frees ground o w kept = second_look-goes SameStacks (stacks-by puts allots frees) ground o w kept

-- neither the open nor what is stored goes on
abbrev Returns : State → Change → Type 0
Returns w change = goes_on (applied change w).0 ≡ false

open-returns : (full : Bool) (o : Opening) (controller address : ℕ) (w : State)
    → goes_on (open_served full o.handle o.guid o.agent controller o.attr (out_of o.attr o.out) address w).0 ≡ false
open-returns true o controller address w = refl
open-returns false o controller address w = refl

removal-returns : (found : Option (ℕ × ℕ)) (o : Opening) (w : State) → Says (Returns w) (open_after_removal found o w)
removal-returns None o w = says-end (Returns w) (Store (out_of o.attr o.out) 0 UNSUPPORTED) refl
removal-returns (Some found) o w =
    says-after (Returns w) (refuse_if (has_record o.handle o.guid None None HOLDING_BITS w) ACCESS_DENIED) _
    (λ none. says-end (Returns w) (Open o.handle o.guid o.agent (live_or_zero o.controller w) o.attr (out_of o.attr o.out) found.0)
    (open-returns (is_full o.handle o.guid o.agent (live_or_zero o.controller w) o.attr w.soft.records) o (live_or_zero o.controller w) found.0 w))

look-returns : (o : Opening) (w : State) → Says (Returns w) (second_look o w)
look-returns o w =
    says-found (Returns w) (alive o.handle INVALID_PARAMETER w) _ (λ handle is.
    says-after (Returns w) (writable (out_size o.attr) o.out w) _ (λ can.
    says-found (Returns w) (legal o.attr) _ (λ attr lawful.
    says-after (Returns w) (refuse_if (dead o.agent w) INVALID_PARAMETER) _ (λ live.
    says-after (Returns w) (refuse_if (has_bit_of CONTROLLER_BITS attr && dead o.controller w) INVALID_PARAMETER) _ (λ controller.
    says-after (Returns w) (refuse_if (nat_eq attr BY_CHILD_CONTROLLER && nat_eq handle o.controller) INVALID_PARAMETER) _ (λ other.
    removal-returns (interface_of o.handle o.guid w.soft.database) o w))))))

row-returns : (result : Result Change Stop) (w : State) → Says (Returns w) result → goes_on (end_of_row w result).0 ≡ false
row-returns (Ok change) w returns = returns change refl
row-returns (Err (stop.Status status)) w returns = refl
row-returns (Err (stop.Trap cause)) w returns = refl

pub looks-end : SecondLooksEnd
unfolding looked_again
looks-end o w = row-returns (second_look o w) w (look-returns o w)
