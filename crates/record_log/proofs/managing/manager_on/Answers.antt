use Rattle.std.proofs.Common.{◌≡◌, ◌∙◌, ℕ, true, false, List, Option, None, Some, ap, sym}
use Rattle.std.specs.Prelude.{find, option_map}
use Rattle.std.specs.Option.{option_to_list}
use Rattle.open_records.specs.Managing.{is_managing}
use Rattle.open_records.specs.Records.{is_strong}
use Rattle.open_records.specs.Keyed.{records_of}
use Rattle.open_records.specs.declared.open_record.Rec.{Rec}
use Rattle.open_records.proofs.LawProofs.{one_strong}
use Rattle.open_records.proofs.ManagingLemmas.{manager_is}
use Rattle.record_rows.specs.Inside.{rows_of}
use Rattle.record_rows.specs.Rows.{RowsView, entries_of}
use Rattle.record_log.specs.SoundRows.{AreSound}
use Rattle.record_log.proofs.managing.manager_on.Goals as goal

-- the record with BY_DRIVER or EXCLUSIVE is the only one that can be a manager's
manager_is_holder : (rows : RowsView) → AreSound rows → (handle : ℕ) (guid : List ℕ) (holder : Option Rec) → holder ≡ find is_strong (records_of (entries_of rows) handle guid)
    → find is_managing (option_to_list holder) ≡ find is_managing (records_of (entries_of rows) handle guid)
manager_is_holder rows sound handle guid holder is =
    ap (λ (o : Option Rec). find is_managing (option_to_list o)) is ∙ manager_is (records_of (entries_of rows) handle guid) (one_strong (entries_of rows) sound.1.table.apart handle guid)

pub returns-then-is_managing : goal.returns-then-is_managing
returns-then-is_managing c =
    let found = manager_is_holder (rows_of c.args.rows.now) c.requires c.args.handle c.args.guid (Some c.in-Some.rec) (sym c.in-Some.is ∙ c.holder.ensures) in
    let manages : is_managing c.in-Some.rec ≡ true = sym c.is_managing.ensures ∙ c.if-is_managing.true in
    ap (option_map (λ (rec : Rec). rec.agent)) (rw manages at found)

pub returns-else-is_managing : goal.returns-else-is_managing
returns-else-is_managing c =
    let found = manager_is_holder (rows_of c.args.rows.now) c.requires c.args.handle c.args.guid (Some c.in-Some.rec) (sym c.in-Some.is ∙ c.holder.ensures) in
    let manages : is_managing c.in-Some.rec ≡ false = sym c.is_managing.ensures ∙ c.if-is_managing.false in
    ap (option_map (λ (rec : Rec). rec.agent)) (rw manages at found)

pub returns-in-None : goal.returns-in-None
returns-in-None c = ap (option_map (λ (rec : Rec). rec.agent)) (manager_is_holder (rows_of c.args.rows.now) c.requires c.args.handle c.args.guid None (sym c.in-None.is ∙ c.holder.ensures))
