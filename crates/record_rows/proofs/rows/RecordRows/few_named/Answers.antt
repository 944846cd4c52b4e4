use Rattle.std.proofs.Common.{◌≡◌, ◌<◌, ℕ, length, ap, subst, sym}
use Rattle.std.specs.Prelude.{IfSome}
use Rattle.open_records.specs.Records.{is_named}
use Rattle.open_records.specs.declared.open_record.KeyedRecord.{KeyedRecord}
use Rattle.record_rows.specs.Asking.{AreCutBefore, Rise}
use Rattle.record_rows.specs.Index.{is_key_named}
use Rattle.record_rows.specs.Inside.{Kept, rows_of}
use Rattle.record_rows.proofs.FewLemmas.{cut_before, gone_named}
use Rattle.record_rows.proofs.IndexLemmas.{places_rise}
use Rattle.record_rows.proofs.KeptRows.{alike_named, given_count, no_line_named}
use Rattle.record_rows.proofs.Walks.{none_shown}
use Rattle.record_rows.proofs.rows.RecordRows.few_named.Goals as goal

pub few_at-requires-clause-rising : goal.few_at-requires-clause-rising
few_at-requires-clause-rising c = subst Rise (sym c.named.ensures) (places_rise (is_key_named c.in-Some.number) c.self.inside.index)

pub few_at-requires-clause-cut : goal.few_at-requires-clause-cut
few_at-requires-clause-cut c =
    let name = c.args.name in
    let number = c.in-Some.number in
    let rows = rows_of c.args.self.now in
    let cut = c.name_cut-cut.result in
    let alike = alike_named c.self.invariant c.self.view_is c.soundness.ensures.names name number c.in-Some.ensures in
    let is : rows.cuts.name name ≡ cut = subst (λ (kept : Kept). (rows_of kept).cuts.name name ≡ cut) c.self.view_is (c.name_cut-cut.ensures name c.in-Some.ensures) in
    subst (AreCutBefore rows cut) (sym c.named.ensures)
    (cut_before (is_key_named number) (λ (one : KeyedRecord). is_named name one.rec) rows c.self.inside.index cut alike
    (λ place line passes lt. gone_named rows name place line passes (subst (λ (n : ℕ). place < n) (sym is) lt)))

pub returns-in-None : goal.returns-in-None
returns-in-None c =
    let name = c.args.name in
    let rows = rows_of c.args.self.now in
    ap length (sym (none_shown (λ (one : KeyedRecord). is_named name one.rec) rows.cuts 0 rows.lines (no_line_named c.self.invariant c.self.view_is name c.in-None.ensures)))

pub returns-in-Some : goal.returns-in-Some
returns-in-Some c =
    let name = c.args.name in
    let number = c.in-Some.number in
    let alike = alike_named c.self.invariant c.self.view_is c.soundness.ensures.names name number c.in-Some.ensures in
    let total = given_count (is_key_named number) (λ (one : KeyedRecord). is_named name one.rec) (rows_of c.args.self.now) c.self.inside.index alike c.named.result.now c.named.ensures in
    subst (λ (n : ℕ). IfSome c.few_at.result (λ count. count ≡ n)) total c.few_at.ensures
