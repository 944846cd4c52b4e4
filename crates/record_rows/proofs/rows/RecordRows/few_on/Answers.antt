use Rattle.std.proofs.Common.{◌≡◌, ◌≤◌, ℕ, length, ap, subst, sym}
use Rattle.std.specs.Prelude.{IfSome}
use Rattle.open_records.specs.Interfaces.{Interface, is_on}
use Rattle.record_rows.specs.Asking.{AreCutBefore, Rise}
use Rattle.record_rows.specs.Index.{is_key_on}
use Rattle.record_rows.specs.Inside.{Kept, rows_of}
use Rattle.record_rows.proofs.FewLemmas.{cut_before, gone_on}
use Rattle.record_rows.proofs.IndexLemmas.{places_rise}
use Rattle.record_rows.proofs.KeptRows.{alike_on, given_count, none_shown_on}
use Rattle.record_rows.proofs.rows.RecordRows.few_on.Goals as goal

pub few_at-requires-clause-rising : goal.few_at-requires-clause-rising
few_at-requires-clause-rising c = subst Rise (sym c.places.ensures) (places_rise (is_key_on c.in-Some.interface) c.self.inside.index)

pub few_at-requires-clause-cut : goal.few_at-requires-clause-cut
few_at-requires-clause-cut c =
    let interface : Interface = (c.args.handle, c.args.guid) in
    let number = c.in-Some.interface in
    let rows = rows_of c.args.self.now in
    let cut = c.earlier_cut-cut.result in
    let alike = alike_on c.self.invariant c.self.view_is c.soundness.ensures.names c.soundness.ensures.classes interface number c.in-Some.ensures in
    let early : (cut ≤ rows.cuts.weak interface) × (cut ≤ rows.cuts.other interface) =
    subst (λ (kept : Kept). (cut ≤ (rows_of kept).cuts.weak interface) × (cut ≤ (rows_of kept).cuts.other interface)) c.self.view_is (c.earlier_cut-cut.ensures interface c.in-Some.ensures) in
    subst (AreCutBefore rows cut) (sym c.places.ensures) (cut_before (is_key_on number) (is_on interface) rows c.self.inside.index cut alike (gone_on rows interface cut early.0 early.1))

pub returns-in-None : goal.returns-in-None
returns-in-None c = ap length (sym (none_shown_on c.self.invariant c.self.view_is (c.args.handle, c.args.guid) c.in-None.ensures))

pub returns-in-Some : goal.returns-in-Some
returns-in-Some c =
    let interface : Interface = (c.args.handle, c.args.guid) in
    let number = c.in-Some.interface in
    let alike = alike_on c.self.invariant c.self.view_is c.soundness.ensures.names c.soundness.ensures.classes interface number c.in-Some.ensures in
    let total = given_count (is_key_on number) (is_on interface) (rows_of c.args.self.now) c.self.inside.index alike c.places.result.now c.places.ensures in
    subst (λ (n : ℕ). IfSome c.few_at.result (λ count. count ≡ n)) total c.few_at.ensures
