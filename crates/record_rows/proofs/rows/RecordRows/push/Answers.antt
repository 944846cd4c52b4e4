use Rattle.std.proofs.Common.{◌≡◌, ◌&&◌, ℕ, Bool, not, length, nat_eq, subst, ◌++◌, ◌∷◌, [], false, true, List, ap, sym, subst, ◌∙◌}
use Rattle.std.proofs.lemmas.List.{length-map}
use Rattle.fw_types.specs.Attr.{has_bit_of}
use Rattle.fw_types.specs.declared.attr.TheConstants.Attr.{WEAK_BITS}
use Rattle.record_rows.proofs.CutLemmas.{nat_itself}
use Rattle.record_rows.specs.Rows.{Cuts, Line, RowsView, counts}
use Rattle.record_rows.specs.Index.{RowKey, is_key_on, is_other_on}
use Rattle.record_rows.specs.Inside.{cuts_in, key_of, lines_of}
use Rattle.record_rows.specs.ShownPlaces.{AreShownPlaces, IsListedAt, listed_at, with_place_if}
use Rattle.record_rows.proofs.KeptKeys.{keeps_grown}
use Rattle.record_rows.proofs.MarkLemmas.{keys_pushed, lines_long, lines_pushed, marked_grown, marked_pushed, marks_long}
use Rattle.record_rows.proofs.ShownRows.{and_swap, other_number, shown_pushed}
use Rattle.record_rows.proofs.rows.RecordRows.push.Goals as goal

pub invariant_of-self-in_err-mark : goal.invariant_of-self-in_err-mark
invariant_of-self-in_err-mark c =
    let inside = c.self.inside in
    let lines = lines_of inside.records.items inside.marks.items in
    rw (c.reserve.ensures.items, c.reserve-2.ensures.items) (record {
      marked = marked_grown inside.cutters c.mark_of.new.self inside.records.items inside.marks.items c.mark_of.ensures.grown c.self.invariant.marked;
      keys = c.self.invariant.keys;
      shown = subst (λ (cuts : Cuts). AreShownPlaces is_key_on (record { lines = lines; cuts = cuts }) inside.index inside.shown) (sym c.mark_of.ensures.grown.cuts) c.self.invariant.shown;
      shown_others = subst (λ (cuts : Cuts). AreShownPlaces is_other_on (record { lines = lines; cuts = cuts }) inside.index inside.shown_others) (sym c.mark_of.ensures.grown.cuts) c.self.invariant.shown_others;
    })

pub invariant_of-self-in_err-place : goal.invariant_of-self-in_err-place
invariant_of-self-in_err-place c =
    let inside = c.self.inside in
    let lines = lines_of inside.records.items inside.marks.items in
    rw (c.reserve.ensures.items, c.reserve-2.ensures.items, c.in_err-place.ensures.err) (record {
      marked = marked_grown inside.cutters c.mark_of.new.self inside.records.items inside.marks.items c.mark_of.ensures.grown c.self.invariant.marked;
      keys = c.self.invariant.keys;
      shown = subst (λ (cuts : Cuts). AreShownPlaces is_key_on (record { lines = lines; cuts = cuts }) inside.index inside.shown) (sym c.mark_of.ensures.grown.cuts) c.self.invariant.shown;
      shown_others = subst (λ (cuts : Cuts). AreShownPlaces is_other_on (record { lines = lines; cuts = cuts }) inside.index inside.shown_others) (sym c.mark_of.ensures.grown.cuts) c.self.invariant.shown_others;
    })

pub invariant_of-self-2 : goal.invariant_of-self-2
invariant_of-self-2 c =
    let inside = c.self.inside in
    let names = inside.cutters.names in
    let classes = inside.cutters.classes in
    let grown = c.mark_of.new.self in
    let mark = c.in_ok-mark.mark in
    let lines = lines_of inside.records.items inside.marks.items in
    let line : Line = record { keyed = c.args.one; closed = mark.closed } in
    let rows : RowsView = record { lines = lines; cuts = cuts_in grown.names grown.classes } in
    let records : c.push_reserved.new.self.items ≡ inside.records.items ++ c.args.one ∷ [] = c.push_reserved.ensures.items ∙ ap (λ l. l ++ c.args.one ∷ []) c.reserve.ensures.items in
    let marks : c.push_reserved-2.new.self.items ≡ inside.marks.items ++ mark ∷ [] = c.push_reserved-2.ensures.items ∙ ap (λ l. l ++ mark ∷ []) c.reserve-2.ensures.items in
    let keys : c.push.new.self ≡ inside.index ++ key_of mark ∷ [] = c.in_ok-place.ensures.ok ∙ ap (λ (key : RowKey). inside.index ++ key ∷ []) c.key.ensures in
    let records_long = lines_long names classes inside.records.items inside.marks.items c.self.invariant.marked in
    let long : length inside.index ≡ length lines =
    ap length c.self.invariant.keys ∙ length-map inside.marks.items key_of ∙ marks_long names classes inside.records.items inside.marks.items c.self.invariant.marked ∙ sym records_long in
    let count : c.len-count.result ≡ length inside.index = c.len-count.ensures ∙ inside.records.ok.0 ∙ sym records_long ∙ sym long in
    let counted : counts rows.cuts (length inside.index) line ≡ c.counts-counts.result = sym (c.counts-counts.ensures c.args.one c.in_ok-mark.ensures.mark ∙ ap (λ (n : ℕ). counts rows.cuts n line) count) in
    let listed : IsListedAt mark.interface (with_place_if c.counts-counts.result (length inside.index) (listed_at mark.interface inside.shown)) inside.shown c.push_if.new.self =
    subst (λ (n : ℕ). IsListedAt mark.interface (with_place_if c.counts-counts.result n (listed_at mark.interface inside.shown)) inside.shown c.push_if.new.self) c.in_ok-place.ensures.place c.push_if.ensures in
    let shown : AreShownPlaces is_key_on rows inside.index inside.shown = subst (λ (cuts : Cuts). AreShownPlaces is_key_on (record { lines = lines; cuts = cuts }) inside.index inside.shown) (sym c.mark_of.ensures.grown.cuts) c.self.invariant.shown in
    let shown_others : AreShownPlaces is_other_on rows inside.index inside.shown_others = subst (λ (cuts : Cuts). AreShownPlaces is_other_on (record { lines = lines; cuts = cuts }) inside.index inside.shown_others) (sym c.mark_of.ensures.grown.cuts) c.self.invariant.shown_others in
    let other : has_bit_of WEAK_BITS mark.attr ≡ c.has_bit_of-is_other.result = sym c.has_bit_of-is_other.ensures in
    let own : nat_eq mark.interface mark.interface ≡ true = nat_itself mark.interface in
    let listed_others : IsListedAt mark.interface (with_place_if (c.counts-counts.result && not c.has_bit_of-is_other.result) (length inside.index) (listed_at mark.interface inside.shown_others)) inside.shown_others c.push_if-2.new.self =
    subst (λ (n : ℕ). IsListedAt mark.interface (with_place_if (c.counts-counts.result && not c.has_bit_of-is_other.result) n (listed_at mark.interface inside.shown_others)) inside.shown_others c.push_if-2.new.self) c.in_ok-place.ensures.place c.push_if-2.ensures in
    rw (records, marks, keys)
    (record {
      marked =
          marked_pushed grown.names grown.classes inside.records.items inside.marks.items c.args.one mark
          (marked_grown inside.cutters grown inside.records.items inside.marks.items c.mark_of.ensures.grown c.self.invariant.marked) c.in_ok-mark.ensures.mark;
      keys = ap (λ l. l ++ key_of mark ∷ []) c.self.invariant.keys ∙ sym (keys_pushed inside.marks.items mark);
      shown =
          subst (λ (all : List Line). AreShownPlaces is_key_on (record { lines = all; cuts = rows.cuts }) (inside.index ++ key_of mark ∷ []) c.push_if.new.self)
          (sym (lines_pushed names classes inside.records.items inside.marks.items c.args.one mark c.self.invariant.marked))
          (shown_pushed rows line inside.index (key_of mark) long is_key_on c.counts-counts.result inside.shown c.push_if.new.self (λ number differs. other_number number mark.interface differs) (sym (ap (λ (b : Bool). b && counts rows.cuts (length inside.index) line) own ∙ counted)) listed shown);
      shown_others =
          subst (λ (all : List Line). AreShownPlaces is_other_on (record { lines = all; cuts = rows.cuts }) (inside.index ++ key_of mark ∷ []) c.push_if-2.new.self)
          (sym (lines_pushed names classes inside.records.items inside.marks.items c.args.one mark c.self.invariant.marked))
          (shown_pushed rows line inside.index (key_of mark) long is_other_on (c.counts-counts.result && not c.has_bit_of-is_other.result) inside.shown_others c.push_if-2.new.self
          (λ number differs. ap (λ (b : Bool). b && not (has_bit_of WEAK_BITS mark.attr)) (other_number number mark.interface differs))
          (and_swap c.counts-counts.result (not c.has_bit_of-is_other.result)
          ∙ sym (ap (λ (b : Bool). (b && not (has_bit_of WEAK_BITS mark.attr)) && counts rows.cuts (length inside.index) line) own
          ∙ ap (λ (b : Bool). not b && counts rows.cuts (length inside.index) line) other ∙ ap (λ (b : Bool). not c.has_bit_of-is_other.result && b) counted))
          listed_others shown_others);
    })

pub returns-clause-ok : goal.returns-clause-ok
returns-clause-ok c =
    let records : c.push_reserved.new.self.items ≡ c.self.inside.records.items ++ c.args.one ∷ [] = c.push_reserved.ensures.items ∙ ap (λ l. l ++ c.args.one ∷ []) c.reserve.ensures.items in
    let marks : c.push_reserved-2.new.self.items ≡ c.self.inside.marks.items ++ c.in_ok-mark.mark ∷ [] = c.push_reserved-2.ensures.items ∙ ap (λ l. l ++ c.in_ok-mark.mark ∷ []) c.reserve-2.ensures.items in
    let pushed = lines_pushed c.self.inside.cutters.names c.self.inside.cutters.classes c.self.inside.records.items c.self.inside.marks.items c.args.one c.in_ok-mark.mark c.self.invariant.marked in
    let line : lines_of c.self.inside.records.items c.self.inside.marks.items ++ record { keyed = c.args.one; closed = c.in_ok-mark.mark.closed } ∷ [] ≡ lines_of c.self.inside.records.items c.self.inside.marks.items ++ record { keyed = c.args.one; closed = false } ∷ [] =
    ap (λ closed. lines_of c.self.inside.records.items c.self.inside.marks.items ++ record { keyed = c.args.one; closed = closed } ∷ []) c.in_ok-mark.ensures.open in
    rw (← c.self.view_is) (rw (records, marks)
    (ap (λ (lines : List Line). record { lines = lines; cuts = cuts_in c.mark_of.new.self.names c.mark_of.new.self.classes }) (pushed ∙ line)
    ∙ ap (λ (cuts : Cuts). record { lines = lines_of c.self.inside.records.items c.self.inside.marks.items ++ record { keyed = c.args.one; closed = false } ∷ []; cuts = cuts }) c.mark_of.ensures.grown.cuts))

pub returns-in_err-mark-clause-keys : goal.returns-in_err-mark-clause-keys
returns-in_err-mark-clause-keys c =
    rw (← c.self.view_is) (keeps_grown (lines_of c.self.inside.records.items c.self.inside.marks.items) (lines_of c.reserve.new.self.items c.reserve-2.new.self.items) c.self.inside.cutters c.mark_of.new.self c.mark_of.ensures.grown)

pub returns-clause-keys : goal.returns-clause-keys
returns-clause-keys c =
    rw (← c.self.view_is) (keeps_grown (lines_of c.self.inside.records.items c.self.inside.marks.items) (lines_of c.push_reserved.new.self.items c.push_reserved-2.new.self.items) c.self.inside.cutters c.mark_of.new.self c.mark_of.ensures.grown)

pub returns-in_err-place-clause-keys : goal.returns-in_err-place-clause-keys
returns-in_err-place-clause-keys c =
    rw (← c.self.view_is) (keeps_grown (lines_of c.self.inside.records.items c.self.inside.marks.items) (lines_of c.reserve.new.self.items c.reserve-2.new.self.items) c.self.inside.cutters c.mark_of.new.self c.mark_of.ensures.grown)
