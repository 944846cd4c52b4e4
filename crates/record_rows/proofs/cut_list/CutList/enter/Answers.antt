use Rattle.std.proofs.Common.{◌≡◌, ◌+◌, ◌++◌, ◌∷◌, [], true, false, length, nat_lt, refl, ap, sym, ◌∙◌, arith, length-append}
use Rattle.std.proofs.lemmas.Bool.Decides.{nat_tests}
use Rattle.record_rows.specs.Inside.{pairs}
use Rattle.record_rows.proofs.PairLemmas.{pairs_get, pairs_long, pairs_pushed}
use Rattle.record_rows.proofs.cut_list.CutList.enter.Goals as goal

pub returns-then-number-len-clause-number : goal.returns-then-number-len-clause-number
returns-then-number-len-clause-number g c =
    let owners = c.self.inside.owners in
    let at : c.in_ok-number.number ≡ length owners = c.if-number-len.true ∙ c.len.ensures ∙ c.reserve.new.self.ok.0 ∙ ap length c.reserve.ensures.items ∙ sym c.self.invariant in
    let less : nat_lt c.in_ok-number.number (length owners) ≡ false = grind (arith, nat_tests, at) in
    let grown : c.enter.new.self ≡ owners ++ c.args.key ∷ [] = c.in_ok-number.ensures.more ∙ rw less refl in
    let cuts : c.push_reserved.new.self.items ≡ c.self.inside.cuts.items ++ c.args.first ∷ [] = c.push_reserved.ensures.items ∙ ap (λ l. l ++ c.args.first ∷ []) c.reserve.ensures.items in
    let long : length c.enter.new.self ≡ length c.push_reserved.new.self.items =
    ap length grown ∙ length-append owners (c.args.key ∷ []) ∙ ap (λ n. n + 1) c.self.invariant ∙ sym (length-append c.self.inside.cuts.items (c.args.first ∷ [])) ∙ sym (ap length cuts) in
    pairs_get c.enter.new.self c.push_reserved.new.self.items c.in_ok-number.number long ∙ c.in_ok-number.ensures.number

pub returns-then-number-len-clause-more : goal.returns-then-number-len-clause-more
returns-then-number-len-clause-more g c =
    let owners = c.self.inside.owners in
    let old = c.self.inside.cuts.items in
    let at : c.in_ok-number.number ≡ length owners = c.if-number-len.true ∙ c.len.ensures ∙ c.reserve.new.self.ok.0 ∙ ap length c.reserve.ensures.items ∙ sym c.self.invariant in
    let less : nat_lt c.in_ok-number.number (length owners) ≡ false = grind (arith, nat_tests, at) in
    let grown : c.enter.new.self ≡ owners ++ c.args.key ∷ [] = c.in_ok-number.ensures.more ∙ rw less refl in
    let cuts : c.push_reserved.new.self.items ≡ old ++ c.args.first ∷ [] = c.push_reserved.ensures.items ∙ ap (λ l. l ++ c.args.first ∷ []) c.reserve.ensures.items in
    let none : nat_lt c.in_ok-number.number (length (pairs owners old)) ≡ false = ap (λ n. nat_lt c.in_ok-number.number n) (pairs_long owners old c.self.invariant) ∙ less in
    rw (← c.self.view_is, none) (rw (grown, cuts) (pairs_pushed owners old c.args.key c.args.first c.self.invariant))

pub returns-else-number-len-clause-number : goal.returns-else-number-len-clause-number
returns-else-number-len-clause-number g c =
    let owners = c.self.inside.owners in
    let len : c.len.result ≡ length owners = c.len.ensures ∙ c.reserve.new.self.ok.0 ∙ ap length c.reserve.ensures.items ∙ sym c.self.invariant in
    let other : c.in_ok-number.number ≡ length owners → ⊥ = λ same. c.if-number-len.false (same ∙ sym len) in
    let less : nat_lt c.in_ok-number.number (length owners) ≡ true = grind (arith, nat_tests, other, c.in_ok-number.ensures.within) in
    let grown : c.enter.new.self ≡ owners = c.in_ok-number.ensures.more ∙ rw less refl in
    let long : length c.enter.new.self ≡ length c.reserve.new.self.items = ap length grown ∙ c.self.invariant ∙ sym (ap length c.reserve.ensures.items) in
    pairs_get c.enter.new.self c.reserve.new.self.items c.in_ok-number.number long ∙ c.in_ok-number.ensures.number

pub returns-else-number-len-clause-more : goal.returns-else-number-len-clause-more
returns-else-number-len-clause-more g c =
    let owners = c.self.inside.owners in
    let old = c.self.inside.cuts.items in
    let len : c.len.result ≡ length owners = c.len.ensures ∙ c.reserve.new.self.ok.0 ∙ ap length c.reserve.ensures.items ∙ sym c.self.invariant in
    let other : c.in_ok-number.number ≡ length owners → ⊥ = λ same. c.if-number-len.false (same ∙ sym len) in
    let less : nat_lt c.in_ok-number.number (length owners) ≡ true = grind (arith, nat_tests, other, c.in_ok-number.ensures.within) in
    let grown : c.enter.new.self ≡ owners = c.in_ok-number.ensures.more ∙ rw less refl in
    let some : nat_lt c.in_ok-number.number (length (pairs owners old)) ≡ true = ap (λ n. nat_lt c.in_ok-number.number n) (pairs_long owners old c.self.invariant) ∙ less in
    rw (← c.self.view_is, some) (rw (grown, c.reserve.ensures.items) refl)
