use Rattle.std.proofs.Common.{◌≡◌, ◌+◌, ℕ, map, nat_eq, ap, ◌∙◌}
use Rattle.std.proofs.lemmas.List.Filters.{dedup_is}
use Rattle.rom_builder.proofs.SortedOnceLemmas.{dedup-sorted, rise-dedup}
use Rattle.rom_builder.proofs.relocations.places_of.Goals as goal

-- the places sorted, and then each once
pub returns-clause-places : goal.returns-clause-places
returns-clause-places c =
    let all : c.in_ok-places.places.items ≡ map (λ (offset : ℕ). 512 + offset) c.args.parts.now.relocs = c.in_ok-places.ensures ∙ ap (map (λ (offset : ℕ). 512 + offset)) c.as_slice.ensures in
    dedup_is nat_eq c.sort.new.self.items c.dedup.new.self.items c.dedup.ensures.filtered
    ∙ dedup-sorted _ c.sort.new.self.items (rw all at c.in_ok-sort.ensures.permutation) c.in_ok-sort.ensures.sorted

pub returns-clause-rise : goal.returns-clause-rise
returns-clause-rise c =
    rw (dedup_is nat_eq c.sort.new.self.items c.dedup.new.self.items c.dedup.ensures.filtered)
    (rise-dedup c.sort.new.self.items c.in_ok-sort.ensures.sorted)
