use Rattle.std.proofs.Common.{◌≡◌, Some, find, sym, ap, ◌∙◌, arith}
use Rattle.std.specs.Option.{option_map}
use Rattle.pe_image.specs.Headers.{sections_of, has_address, end_of}
use Rattle.pe_image.specs.ImageRules.{code_end_of, entry_of}
use Rattle.pe_image.proofs.RuleLemmas.{keeps_rules, keeps_limits}
use Rattle.pe_image.proofs.SectionPlaceLemmas.{EndsBehind, section_end}
use Rattle.pe_image.proofs.image.PeView.code_end.Goals as goal

-- the section that has the entry point
found : (c : goal.After-end) → find (has_address (entry_of c.self.inside.bytes.now)) (sections_of c.self.inside.bytes.now) ≡ Some c.in-Some.section
found c = rw c.entry_point.ensures at (sym c.section_with.ensures ∙ c.in-Some.is)

-- it ends in the image, after the entry point
ends : (c : goal.After-end) → EndsBehind c.self.inside.bytes.now (entry_of c.self.inside.bytes.now) c.in-Some.section
ends c =
    let bytes = c.self.inside.bytes.now in
    section_end bytes (entry_of bytes) c.in-Some.section (keeps_rules bytes c.self.invariant).sections (found c)

pub overflow_cast-result : goal.overflow_cast-result
overflow_cast-result c =
    let numbers = keeps_limits c.self.inside.bytes.now c.self.invariant in
    let facts = ends c in
    rw c.end.ensures (omega (arith, facts.inside, numbers.at_most))

pub returns-in-Some-clause-value : goal.returns-in-Some-clause-value
unfolding code_end_of
returns-in-Some-clause-value c = rw (c.end.ensures, ← c.self.view_is) (sym (ap (option_map end_of) (found c)))

pub returns-in-Some-clause-after_entry : goal.returns-in-Some-clause-after_entry
returns-in-Some-clause-after_entry c = rw (c.end.ensures, ← c.self.view_is) (ends c).behind

pub returns-in-Some-clause-inside : goal.returns-in-Some-clause-inside
returns-in-Some-clause-inside c = rw (c.end.ensures, ← c.self.view_is) (ends c).inside

-- no section has it
pub returns-in-None-clause-value : goal.returns-in-None-clause-value
unfolding code_end_of
returns-in-None-clause-value c =
    rw (← c.self.view_is) (sym (ap (option_map end_of) (rw c.entry_point.ensures at (sym c.section_with.ensures ∙ c.in-None.is))))
