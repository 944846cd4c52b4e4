use Rattle.std.proofs.Common.{◌≡◌, ◌≤◌, ◌<◌, ◌+◌, ◌*◌, List, [], length, drop, ap, sym, ◌∙◌, arith}
use Rattle.pe_image.specs.Headers.{headers_of, section_table, section_at, sections_of, copied_size}
use Rattle.pe_image.specs.declared.sections.SectionHeader.{SectionHeader}
use Rattle.pe_image.proofs.RuleLemmas.{keeps_rules, keeps_limits}
use Rattle.pe_image.proofs.SectionLemmas.{drop-sections_of, drop-sections_of-all}
use Rattle.pe_image.proofs.SectionPlaceLemmas.{laid_out}
use Rattle.pe_image.proofs.ImageByteLemmas.{byte_over, byte_over-put, byte_over-start, plain_image-by_place, length-headers_alone}
use Rattle.pe_image.proofs.laying.lay_sections.Goals as goal

-- all sections over the headers followed by zeros
pub loop-index-init : goal.loop-index-init
loop-index-init c =
    let bytes = c.args.bytes.now in
    let numbers = keeps_limits bytes c.requires.accepted in
    record {
      size = ap length c.requires.headers ∙ length-headers_alone bytes numbers.headers_in_image numbers.headers_in_file;
      bytes = λ place. byte_over-start bytes c.args.image.now place c.requires.headers;
    }

pub lay_section-requires-clause-inside : goal.lay_section-requires-clause-inside
lay_section-requires-clause-inside c =
    let bytes = c.args.bytes.now in
    let facts = laid_out bytes c.loop-index.index (keeps_rules bytes c.requires.accepted).sections (omega arith) in
    let size = c.loop-index.invariant.size in
    rw c.section_at.ensures (omega (arith, facts.inside, size))

pub lay_section-requires-clause-in_file : goal.lay_section-requires-clause-in_file
lay_section-requires-clause-in_file c =
    let bytes = c.args.bytes.now in
    let facts = laid_out bytes c.loop-index.index (keeps_rules bytes c.requires.accepted).sections (omega arith) in
    rw c.section_at.ensures facts.in_file

-- one more section in its place
pub loop-index-preserved : goal.loop-index-preserved
loop-index-preserved c =
    let bytes = c.args.bytes.now in
    let index = c.loop-index.index in
    let inside : index < (headers_of bytes).section_count = omega arith in
    let section = section_at (section_table bytes + 40 * index) bytes in
    let facts = laid_out bytes index (keeps_rules bytes c.requires.accepted).sections inside in
    let size = c.loop-index.invariant.size in
    let room : section.address + copied_size section ≤ length c.loop-index.image = omega (arith, facts.inside, size) in
    let same : length c.lay_section.new.image ≡ length c.loop-index.image = c.lay_section.auto.image in
    record {
      size = same ∙ size;
      bytes = λ place.
          rw (c.lay_section.ensures, c.section_at.ensures)
          (byte_over-put bytes c.loop-index.image section (drop (index + 1) (sections_of bytes)) place room facts.in_file (facts.apart place)
          ∙ ap (λ (sections : List SectionHeader). byte_over bytes sections c.loop-index.image place) (sym (drop-sections_of bytes index inside))
          ∙ c.loop-index.invariant.bytes place);
    }

-- no section is left
pub returns : goal.returns
returns c =
    let bytes = c.args.bytes.now in
    let image = c.loop-index.image in
    let all : c.loop-index.index ≡ (headers_of bytes).section_count = omega arith in
    let none : drop c.loop-index.index (sections_of bytes) ≡ [] = rw all (drop-sections_of-all bytes) in
    plain_image-by_place bytes image c.loop-index.invariant.size (λ place. rw none at (c.loop-index.invariant.bytes place))
