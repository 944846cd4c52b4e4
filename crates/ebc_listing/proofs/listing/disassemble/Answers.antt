-- Each way through the loop is a step of the listing.
use Rattle.std.proofs.Common.{◌≡◌, arith, sym, ◌∙◌, ap, length, length-drop, ◌-◌, ◌+◌, string_bytes}
use Rattle.std.proofs.lemmas.Bool.Decides.{nat_tests}
use Rattle.ebc_listing.specs.Listing.{listing}
use Rattle.ebc_listing.proofs.ListingLemmas.{at-end, at-refusal, at-found}
use Rattle.ebc_listing.proofs.listing.disassemble.Goals as goal

pub returns-in_default : goal.returns-in_default
returns-in_default c = record {
  listing = at-refusal _ _ _ _ _ c.in_default.field-0 (grind (arith, nat_tests)) (sym c.in_default.ensures.table) c.in_ok-write_illegal.ensures c.lines.invariant.written;
}

pub lines-preserved : goal.lines-preserved
lines-preserved c = record {
  written = at-found (string_bytes c.lines.out) (string_bytes c.write_line.new.out) c.lines.rest.now c.rest_of-rest.result.now (listing c.args.bytes.now c.args.at) c.lines.place (c.lines.place + c.from-place.result) c.in-Ok.instr c.in-Ok.size (grind (arith, nat_tests)) (sym c.in-Ok.ensures.table) c.in_ok-write_line.ensures c.rest_of-rest.ensures (omega (arith, c.from-place.ensures)) c.lines.invariant.written;
  place = let shorter : length c.rest_of-rest.result.now ≡ length c.lines.rest.now - c.in-Ok.size = ap length c.rest_of-rest.ensures ∙ length-drop c.in-Ok.size c.lines.rest.now in omega (arith, shorter, c.in-Ok.ensures.len, c.from-place.ensures, c.lines.invariant.place);
}

pub returns : goal.returns
returns c = record {
  listing = at-end _ _ _ _ (grind (arith, nat_tests)) c.lines.invariant.written;
}
