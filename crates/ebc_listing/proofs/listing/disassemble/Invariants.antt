-- What is written, with the listing of the rest, is the listing of all.
use Rattle.std.proofs.Common.{◌≡◌, ◌+◌, ◌++◌, length, string_bytes}
use Rattle.ebc_listing.specs.Listing.{listing}
use Rattle.ebc_listing.proofs.listing.disassemble.Given as goal

abbrev pub invariant-lines : goal.invariant-lines
invariant-lines l = record {
  written : string_bytes l.out ++ listing l.rest l.place ≡ listing l.fn.bytes l.fn.at;
  place : l.place + length l.rest ≡ l.fn.at + length l.fn.bytes;
}

abbrev pub decreases-lines : goal.decreases-lines
decreases-lines l = length l.rest
