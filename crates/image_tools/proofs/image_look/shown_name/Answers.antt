use Rattle.std.proofs.Common.{◌≡◌, true, false}
use Rattle.std.specs.Str.{IsAscii}
use Rattle.std.proofs.lemmas.Str.{IsUtf8-from_ascii}
use Rattle.image_tools.proofs.TextLemmas.{IsAscii-shown}
use Rattle.image_tools.proofs.image_look.shown_name.Goals as goal

-- a shown name is ASCII, and so UTF-8
pub unreachable-requires : goal.unreachable-requires
unreachable-requires c =
    let ascii : IsAscii c.in_ok-bytes.bytes.items = rw c.in_ok-bytes.ensures (IsAscii-shown _) in
    let no : false ≡ true = c.in-Err.ensures.succeeds (IsUtf8-from_ascii c.in_ok-bytes.bytes.items ascii) in
    absurd cc
