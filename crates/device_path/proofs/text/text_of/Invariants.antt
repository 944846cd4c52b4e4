use Rattle.std.proofs.Common.{◌≡◌, length, string_bytes}
use denote.Text.{Utf8}
use denote.Shadow.{shadow}
use Rattle.device_path.specs.DevicePath.{path_in}
use Rattle.device_path.specs.PathText.{text_of}
use Rattle.device_path.proofs.TextLemmas.{text_after}
use Rattle.device_path.proofs.text.text_of.Given as goal

-- the text so far goes on with that of what is left
abbrev pub invariant-nodes : goal.invariant-nodes
invariant-nodes l = shadow (Utf8 l.separator) × (text_of (path_in l.path) ≡ text_after (string_bytes l.text) l.separator (path_in l.rest))

abbrev pub decreases-nodes : goal.decreases-nodes
decreases-nodes l = length l.rest
