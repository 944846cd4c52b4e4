use Rattle.image_tools.proofs.TextLemmas.{appended}
use Rattle.image_tools.proofs.image_look.write_file_range.Goals as goal

pub returns : goal.returns
returns c =
    appended c.write_hex-2.result _ _ _ _ _
    (rw c.from.ensures at c.in_ok-write_hex.ensures)
    (rw c.from-2.ensures at c.write_hex-2.ensures)
