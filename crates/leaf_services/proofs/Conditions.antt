-- If several tests all hold, each of them holds.
use Rattle.std.proofs.Common.{◌≡◌, Bool, true, ◌&&◌}
use Rattle.std.proofs.lemmas.Bool.{and_parts}

pub last_of_six : (a b c d e f : Bool) → (a && (b && (c && (d && (e && f))))) ≡ true → f ≡ true
last_of_six a b c d e f all =
    (and_parts e f (and_parts d (e && f) (and_parts c (d && (e && f)) (and_parts b (c && (d && (e && f))) (and_parts a (b && (c && (d && (e && f)))) all).1).1).1).1).1
