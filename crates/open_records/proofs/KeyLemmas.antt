-- The orders of keys tell all keys apart.
use Rattle.std.proofs.Common.{◌≡◌, true, refl}
use Rattle.std.specs.declared.cmp.Ordering.{Ordering}
use Rattle.std.specs.declared.cmp.Ordering.TheVariants.{Less, Equal, Greater}
use Rattle.std.specs.Cmp.Lexicographic.{slice_cmp}
use Rattle.std.specs.Ordering.{nat_cmp, is_eq}
use Rattle.std.proofs.lemmas.Map.Lookups.{CmpEqualImpliesEq, exact_bytes, exact_pairs, exact_unsigned}
use Rattle.open_records.specs.Interfaces.{interface_cmp}

pub is_equal_by : (o : Ordering) → is_eq o ≡ true → o ≡ Equal
is_equal_by Less e = absurd cc
is_equal_by Equal e = refl
is_equal_by Greater e = absurd cc

pub exact_interface : CmpEqualImpliesEq interface_cmp
exact_interface = exact_pairs nat_cmp (slice_cmp nat_cmp) exact_unsigned exact_bytes
