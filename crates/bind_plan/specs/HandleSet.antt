-- Sets of handles.
use Rattle.std.specs.Prelude.{◌≡◌, ℕ, List, nat_eq}
use Rattle.std.specs.List.{list_any}
use Rattle.std.specs.Ordering.{nat_cmp}
use Rattle.std.specs.BTreeSet.{BTreeSet, contains}
use Rattle.driver_model.specs.OrderLaws.{is_handle}
use Rattle.driver_model.specs.declared.binding.BindingBlock.{BindingBlock}

-- a set has the numbers of a list, and no others
abbrev pub IsSetOf : List ℕ → BTreeSet ℕ → Type 0
IsSetOf numbers set = (number : ℕ) → contains nat_cmp set number ≡ list_any (nat_eq number) numbers

-- a set has the handles of drivers, and no others
abbrev pub AreHandlesOf : List BindingBlock → BTreeSet ℕ → Type 0
AreHandlesOf drivers set = (handle : ℕ) → contains nat_cmp set handle ≡ list_any (is_handle handle) drivers
