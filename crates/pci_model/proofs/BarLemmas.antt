-- The BARs of a device, by their places.
use Rattle.std.proofs.Common.{◌≡◌, ◌<◌, ℕ, zero, suc, Bool, true, false, ◌||◌, nat_eq, List, [], ◌∷◌, length, get_or, set, Some, None, refl, ap, sym, ◌∙◌, arith}
use Rattle.std.specs.Prelude.{is_some}
use Rattle.std.specs.List.{list_any, position}
use Rattle.std.proofs.lemmas.List.Quantifiers.{position-Some}
use Rattle.fw_types.specs.Layout.{put}
use Rattle.pci_model.specs.Devices.{bars_after, bytes_of_bar}
use Rattle.pci_model.specs.declared.device.BarBytes.{BarBytes}
use Rattle.pci_model.proofs.CountLemmas.{is_some-position}

-- some BAR
abbrev pub nobody : BarBytes
nobody = record { index = 0; bytes = [] }

-- what a write leaves of a BAR
abbrev pub with_bytes : ℕ → List ℕ → BarBytes → BarBytes
with_bytes at bytes bar = record bar { bytes = put at bytes bar.bytes }

-- a write leaves the number of BARs
length_by : (index at : ℕ) (bytes : List ℕ) (bar : BarBytes) (bars : List BarBytes) (here : Bool) → nat_eq bar.index index ≡ here → length (bars_after index at bytes bars) ≡ length bars
    → length (bars_after index at bytes (bar ∷ bars)) ≡ suc (length bars)
length_by index at bytes bar bars true is rest = rw is refl
length_by index at bytes bar bars false is rest = rw is (ap suc rest)

pub length-bars_after : (index at : ℕ) (bytes : List ℕ) (bars : List BarBytes) → length (bars_after index at bytes bars) ≡ length bars
length-bars_after index at bytes [] = refl
length-bars_after index at bytes (bar ∷ bars) = length_by index at bytes bar bars (nat_eq bar.index index) refl (length-bars_after index at bytes bars)

bytes_at : (index : ℕ) (bars : List BarBytes) (place : ℕ) (d : BarBytes) → place < length bars → nat_eq (get_or bars place d).index index ≡ true → ((k : ℕ) → k < place → nat_eq (get_or bars k d).index index ≡ false)
    → bytes_of_bar bars index ≡ (get_or bars place d).bytes
bytes_at index [] place d inside is others = absurd (omega arith)
bytes_at index (bar ∷ bars) zero d inside is others = rw is refl
bytes_at index (bar ∷ bars) (suc place) d inside is others =
    rw (others 0 (omega arith)) (bytes_at index bars place d (omega arith) is (λ k below. others (suc k) (omega arith)))

written_at : (index at : ℕ) (bytes : List ℕ) (bars : List BarBytes) (place : ℕ) (d : BarBytes) → place < length bars → nat_eq (get_or bars place d).index index ≡ true → ((k : ℕ) → k < place → nat_eq (get_or bars k d).index index ≡ false)
    → bars_after index at bytes bars ≡ set bars place (with_bytes at bytes (get_or bars place d))
written_at index at bytes [] place d inside is others = absurd (omega arith)
written_at index at bytes (bar ∷ bars) zero d inside is others = rw is refl
written_at index at bytes (bar ∷ bars) (suc place) d inside is others =
    rw (others 0 (omega arith)) (ap (λ (rest : List BarBytes). bar ∷ rest) (written_at index at bytes bars place d (omega arith) is (λ k below. others (suc k) (omega arith))))

-- the BAR that is found has the bytes, and is written
pub bytes_of_bar-at : (index : ℕ) (bars : List BarBytes) (place : ℕ) (d : BarBytes) → position (λ (bar : BarBytes). nat_eq bar.index index) bars ≡ Some place → bytes_of_bar bars index ≡ (get_or bars place d).bytes
bytes_of_bar-at index bars place d found =
    let facts = position-Some (λ (bar : BarBytes). nat_eq bar.index index) bars place d found in
    bytes_at index bars place d facts.0 facts.1 facts.2

pub bars_after-at : (index at : ℕ) (bytes : List ℕ) (bars : List BarBytes) (place : ℕ) (d : BarBytes) → position (λ (bar : BarBytes). nat_eq bar.index index) bars ≡ Some place
    → bars_after index at bytes bars ≡ set bars place (with_bytes at bytes (get_or bars place d))
bars_after-at index at bytes bars place d found =
    let facts = position-Some (λ (bar : BarBytes). nat_eq bar.index index) bars place d found in
    written_at index at bytes bars place d facts.0 facts.1 facts.2

any-parts : (a b : Bool) → a || b ≡ false → (a ≡ false) × (b ≡ false)
any-parts true b h = absurd cc
any-parts false b h = (refl, h)

unwritten : (index at : ℕ) (bytes : List ℕ) (bars : List BarBytes) → list_any (λ (bar : BarBytes). nat_eq bar.index index) bars ≡ false → bars_after index at bytes bars ≡ bars
unwritten index at bytes [] none = refl
unwritten index at bytes (bar ∷ bars) none =
    let parts = any-parts (nat_eq bar.index index) (list_any (λ (bar : BarBytes). nat_eq bar.index index) bars) none in
    rw parts.0 (ap (λ (rest : List BarBytes). bar ∷ rest) (unwritten index at bytes bars parts.1))

-- if none is found nothing is written
pub bars_after-none : (index at : ℕ) (bytes : List ℕ) (bars : List BarBytes) → position (λ (bar : BarBytes). nat_eq bar.index index) bars ≡ None → bars_after index at bytes bars ≡ bars
bars_after-none index at bytes bars none =
    unwritten index at bytes bars (sym (is_some-position (λ (bar : BarBytes). nat_eq bar.index index) bars) ∙ ap is_some none)
