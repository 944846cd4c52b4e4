-- What has cuts still has some.
use Rattle.std.proofs.Common.{◌≡◌, ℕ, List, sym, subst, ◌∙◌}
use Rattle.open_records.specs.Interfaces.{Interface}
use Rattle.record_rows.specs.Asking.{KeepsKeys}
use Rattle.record_rows.specs.Inside.{CuttersValue, Grows, HasNumber, Kept}
use Rattle.record_rows.specs.Numbers.{IsAbsent}
use Rattle.record_rows.specs.Rows.{Line}
use Rattle.record_rows.proofs.CutLemmas.{by_first, firsts}

-- a key that has a number is there as long as it has one
still_there : {K C : Type 0} (old new : List (K × C)) (key : K) → ((number : ℕ) → HasNumber old key number → HasNumber new key number)
    → (IsAbsent key (firsts old) → ⊥) → IsAbsent key (firsts new) → ⊥
still_there old new key more has absent = has (λ number is. absent number (by_first new number ∙ more number (sym (by_first old number) ∙ is)))

abbrev with_lines : List Line → CuttersValue → Kept
with_lines lines cutters = record { lines = lines; names = cutters.names; classes = cutters.classes }

pub keeps_grown : (lines others : List Line) (old new : CuttersValue) → Grows old new → KeepsKeys (with_lines lines old) (with_lines others new)
keeps_grown lines others old new grows = record {
  names = λ name has. still_there old.names new.names name (grows.names name) has;
  classes = λ interface has. still_there old.classes new.classes interface (grows.classes interface) has;
}

pub keeps_same : (lines others : List Line) (old new : CuttersValue) → firsts new.names ≡ firsts old.names → firsts new.classes ≡ firsts old.classes → KeepsKeys (with_lines lines old) (with_lines others new)
keeps_same lines others old new names classes = record {
  names = λ name has. subst (λ (keys : List ℕ). IsAbsent name keys → ⊥) (sym names) has;
  classes = λ interface has. subst (λ (keys : List Interface). IsAbsent interface keys → ⊥) (sym classes) has;
}
