-- How several uninstalls go on after one of them.
use Rattle.std.proofs.Common.{◌≡◌, ℕ, zero, suc, ◌+◌, ◌-◌, ◌<◌, ◌≤◌, Bool, true, false, not, nat_eq, List, [], ◌∷◌, length, take, drop, refl, sym, ap, subst, ◌∙◌, arith}
use Rattle.std.specs.Prelude.{Option, slice_index_or}
use Rattle.std.proofs.lemmas.List.{drop_all, length-drop, take_all}
use Rattle.fw_types.specs.declared.status.Status.{Status}
use Rattle.fw_types.specs.declared.status.TheConstants.Status.{ACCESS_DENIED, NOT_FOUND, SUCCESS}
use Rattle.world_model.specs.World.{State}
use Rattle.world_model.specs.Kept.{IsKept}
use Rattle.service_model.specs.declared.call.HandleInterface.{HandleInterface}
use Rattle.driver_model.specs.Moves.{plain}
use Rattle.driver_model.specs.Level.{Level}
use Rattle.driver_model.specs.EarlyRefusal.{IsRefused, LateRefusalsChangeTheSoftPartAlone, refused_early}
use Rattle.driver_model.specs.UninstallWithReconnection.{after_release, each_uninstalled, if_uninstalled, interface_on, is_first_there, is_kept_from, manager_on, released, uninstalled}
use Rattle.driver_model.specs.declared.call.Scope.{Scope}
use Rattle.driver_model.specs.declared.request.Remover.{Remover}
use Rattle.driver_model.specs.declared.request.Remover.TheVariants.{ADriver}
use Rattle.driver_model.specs.declared.settings.Settings.{Settings}
use Rattle.engine.specs.Outcomes.{IsFirstStep, IsOutcome}
use Rattle.bind_parts.proofs.Lists.{next_is}

-- ---- whether one succeeded

pub succeeded : (success unequal : Bool) → unequal ≡ not success → unequal ≡ false → success ≡ true
succeeded true unequal is equal = refl
succeeded false unequal is equal = absurd cc

pub refused : (success unequal : Bool) → unequal ≡ not success → unequal ≡ true → success ≡ false
refused true unequal is other = absurd cc
refused false unequal is other = refl

-- ---- the next one, and the end

module _ (s : Settings) (b : Option (Level State)) (scope : Scope) (remover : Remover) (interfaces : List HandleInterface) (k : ℕ) (i : HandleInterface) (w v : State) (status : Status) where
  each_first : (rest : List HandleInterface) → each_uninstalled plain s b scope remover (i ∷ rest) w ≡ if_uninstalled plain (each_uninstalled plain s b scope remover rest) (uninstalled plain s b scope remover i w)
  unfolding each_uninstalled
  each_first rest = refl

  each_by : k < length interfaces → i ≡ slice_index_or interfaces k i → uninstalled plain s b scope remover i w ≡ (status, v)
      → each_uninstalled plain s b scope remover (drop k interfaces) w ≡ if_uninstalled plain (each_uninstalled plain s b scope remover (drop (k + 1) interfaces)) (status, v)
  each_by lt item is =
      ap (λ (list : List HandleInterface). each_uninstalled plain s b scope remover list w) (next_is interfaces k i lt item)
      ∙ each_first (drop (k + 1) interfaces)
      ∙ ap (if_uninstalled plain (each_uninstalled plain s b scope remover (drop (k + 1) interfaces))) is

  pub each_next : k < length interfaces → i ≡ slice_index_or interfaces k i → uninstalled plain s b scope remover i w ≡ (status, v) → nat_eq status.0 SUCCESS.0 ≡ true
      → each_uninstalled plain s b scope remover (drop k interfaces) w ≡ each_uninstalled plain s b scope remover (drop (k + 1) interfaces) v
  each_next lt item is well = each_by lt item is ∙ rw well refl

  pub each_ends : k < length interfaces → i ≡ slice_index_or interfaces k i → uninstalled plain s b scope remover i w ≡ (status, v) → nat_eq status.0 SUCCESS.0 ≡ false
      → each_uninstalled plain s b scope remover (drop k interfaces) w ≡ (false, v)
  each_ends lt item is ill = each_by lt item is ∙ rw ill refl

pub each_all : (s : Settings) (b : Option (Level State)) (scope : Scope) (remover : Remover) (interfaces : List HandleInterface) (k : ℕ) (w : State) → length interfaces ≤ k
    → each_uninstalled plain s b scope remover (drop k interfaces) w ≡ (true, w)
unfolding each_uninstalled
each_all s b scope remover interfaces k w le = rw (drop_all k interfaces le) refl

-- ---- the first of several, if a refusal of a later one counts already

-- those from a place on
pub from_place : {A : Type 0} (k : ℕ) (xs : List A) → take (length xs - k) (drop k xs) ≡ drop k xs
from_place k xs = take_all (length xs - k) (drop k xs) (omega (arith, length-drop k xs))

-- those after that place
pub after_place : {A : Type 0} (k : ℕ) (xs : List A) → drop 1 (take (length xs - k) (drop k xs)) ≡ drop (k + 1) xs
after_place k xs =
    let next : suc k ≡ k + 1 = omega arith in
    ap (drop 1) (from_place k xs) ∙ drop_next k xs ∙ ap (λ (n : ℕ). drop n xs) next
  where
    drop_next : {A : Type 0} (k : ℕ) (xs : List A) → drop 1 (drop k xs) ≡ drop (suc k) xs
    drop_next zero xs = refl
    drop_next (suc k) [] = refl
    drop_next (suc k) (x ∷ xs) = drop_next k xs

module _ (s : Settings) (b : Option (Level State)) (scope : Scope) (interfaces : List HandleInterface) (i : HandleInterface) (w : State) (some : 0 < length interfaces) (item : i ≡ slice_index_or interfaces 0 i) where
  abbrev each : List HandleInterface → State → Bool × State
  each = each_uninstalled plain s b scope ADriver

  each_of : (r : Status × State) → uninstalled plain s b scope ADriver i w ≡ r → each interfaces w ≡ if_uninstalled plain (each (drop 1 interfaces)) r
  each_of r is =
      ap (λ (list : List HandleInterface). each list w) (next_is interfaces 0 i some item)
      ∙ each_first s b scope ADriver interfaces 0 i w w SUCCESS (drop 1 interfaces)
      ∙ ap (if_uninstalled plain (each (drop 1 interfaces))) is

  ended : (last : Status) (v : State) → uninstalled plain s b scope ADriver i w ≡ (last, v) → nat_eq last.0 SUCCESS.0 ≡ false → IsFirstStep false v each interfaces w
  ended last v is ill = record {
    goes_on = λ gone. absurd cc;
    ends = λ stays. (let all : each interfaces w ≡ (false, v) = each_of (last, v) is ∙ rw ill refl in record { answer = ap (λ (r : Bool × State). r.0) all; hard = ap (λ (r : Bool × State). r.1.hard) all });
  }

  -- it is not there
  pub absent_first : is_first_there ADriver i.interface (interface_on i w.soft) ≡ false → IsFirstStep false w each interfaces w
  unfolding uninstalled
  absent_first is = ended NOT_FOUND w (rw is refl) refl

  -- it is the firmware's
  pub kept_first : is_first_there ADriver i.interface (interface_on i w.soft) ≡ true → is_kept_from ADriver (interface_on i w.soft) ≡ true → IsFirstStep false w each interfaces w
  unfolding uninstalled
  kept_first there is = ended ACCESS_DENIED w (rw (there, is) refl) refl

  module _ (v : State) (status : Status) (there : is_first_there ADriver i.interface (interface_on i w.soft) ≡ true) (free : is_kept_from ADriver (interface_on i w.soft) ≡ false) (release : released plain b scope i (manager_on i w.soft) w ≡ (status, v)) where
    going_on : uninstalled plain s b scope ADriver i w ≡ after_release plain s b scope ADriver i (status, v)
    unfolding uninstalled
    going_on = rw (there, free) (ap (after_release plain s b scope ADriver i) release)

    -- one of them is refused for certain
    pub refused_later : LateRefusalsChangeTheSoftPartAlone → IsKept v.soft → refused_early interfaces v.soft ≡ true → IsFirstStep false v each interfaces w
    refused_later law kept is =
        let list : interfaces ≡ i ∷ drop 1 interfaces = next_is interfaces 0 i some item in
        let certain = law s b scope i (drop 1 interfaces) status v kept (subst (λ (all : List HandleInterface). refused_early all v.soft ≡ true) list is) in
        let all : each interfaces w ≡ if_uninstalled plain (each (drop 1 interfaces)) (after_release plain s b scope ADriver i (status, v)) = each_of (after_release plain s b scope ADriver i (status, v)) going_on in
        record {
          goes_on = λ gone. absurd cc;
          ends = λ stays. subst (IsRefused v.hard) (sym all) certain;
        }

    -- it is uninstalled, or refused itself
    pub uninstalled_first : (last : Status) (u : State) (success : Bool) → after_release plain s b scope ADriver i (status, v) ≡ (last, u) → success ≡ nat_eq last.0 SUCCESS.0 → IsFirstStep success u each interfaces w
    uninstalled_first last u true is well = record {
      goes_on = λ gone. each_of (last, u) (going_on ∙ is) ∙ rw (← well) refl;
      ends = λ stays. absurd cc;
    }
    uninstalled_first last u false is ill = ended last u (going_on ∙ is) (sym ill)

-- all went
pub all_went : (r : Bool × State) (w : State) → r ≡ (true, w) → IsOutcome true w r
all_went r w is = record {
  answer = ap (λ (o : Bool × State). o.0) is;
  hard = ap (λ (o : Bool × State). o.1.hard) is;
  soft = λ all. ap (λ (o : Bool × State). o.1) is;
}
