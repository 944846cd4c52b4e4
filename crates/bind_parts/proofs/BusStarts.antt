-- How Start of the PCI bus driver begins, by what Supported answers.
use Rattle.std.proofs.Common.{◌≡◌, ℕ, Bool, true, false, not, nat_eq, List, [], refl, sym, ap, ◌∙◌}
use Rattle.std.specs.Prelude.{IfOk, Option, Some, None, is_some, Result, Ok, Err, if◌then◌else◌}
use Rattle.fw_types.specs.declared.event.Outcome.{Outcome}
use Rattle.fw_types.specs.declared.event.Outcome.TheVariants.{Value}
use Rattle.fw_types.specs.declared.memory.OutOfMemory.{OutOfMemory}
use Rattle.fw_types.specs.declared.status.Status.{Status}
use Rattle.fw_types.specs.declared.status.TheConstants.Status.{OUT_OF_RESOURCES, SUCCESS}
use Rattle.open_records.specs.declared.verdict.Verdict.{Verdict}
use Rattle.open_records.specs.declared.verdict.Verdict.TheVariants.{Add, Count, Already, Denied, MustDisconnect}
use Rattle.world_model.specs.World.{State}
use Rattle.world_model.specs.Boards.{root_bus}
use Rattle.driver_model.specs.Moves.{changed, opens_root, plain}
use Rattle.driver_model.specs.Level.{Level}
use Rattle.driver_model.specs.BusChildren.{is_root_full}
use Rattle.driver_model.specs.BusDriver.{after_children, bus_started, children_made, if_supported}
use Rattle.driver_model.specs.BusSupport.{chosen, chosen_on, functions_chosen, path_choice, refusal_by, root_verdict, support_status, unless_open}
use Rattle.driver_model.specs.declared.bus_driver.NewChild.{NewChild}
use Rattle.driver_model.specs.declared.bus_driver.PathChoice.{PathChoice}
use Rattle.driver_model.specs.declared.call.Scope.{Scope}

-- ---- what follows if Supported succeeds

pub record IsChosen (controller path : ℕ) (w : State) : Type 0 where
  pub bus : ℕ
  pub choice : PathChoice
  pub root : root_bus controller w ≡ Some bus
  pub path_is : path_choice path w.soft ≡ Some choice
  pub numbers : functions_chosen controller path w ≡ Ok (chosen choice bus w.hard.board.lines)

abbrev is_no_error : Status → Bool
is_no_error status = nat_eq status.0 0

by_refusal : (verdict : Verdict) (numbers : List ℕ) → support_status (unless_open (refusal_by verdict) numbers) ≡ SUCCESS → refusal_by verdict ≡ None
by_refusal Add numbers is = refl
by_refusal Count numbers is = refl
by_refusal Already numbers is = let wrong : false ≡ true = ap is_no_error is in absurd cc
by_refusal Denied numbers is = let wrong : false ≡ true = ap is_no_error is in absurd cc
by_refusal (MustDisconnect holder) numbers is = let wrong : false ≡ true = ap is_no_error is in absurd cc

by_parts : (controller path : ℕ) (w : State) (bus : Option ℕ) (choice : Option PathChoice) → root_bus controller w ≡ bus → path_choice path w.soft ≡ choice
    → support_status (chosen_on bus choice controller w) ≡ SUCCESS → IsChosen controller path w
unfolding functions_chosen
by_parts controller path w None choice root path_is is = let wrong : false ≡ true = ap is_no_error is in absurd cc
by_parts controller path w (Some bus) None root path_is is = let wrong : false ≡ true = ap is_no_error is in absurd cc
by_parts controller path w (Some bus) (Some choice) root path_is is = record {
  bus = bus;
  choice = choice;
  root = root;
  path_is = path_is;
  numbers =
      ap (λ (bus : Option ℕ). chosen_on bus (path_choice path w.soft) controller w) root
      ∙ ap (λ (choice : Option PathChoice). chosen_on (Some bus) choice controller w) path_is
      ∙ ap (λ (refusal : Option Status). unless_open refusal (chosen choice bus w.hard.board.lines)) (by_refusal (root_verdict controller w.soft) (chosen choice bus w.hard.board.lines) is);
}

pub is_chosen : (controller path : ℕ) (w : State) → support_status (functions_chosen controller path w) ≡ SUCCESS → IsChosen controller path w
unfolding functions_chosen
is_chosen controller path w is = by_parts controller path w (root_bus controller w) (path_choice path w.soft) refl refl is

pub some_root : (controller path : ℕ) (w : State) → IsChosen controller path w → is_some (root_bus controller w) ≡ true
some_root controller path w is = ap is_some is.root

pub some_path : (controller path : ℕ) (w : State) → IsChosen controller path w → is_some (path_choice path w.soft) ≡ true
some_path controller path w is = ap is_some is.path_is

-- ---- and what follows from any other answer

pub unsupported : (chosen : Result (List ℕ) Status) (status : Status) → support_status chosen ≡ status → nat_eq status.0 SUCCESS.0 ≡ false → chosen ≡ Err status
unsupported (Ok numbers) status is other =
    let wrong : true ≡ false = ap is_no_error is ∙ other in
    absurd cc
unsupported (Err one) status is other = ap (λ (status : Status). Err status) is

module _ (b : Option (Level State)) (scope : Scope) (controller path : ℕ) (w : State) where
  pub started_unsupported : (status : Status) → functions_chosen controller path w ≡ Err status → bus_started plain b scope controller path w ≡ (Value status, w)
  unfolding bus_started
  started_unsupported status is = ap (λ (chosen : Result (List ℕ) Status). if_supported plain b scope controller chosen w) is

  pub started_full : (numbers : List ℕ) → functions_chosen controller path w ≡ Ok numbers → is_root_full controller w.soft ≡ true
      → bus_started plain b scope controller path w ≡ (Value OUT_OF_RESOURCES, w)
  unfolding bus_started
  started_full numbers is full = ap (λ (chosen : Result (List ℕ) Status). if_supported plain b scope controller chosen w) is ∙ rw full refl

  pub started_made : (numbers : List ℕ) (children : Result (List NewChild) Outcome) (opened v : State) → functions_chosen controller path w ≡ Ok numbers
      → is_root_full controller w.soft ≡ false → opened ≡ changed (opens_root controller) w → children_made plain controller numbers [] opened ≡ (children, v)
      → bus_started plain b scope controller path w ≡ after_children plain b scope (children, v)
  unfolding bus_started
  started_made numbers children opened v is room opens makes =
      ap (λ (chosen : Result (List ℕ) Status). if_supported plain b scope controller chosen w) is
      ∙ rw room (ap (λ (opened : State). after_children plain b scope (children_made plain controller numbers [] opened)) (sym opens))
      ∙ ap (λ (r : Result (List NewChild) Outcome × State). after_children plain b scope r) makes

-- ---- a live handle

pub dead_by : (live : Bool) (number : ℕ) (found : Option ℕ) → found ≡ (if live then Some number else None) → found ≡ None → live ≡ false
dead_by false number found is none = refl
dead_by true number found is none = absurd cc

pub same_by : (live : Bool) (number handle : ℕ) (found : Option ℕ) → found ≡ (if live then Some number else None) → found ≡ Some handle → number ≡ handle
same_by false number handle found is some = absurd cc
same_by true number handle found is some = cc

pub refused : (success unequal : Bool) → unequal ≡ not success → unequal ≡ true → success ≡ false
refused true unequal is other = absurd cc
refused false unequal is other = refl

-- ---- one fact about an answer from another

pub each_ok : {A : Type 0} (result : Result A OutOfMemory) (P Q : A → Type 0) → ((a : A) → P a → Q a) → IfOk result P → IfOk result Q
each_ok (Ok a) P Q f is = f a is
each_ok (Err error) P Q f is = tt
