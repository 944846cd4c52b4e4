-- The bindings of handles: each has its handle, every handle with one is there, and they rise.
use Rattle.std.proofs.Common.{◌≡◌, ◌<◌, ◌≤◌, ℕ, ◌+◌, Bool, true, false, ◌&&◌, ◌||◌, nat_eq, nat_le, List, [], ◌∷◌, refl, ap, sym, subst, if◌then◌else◌, arith}
use Rattle.std.specs.Prelude.{Option, Some, None, filter, find, option_map}
use Rattle.std.specs.List.{cons_option, list_all, list_any}
use Rattle.std.proofs.lemmas.Bool.{and_from, and_parts, or_left, or_right}
use Rattle.std.proofs.lemmas.Bool.Decides.{nat_tests}
use Rattle.fw_types.specs.Guid.{known_guid}
use Rattle.fw_types.specs.declared.guid.Known.TheVariants.{DriverBinding}
use Rattle.guest_memory.specs.GuestMemory.{bytes_of, is_readable}
use Rattle.handle_db.specs.Database.{handles_with, has_guid, interface_of, interfaces_in, interfaces_of, is_guid, numbers, rise_from}
use Rattle.handle_db.specs.Database.{is_handle as is_entry_of}
use Rattle.handle_db.specs.declared.handle_entry.HandleEntry.{HandleEntry}
use Rattle.handle_db.specs.declared.handle_entry.Interface.{Interface}
use Rattle.world_model.specs.World.{Soft}
use Rattle.driver_model.specs.Bindings.{all_bindings, binding, binding_at, bindings_of, block_of}
use Rattle.driver_model.specs.OrderLaws.{BindingsRise, has_handle_above, is_by_handle, is_handle}
use Rattle.driver_model.specs.declared.binding.BindingBlock.{BindingBlock}
use Rattle.driver_model.specs.declared.binding.TheConstants.{BINDING_SIZE}

-- ---- a binding has its handle

handle-binding_at : (handle : ℕ) (interface : Option (ℕ × ℕ)) (soft : Soft) (block : BindingBlock) → binding_at handle interface soft ≡ Some block → block.handle ≡ handle
handle-binding_at handle None soft block is = absurd cc
handle-binding_at handle (Some interface) soft block is = by_test (is_readable soft.memory interface.0 BINDING_SIZE) is
  where
    by_test : (readable : Bool) → (if readable then Some (block_of handle interface.0 (bytes_of soft.memory interface.0 BINDING_SIZE)) else None) ≡ Some block → block.handle ≡ handle
    by_test true is =
        let same : block_of handle interface.0 (bytes_of soft.memory interface.0 BINDING_SIZE) ≡ block = cc in
        sym (ap (λ (b : BindingBlock). b.handle) same)
    by_test false is = absurd cc

pub handle-binding : (handle : ℕ) (soft : Soft) (block : BindingBlock) → binding handle soft ≡ Some block → block.handle ≡ handle
handle-binding handle soft block is = handle-binding_at handle (interface_of handle (known_guid DriverBinding) soft.database) soft block is

-- ---- a handle that has a binding is among those with the protocol

list_any-from_find : {A : Type 0} (test : A → Bool) (xs : List A) (x : A) → find test xs ≡ Some x → list_any test xs ≡ true
list_any-from_find test [] x is = absurd cc
list_any-from_find {A} test (first ∷ xs) x is = by_test (test first) is (list_any-from_find test xs x)
  where
    by_test : (here : Bool) → (if here then Some first else find test xs) ≡ Some x → (find test xs ≡ Some x → list_any test xs ≡ true) → (here || list_any test xs) ≡ true
    by_test true is later = refl
    by_test false is later = later is

among-numbers : (handle : ℕ) (guid : List ℕ) (one : Interface) (entries : List HandleEntry)
    → find (is_guid guid) (interfaces_in (find (is_entry_of handle) entries)) ≡ Some one → list_any (nat_eq handle) (numbers (filter (has_guid guid) entries)) ≡ true
among-numbers handle guid one [] is = absurd cc
among-numbers handle guid one (entry ∷ entries) is = by_test (nat_eq entry.handle handle) refl is (among-numbers handle guid one entries)
  where
    by_own : (has : Bool) → nat_eq entry.handle handle ≡ true → has ≡ true → list_any (nat_eq handle) (numbers (if has then entry ∷ filter (has_guid guid) entries else filter (has_guid guid) entries)) ≡ true
    by_own true same has =
        let here : nat_eq handle entry.handle ≡ true = grind (arith, nat_tests) in
        or_left (nat_eq handle entry.handle) (list_any (nat_eq handle) (numbers (filter (has_guid guid) entries))) here
    by_own false same has = absurd cc

    by_others : (has : Bool) → list_any (nat_eq handle) (numbers (filter (has_guid guid) entries)) ≡ true
        → list_any (nat_eq handle) (numbers (if has then entry ∷ filter (has_guid guid) entries else filter (has_guid guid) entries)) ≡ true
    by_others true later = or_right (nat_eq handle entry.handle) (list_any (nat_eq handle) (numbers (filter (has_guid guid) entries))) later
    by_others false later = later

    by_test : (here : Bool) → nat_eq entry.handle handle ≡ here → find (is_guid guid) (interfaces_in (if here then Some entry else find (is_entry_of handle) entries)) ≡ Some one
        → (find (is_guid guid) (interfaces_in (find (is_entry_of handle) entries)) ≡ Some one → list_any (nat_eq handle) (numbers (filter (has_guid guid) entries)) ≡ true)
        → list_any (nat_eq handle) (numbers (filter (has_guid guid) (entry ∷ entries))) ≡ true
    by_test true same is later = by_own (has_guid guid entry) same (list_any-from_find (is_guid guid) entry.interfaces one is)
    by_test false same is later = by_others (has_guid guid entry) (later is)

-- what is found is put before the rest
first-cons_option : (handle : ℕ) (found : Option BindingBlock) (block : BindingBlock) (rest : List BindingBlock) → found ≡ Some block → block.handle ≡ handle
    → list_any (is_handle handle) (cons_option found rest) ≡ true
first-cons_option handle None block rest is same = absurd cc
first-cons_option handle (Some other) block rest is same =
    let equal : other ≡ block = cc in
    let here : is_handle handle other ≡ true = rw equal (grind (arith, nat_tests)) in
    or_left (is_handle handle other) (list_any (is_handle handle) rest) here

later-cons_option : (handle : ℕ) (found : Option BindingBlock) (rest : List BindingBlock) → list_any (is_handle handle) rest ≡ true → list_any (is_handle handle) (cons_option found rest) ≡ true
later-cons_option handle None rest later = later
later-cons_option handle (Some other) rest later = or_right (is_handle handle other) (list_any (is_handle handle) rest) later

-- the binding of a handle is there if the handle is
among-bindings_of : (handle : ℕ) (soft : Soft) (block : BindingBlock) (handles : List ℕ) → binding handle soft ≡ Some block → list_any (nat_eq handle) handles ≡ true
    → list_any (is_handle handle) (bindings_of handles soft) ≡ true
among-bindings_of handle soft block [] is there = absurd cc
among-bindings_of handle soft block (number ∷ handles) is there = by_test (nat_eq handle number) refl there (among-bindings_of handle soft block handles is)
  where
    by_test : (here : Bool) → nat_eq handle number ≡ here → (here || list_any (nat_eq handle) handles) ≡ true
        → (list_any (nat_eq handle) handles ≡ true → list_any (is_handle handle) (bindings_of handles soft) ≡ true)
        → list_any (is_handle handle) (cons_option (binding number soft) (bindings_of handles soft)) ≡ true
    by_test true same there later =
        let equal : number ≡ handle = grind (arith, nat_tests) in
        first-cons_option handle (binding number soft) block (bindings_of handles soft) (subst (λ (n : ℕ). binding n soft ≡ Some block) (sym equal) is) (handle-binding handle soft block is)
    by_test false same there later = later-cons_option handle (binding number soft) (bindings_of handles soft) (later there)

among-handles_with : (handle : ℕ) (soft : Soft) (block : BindingBlock) (found : Option Interface)
    → find (is_guid (known_guid DriverBinding)) (interfaces_of handle soft.database) ≡ found
    → binding_at handle (option_map (λ (one : Interface). (one.interface, one.owner)) found) soft ≡ Some block
    → list_any (nat_eq handle) (handles_with (Some (known_guid DriverBinding)) soft.database) ≡ true
among-handles_with handle soft block None finds is = absurd cc
among-handles_with handle soft block (Some one) finds is = among-numbers handle (known_guid DriverBinding) one soft.database.handles finds

pub among-all_bindings : (handle : ℕ) (soft : Soft) (block : BindingBlock) → binding handle soft ≡ Some block → list_any (is_handle handle) (all_bindings soft) ≡ true
among-all_bindings handle soft block is =
    among-bindings_of handle soft block (handles_with (Some (known_guid DriverBinding)) soft.database) is
    (among-handles_with handle soft block (find (is_guid (known_guid DriverBinding)) (interfaces_of handle soft.database)) refl is)

-- ---- all bindings go by rising handle

-- whether numbers rise strictly, from a number on
abbrev numbers_rise : ℕ → List ℕ → Bool
numbers_rise low [] = true
numbers_rise low (number ∷ numbers) = nat_le low number && numbers_rise (number + 1) numbers

numbers_rise-lower : (low high : ℕ) (handles : List ℕ) → low ≤ high → numbers_rise high handles ≡ true → numbers_rise low handles ≡ true
numbers_rise-lower low high [] le rises = refl
numbers_rise-lower low high (number ∷ handles) le rises =
    let parts = and_parts (nat_le high number) (numbers_rise (number + 1) handles) rises in
    let first = parts.0 in
    and_from (nat_le low number) (numbers_rise (number + 1) handles) (grind (arith, nat_tests, first, le)) parts.1

numbers_rise-filter : (test : HandleEntry → Bool) (low : ℕ) (entries : List HandleEntry) → rise_from low entries ≡ true → numbers_rise low (numbers (filter test entries)) ≡ true
numbers_rise-filter test low [] rises = refl
numbers_rise-filter test low (entry ∷ entries) rises =
    let parts = and_parts (nat_le low entry.handle) (rise_from (entry.handle + 1) entries) rises in
    by_test (test entry) parts.0 (numbers_rise-filter test (entry.handle + 1) entries parts.1)
  where
    by_test : (kept : Bool) → nat_le low entry.handle ≡ true → numbers_rise (entry.handle + 1) (numbers (filter test entries)) ≡ true
        → numbers_rise low (numbers (if kept then entry ∷ filter test entries else filter test entries)) ≡ true
    by_test true first later = and_from (nat_le low entry.handle) (numbers_rise (entry.handle + 1) (numbers (filter test entries))) first later
    by_test false first later =
        let le : low ≤ entry.handle + 1 = grind (arith, nat_tests) in
        numbers_rise-lower low (entry.handle + 1) (numbers (filter test entries)) le later

above-bindings_of : (low : ℕ) (soft : Soft) (handles : List ℕ) (next : ℕ) → low < next → numbers_rise next handles ≡ true → list_all (has_handle_above low) (bindings_of handles soft) ≡ true
above-bindings_of low soft [] next lt rises = refl
above-bindings_of low soft (number ∷ handles) next lt rises =
    let parts = and_parts (nat_le next number) (numbers_rise (number + 1) handles) rises in
    let first = parts.0 in
    let above : low < number = grind (arith, nat_tests, first, lt) in
    by_binding (binding number soft) (handle-binding number soft) above (above-bindings_of low soft handles (number + 1) (omega (arith, above)) parts.1)
  where
    by_binding : (found : Option BindingBlock) → ((block : BindingBlock) → found ≡ Some block → block.handle ≡ number) → low < number
        → list_all (has_handle_above low) (bindings_of handles soft) ≡ true → list_all (has_handle_above low) (cons_option found (bindings_of handles soft)) ≡ true
    by_binding None same above later = later
    by_binding (Some block) same above later =
        let its : block.handle ≡ number = same block refl in
        and_from (has_handle_above low block) (list_all (has_handle_above low) (bindings_of handles soft)) (grind (arith, nat_tests, its, above)) later

rise-bindings_of : (soft : Soft) (handles : List ℕ) (low : ℕ) → numbers_rise low handles ≡ true → is_by_handle (bindings_of handles soft) ≡ true
rise-bindings_of soft [] low rises = refl
rise-bindings_of soft (number ∷ handles) low rises =
    let parts = and_parts (nat_le low number) (numbers_rise (number + 1) handles) rises in
    by_binding (binding number soft) (handle-binding number soft) parts.1 (rise-bindings_of soft handles (number + 1) parts.1)
  where
    by_binding : (found : Option BindingBlock) → ((block : BindingBlock) → found ≡ Some block → block.handle ≡ number) → numbers_rise (number + 1) handles ≡ true
        → is_by_handle (bindings_of handles soft) ≡ true → is_by_handle (cons_option found (bindings_of handles soft)) ≡ true
    by_binding None same rest later = later
    by_binding (Some block) same rest later =
        let its : block.handle ≡ number = same block refl in
        and_from (list_all (has_handle_above block.handle) (bindings_of handles soft)) (is_by_handle (bindings_of handles soft))
        (above-bindings_of block.handle soft handles (number + 1) (omega (arith, its)) rest) later

pub rise-law : BindingsRise
rise-law soft kept =
    rise-bindings_of soft (handles_with (Some (known_guid DriverBinding)) soft.database) 1
    (numbers_rise-filter (has_guid (known_guid DriverBinding)) 1 soft.database.handles kept.database.sound.rising)
