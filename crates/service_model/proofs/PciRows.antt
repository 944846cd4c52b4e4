-- What the rows of PCI I/O end with, and why they trap.
use Rattle.std.proofs.Common.{◌≡◌, ℕ, ◌+◌, ◌*◌, Bool, true, false, ◌&&◌, ◌||◌, not, nat_eq, nat_le, nat_lt, List, length, refl, arith}
use Rattle.std.specs.Prelude.{Option, Some, None, is_ok, ok_or, Result, Ok, Err, if◌then◌else◌}
use Rattle.std.specs.Int.Bits.{bit_and}
use Rattle.std.proofs.lemmas.Bool.{and_from}
use Rattle.std.proofs.lemmas.Bool.Decides.{nat_tests}
use Rattle.fw_types.specs.declared.status.TheConstants.Status.{INVALID_PARAMETER, SUCCESS, UNSUPPORTED}
use Rattle.guest_memory.specs.GuestMemory.{is_readable, is_writable_range}
use Rattle.pci_model.specs.BoardLines.{location_of}
use Rattle.pci_model.specs.Devices.{config_read}
use Rattle.pci_model.specs.Spaces.{has_range, space_of}
use Rattle.pci_model.specs.declared.refusal.DevRefusal.{DevRefusal}
use Rattle.pci_model.specs.declared.space.Space.{Space}
use Rattle.world_model.specs.World.{State}
use Rattle.world_model.specs.BusChildren.{pci_at}
use Rattle.service_model.specs.Words.{◌>>=◌, null, readable, refuse_if, writable}
use Rattle.service_model.specs.PciIo.{answered, attributes, attributes_after, attributes_in, attributes_now, change_attributes, command, device_space, element_size, function_at, get_location, in_device, location, read_device, store_attributes, transfer, with_attributes, write_device}
use Rattle.service_model.specs.declared.numbers.TheConstants.{ALL_ATTRIBUTES, ATTRIBUTES_GET, ATTRIBUTES_SUPPORTED, COMMAND, LAST_BUILT_WIDTH, LAST_WIDTH}
use Rattle.service_model.specs.declared.plan.Change.{Change}
use Rattle.service_model.specs.declared.plan.Change.TheVariants.{ReadDevice, SetCommand, Store, StoreLocation, WriteDevice}
use Rattle.service_model.specs.declared.plan.Stop.{Stop}
use Rattle.service_model.specs.declared.plan.Stop.TheVariants.{Status}
use Rattle.service_model.proofs.ChangeSorts.{Fine, FineOnBoard, can-read, can-write}
use Rattle.service_model.proofs.RowLines.{Says, TrapsByMemory, not-refused, says-after, says-end, says-found, says-if, traps-after, traps-end, traps-found, traps-if, traps-memory, traps-missing, traps-status}

-- ---- what they end with

-- bytes that lie in a device
in-range : (function : ℕ) (space : Space) (at n : ℕ) (w : State) → in_device function space at n w ≡ Ok tt → has_range (space_of w.hard.board function space) (at + n) ≡ true
in-range function space at n w is = by_space (space_of w.hard.board function space) is
  where
    by_space : (found : Option (List ℕ)) → (ok_or found (Status UNSUPPORTED) >>= λ bytes. refuse_if (nat_lt (length bytes) (at + n)) UNSUPPORTED) ≡ Ok tt → has_range found (at + n) ≡ true
    by_space None is = absurd cc
    by_space (Some bytes) is =
        let within : nat_lt (length bytes) (at + n) ≡ false = not-refused (nat_lt (length bytes) (at + n)) UNSUPPORTED is in
        grind (arith, nat_tests, within)

pub read-fine : (this width : ℕ) (space : Space) (at count buffer : ℕ) (w : State) → Says (Fine w) (read_device this width space at count buffer w)
read-fine this width space at count buffer w =
    says-found (Fine w) (function_at this w) _ (λ function is.
    says-after (Fine w) (refuse_if (null buffer) INVALID_PARAMETER) _ (λ some.
    says-found (Fine w) (element_size width) _ (λ size built.
    says-after (Fine w) (writable (count * size) buffer w) _ (λ can.
    says-after (Fine w) (in_device function space at (count * size) w) _ (λ within.
    says-end (Fine w) (ReadDevice (transfer function space at (count * size) buffer)) (
      and_from (is_writable_range w.soft.memory buffer (count * size)) (has_range (space_of w.hard.board function space) (at + count * size))
          (can-write (count * size) buffer w can) (in-range function space at (count * size) w within),
      refl,
      refl,
    ))))))

pub write-fine : (this width : ℕ) (space : Space) (at count buffer : ℕ) (w : State) → Says (FineOnBoard w) (write_device this width space at count buffer w)
write-fine this width space at count buffer w =
    says-found (FineOnBoard w) (function_at this w) _ (λ function is.
    says-after (FineOnBoard w) (refuse_if (null buffer) INVALID_PARAMETER) _ (λ some.
    says-found (FineOnBoard w) (element_size width) _ (λ size built.
    says-after (FineOnBoard w) (readable (count * size) buffer w) _ (λ can.
    says-after (FineOnBoard w) (in_device function space at (count * size) w) _ (λ within.
    says-end (FineOnBoard w) (WriteDevice (transfer function space at (count * size) buffer)) (
      and_from (is_readable w.soft.memory buffer (count * size)) (has_range (space_of w.hard.board function space) (at + count * size))
          (can-read (count * size) buffer w can) (in-range function space at (count * size) w within),
      refl,
      refl,
    ))))))

four : (a b c d : Bool) → a ≡ true → b ≡ true → c ≡ true → d ≡ true → (a && (b && (c && d))) ≡ true
four a b c d p q r s = rw (p, q, r, s) refl

pub location-fine : (this segment bus device function : ℕ) (w : State) → Says (Fine w) (get_location this segment bus device function w)
location-fine this segment bus device function w =
    says-found (Fine w) (function_at this w) _ (λ number is.
    says-after (Fine w) (refuse_if (null segment || null bus || null device || null function) INVALID_PARAMETER) _ (λ some.
    says-after (Fine w) (writable 8 segment w) _ (λ one.
    says-after (Fine w) (writable 8 bus w) _ (λ two.
    says-after (Fine w) (writable 8 device w) _ (λ three.
    says-after (Fine w) (writable 8 function w) _ (λ last.
    says-found (Fine w) (location number w) _ (λ at there.
    says-end (Fine w) (StoreLocation segment bus device function at) (
      four (is_writable_range w.soft.memory segment 8) (is_writable_range w.soft.memory bus 8) (is_writable_range w.soft.memory device 8) (is_writable_range w.soft.memory function 8)
          (can-write 8 segment w one) (can-write 8 bus w two) (can-write 8 device w three) (can-write 8 function w last),
      refl,
      refl,
    ))))))))

-- a command register that was read is there
command-there : (function value : ℕ) (w : State) → command function w ≡ Ok value → is_ok (config_read w.hard.board function COMMAND 2) ≡ true
command-there function value w is = by_answer (config_read w.hard.board function COMMAND 2) is
  where
    by_answer : (answer : Result ℕ DevRefusal) → answered answer ≡ Ok value → is_ok answer ≡ true
    by_answer (Ok found) is = refl
    by_answer (Err refusal) is = absurd cc

store-fine : (out : ℕ) (bits : Result ℕ Stop) (w : State) → Says (FineOnBoard w) (store_attributes out bits w)
store-fine out bits w =
    says-after (FineOnBoard w) (refuse_if (null out) INVALID_PARAMETER) _ (λ some.
    says-after (FineOnBoard w) (writable 8 out w) _ (λ can.
    says-found (FineOnBoard w) bits _ (λ value is.
    says-end (FineOnBoard w) (Store (Some out) value SUCCESS) (can-write 8 out w can, refl, refl))))

change-fine : (function operation bits : ℕ) (w : State) → Says (FineOnBoard w) (change_attributes function operation bits w)
change-fine function operation bits w =
    says-after (FineOnBoard w) (refuse_if (not (nat_eq (bit_and bits ALL_ATTRIBUTES) bits)) UNSUPPORTED) _ (λ supported.
    says-found (FineOnBoard w) (command function w) _ (λ value is.
    says-end (FineOnBoard w) (SetCommand function (with_attributes (attributes_after operation bits (attributes_in value)) value))
    (command-there function value w is, refl, refl)))

pub attributes-fine : (this operation bits out : ℕ) (w : State) → Says (FineOnBoard w) (attributes this operation bits out w)
attributes-fine this operation bits out w =
    says-found (FineOnBoard w) (function_at this w) _ (λ function is.
    says-after (FineOnBoard w) (refuse_if (nat_lt ATTRIBUTES_SUPPORTED operation) INVALID_PARAMETER) _ (λ known.
    says-if (FineOnBoard w) (nat_eq operation ATTRIBUTES_GET) _ _
    (λ gets. store-fine out (attributes_now function w) w)
    (λ other. says-if (FineOnBoard w) (nat_eq operation ATTRIBUTES_SUPPORTED) _ _
    (λ asks. store-fine out (Ok ALL_ATTRIBUTES) w)
    (λ changes. change-fine function operation bits w))))

-- ---- why they trap

refuse-traps : (test : Bool) → TrapsByMemory (refuse_if test INVALID_PARAMETER)
refuse-traps test = traps-if test (Err (Status INVALID_PARAMETER)) (Ok tt) (traps-status INVALID_PARAMETER) (traps-end tt)

unsupported-traps : (test : Bool) → TrapsByMemory (refuse_if test UNSUPPORTED)
unsupported-traps test = traps-if test (Err (Status UNSUPPORTED)) (Ok tt) (traps-status UNSUPPORTED) (traps-end tt)

writable-traps : (n at : ℕ) (w : State) → TrapsByMemory (writable n at w)
writable-traps n at w = traps-if (is_writable_range w.soft.memory at n) _ _ (traps-end tt) traps-memory

readable-traps : (n at : ℕ) (w : State) → TrapsByMemory (readable n at w)
readable-traps n at w = traps-if (is_readable w.soft.memory at n) _ _ (traps-end tt) traps-memory

function-traps : (this : ℕ) (w : State) → TrapsByMemory (function_at this w)
function-traps this w = traps-missing (pci_at this w.soft) INVALID_PARAMETER

size-traps : (width : ℕ) → TrapsByMemory (element_size width)
size-traps width =
    traps-if (nat_lt LAST_WIDTH width) _ _ (traps-status INVALID_PARAMETER)
    (traps-if (nat_lt LAST_BUILT_WIDTH width) _ _ (traps-status UNSUPPORTED) (traps-end _))

device-traps : (function : ℕ) (space : Space) (at n : ℕ) (w : State) → TrapsByMemory (in_device function space at n w)
device-traps function space at n w =
    traps-found (device_space function space w) _ (traps-missing (space_of w.hard.board function space) UNSUPPORTED) (λ bytes. unsupported-traps (nat_lt (length bytes) (at + n)))

pub read-traps : (this width : ℕ) (space : Space) (at count buffer : ℕ) (w : State) → TrapsByMemory (read_device this width space at count buffer w)
read-traps this width space at count buffer w =
    traps-found (function_at this w) _ (function-traps this w) (λ function.
    traps-after (refuse_if (null buffer) INVALID_PARAMETER) _ (refuse-traps (null buffer))
    (traps-found (element_size width) _ (size-traps width) (λ size.
    traps-after (writable (count * size) buffer w) _ (writable-traps (count * size) buffer w)
    (traps-after (in_device function space at (count * size) w) _ (device-traps function space at (count * size) w)
    (traps-end (ReadDevice (transfer function space at (count * size) buffer)))))))

pub write-traps : (this width : ℕ) (space : Space) (at count buffer : ℕ) (w : State) → TrapsByMemory (write_device this width space at count buffer w)
write-traps this width space at count buffer w =
    traps-found (function_at this w) _ (function-traps this w) (λ function.
    traps-after (refuse_if (null buffer) INVALID_PARAMETER) _ (refuse-traps (null buffer))
    (traps-found (element_size width) _ (size-traps width) (λ size.
    traps-after (readable (count * size) buffer w) _ (readable-traps (count * size) buffer w)
    (traps-after (in_device function space at (count * size) w) _ (device-traps function space at (count * size) w)
    (traps-end (WriteDevice (transfer function space at (count * size) buffer)))))))

pub location-traps : (this segment bus device function : ℕ) (w : State) → TrapsByMemory (get_location this segment bus device function w)
location-traps this segment bus device function w =
    traps-found (function_at this w) _ (function-traps this w) (λ number.
    traps-after (refuse_if (null segment || null bus || null device || null function) INVALID_PARAMETER) _ (refuse-traps (null segment || null bus || null device || null function))
    (traps-after (writable 8 segment w) _ (writable-traps 8 segment w)
    (traps-after (writable 8 bus w) _ (writable-traps 8 bus w)
    (traps-after (writable 8 device w) _ (writable-traps 8 device w)
    (traps-after (writable 8 function w) _ (writable-traps 8 function w)
    (traps-found (location number w) _ (traps-missing (location_of w.hard.board.lines number) UNSUPPORTED) (λ at.
    traps-end (StoreLocation segment bus device function at))))))))

answered-traps : {A : Type 0} (answer : Result A DevRefusal) → TrapsByMemory (answered answer)
answered-traps (Ok value) = traps-end value
answered-traps (Err refusal) = traps-status UNSUPPORTED

command-traps : (function : ℕ) (w : State) → TrapsByMemory (command function w)
command-traps function w = answered-traps (config_read w.hard.board function COMMAND 2)

store-traps : (out : ℕ) (bits : Result ℕ Stop) (w : State) → TrapsByMemory bits → TrapsByMemory (store_attributes out bits w)
store-traps out bits w by =
    traps-after (refuse_if (null out) INVALID_PARAMETER) _ (refuse-traps (null out))
    (traps-after (writable 8 out w) _ (writable-traps 8 out w)
    (traps-found bits _ by (λ value. traps-end (Store (Some out) value SUCCESS))))

change-traps : (function operation bits : ℕ) (w : State) → TrapsByMemory (change_attributes function operation bits w)
change-traps function operation bits w =
    traps-after (refuse_if (not (nat_eq (bit_and bits ALL_ATTRIBUTES) bits)) UNSUPPORTED) _ (unsupported-traps (not (nat_eq (bit_and bits ALL_ATTRIBUTES) bits)))
    (traps-found (command function w) _ (command-traps function w) (λ value.
    traps-end (SetCommand function (with_attributes (attributes_after operation bits (attributes_in value)) value))))

pub attributes-traps : (this operation bits out : ℕ) (w : State) → TrapsByMemory (attributes this operation bits out w)
attributes-traps this operation bits out w =
    traps-found (function_at this w) _ (function-traps this w) (λ function.
    traps-after (refuse_if (nat_lt ATTRIBUTES_SUPPORTED operation) INVALID_PARAMETER) _ (refuse-traps (nat_lt ATTRIBUTES_SUPPORTED operation))
    (traps-if (nat_eq operation ATTRIBUTES_GET) _ _
    (store-traps out (attributes_now function w) w (traps-found (command function w) _ (command-traps function w) (λ value. traps-end (attributes_in value))))
    (traps-if (nat_eq operation ATTRIBUTES_SUPPORTED) _ _
    (store-traps out (Ok ALL_ATTRIBUTES) w (traps-end ALL_ATTRIBUTES))
    (change-traps function operation bits w))))
