-- Looking an address up among services at addresses 8 bytes apart.
use Rattle.std.proofs.Common.{◌≡◌, ◌≢◌, ℕ, zero, suc, ◌+◌, ◌-◌, ◌*◌, ◌%◌, Bool, true, false, not, cond, ◌&&◌, ◌||◌, nat_eq, nat_le, nat_lt, List, [], ◌∷◌, ◌++◌, length, Option, Some, None, is_some, refl, ap, sym, ◌∙◌, arith}
use Rattle.std.specs.List.{list_all, slice_get}
use Rattle.std.specs.Map.{lookup}
use Rattle.std.specs.Option.{option_or}
use Rattle.std.proofs.lemmas.Bool.{and_parts, eq-eqb, eqb-true, eqb-false, ne_eqb}
use Rattle.std.proofs.lemmas.Bool.Decides.{nat_tests}
use Rattle.service_thunks.specs.Placed.{by_place}
use Rattle.guest_memory.specs.declared.address_map.TheConstants.{BOOT_SERVICES, PCI_IO_FUNCTIONS}
use Rattle.service_thunks.specs.Services.{OneAddress, ServiceAddresses, with_addresses, addresses, boot_services, is_built, is_service_address, pci_io_functions, service_of}
use Rattle.service_thunks.specs.declared.service.Service.{Service}
use Rattle.service_thunks.specs.declared.service.Service.TheVariants.{RaiseTpl, RestoreTpl, AllocatePool, FreePool, Install, Uninstall, HandleProtocol, LocateHandle, Stall, ConnectController, DisconnectController, OpenProtocol, CloseProtocol, OpenProtocolInformation, ProtocolsPerHandle, LocateHandleBuffer, LocateProtocol, InstallMultiple, UninstallMultiple, CopyMem, SetMem, MemRead, MemWrite, PciRead, PciWrite, GetLocation, Attributes, Unbuilt}
use Rattle.service_thunks.specs.declared.addresses.TheConstants.{BOOT, PCI}

-- an address that is no place of theirs
pub by_place-none : (at from : ℕ) (services : List Service) → ((k : ℕ) → at ≢ from + 8 * k) → lookup (nat_eq at) (by_place from services) ≡ None
by_place-none at from [] none = refl
by_place-none at from (service ∷ services) none =
    let first : nat_eq at from ≡ false = ne_eqb at from (λ same. none 0 (omega arith)) in
    rw first (by_place-none at (from + 8) services (λ k same. none (suc k) (omega arith)))

-- the address of a place
pub by_place-some : (from k : ℕ) (at : ℕ) (services : List Service) → at ≡ from + 8 * k → lookup (nat_eq at) (by_place from services) ≡ slice_get services k
by_place-some from k at [] is = refl
by_place-some from zero at (service ∷ services) is = let here : nat_eq at from ≡ true = eq-eqb at from (omega arith) in rw here refl
by_place-some from (suc k) at (service ∷ services) is =
    let past : nat_eq at from ≡ false = ne_eqb at from (λ same. omega arith) in
    rw past (by_place-some (from + 8) k at services (omega arith))

lookup-append : (at : ℕ) (es fs : List (ℕ × Service)) → lookup (nat_eq at) (es ++ fs) ≡ option_or (lookup (nat_eq at) es) (lookup (nat_eq at) fs)
lookup-append at [] fs = refl
lookup-append at (e ∷ es) fs =
    elim (nat_eq at e.0) as (λ b. cond b (Some e.1) (lookup (nat_eq at) (es ++ fs)) ≡ option_or (cond b (Some e.1) (lookup (nat_eq at) es)) (lookup (nat_eq at) fs)) [
      | true ↦ refl
      | false ↦ lookup-append at es fs
    ]

-- the two tables, one after the other
pub service_by : (at : ℕ) → service_of at ≡ option_or (lookup (nat_eq at) (by_place 0x20018 BOOT)) (lookup (nat_eq at) (by_place 0x21000 PCI))
unfolding service_of
service_by at = lookup-append at (with_addresses BOOT_SERVICES boot_services) (with_addresses PCI_IO_FUNCTIONS pci_io_functions)

pub service_first : (at : ℕ) (s : Service) → Some s ≡ lookup (nat_eq at) (by_place 0x20018 BOOT) → Some s ≡ service_of at
service_first at s found = sym (service_by at ∙ ap (λ (first : Option Service). option_or first (lookup (nat_eq at) (by_place 0x21000 PCI))) (sym found))

pub service_second : (at : ℕ) → None ≡ lookup (nat_eq at) (by_place 0x20018 BOOT) → lookup (nat_eq at) (by_place 0x21000 PCI) ≡ service_of at
service_second at none = sym (service_by at ∙ ap (λ (first : Option Service). option_or first (lookup (nat_eq at) (by_place 0x21000 PCI))) (sym none))

-- ---- one address

-- the address of each service
home : Service → ℕ
home RaiseTpl = 0x20018
home RestoreTpl = 0x20020
home AllocatePool = 0x20040
home FreePool = 0x20048
home Install = 0x20080
home Uninstall = 0x20090
home HandleProtocol = 0x20098
home LocateHandle = 0x200b0
home Stall = 0x200f8
home ConnectController = 0x20108
home DisconnectController = 0x20110
home OpenProtocol = 0x20118
home CloseProtocol = 0x20120
home OpenProtocolInformation = 0x20128
home ProtocolsPerHandle = 0x20130
home LocateHandleBuffer = 0x20138
home LocateProtocol = 0x20140
home InstallMultiple = 0x20148
home UninstallMultiple = 0x20150
home CopyMem = 0x20160
home SetMem = 0x20168
home MemRead = 0x21010
home MemWrite = 0x21018
home PciRead = 0x21030
home PciWrite = 0x21038
home GetLocation = 0x21070
home Attributes = 0x21078
home Unbuilt = 0

is_home : ℕ × Service → Bool
is_home e = not (is_built e.1) || nat_eq (home e.1) e.0

-- an entry that is found passes a test that all entries pass
found_passes : (test : ℕ × Service → Bool) (at : ℕ) (s : Service) (es : List (ℕ × Service)) → list_all test es ≡ true → lookup (nat_eq at) es ≡ Some s → test (at, s) ≡ true
found_passes test at s [] all found = absurd cc
found_passes test at s (e ∷ es) all found =
    let parts = and_parts (test e) (list_all test es) all in
    found_more test at s e es (nat_eq at e.0) refl parts.0 (λ later. found_passes test at s es parts.1 later) found
  where
    found_more : (test : ℕ × Service → Bool) (at : ℕ) (s : Service) (e : ℕ × Service) (es : List (ℕ × Service)) (here : Bool) → nat_eq at e.0 ≡ here → test e ≡ true → (lookup (nat_eq at) es ≡ Some s → test (at, s) ≡ true) → cond here (Some e.1) (lookup (nat_eq at) es) ≡ Some s → test (at, s) ≡ true
    found_more test at s e es true is passes rest found =
        let same : at ≡ e.0 = eqb-true at e.0 is in
        let service : e.1 ≡ s = cc in
        rw (same, sym service) passes
    found_more test at s e es false is passes rest found = rest found

-- computed over the whole table
all_home : list_all is_home addresses ≡ true
unfolding is_home home
all_home = refl

at_home : (at : ℕ) (s : Service) → is_built s ≡ true → service_of at ≡ Some s → home s ≡ at
unfolding is_home service_of
at_home at s built found =
    let passes : is_home (at, s) ≡ true = found_passes is_home at s addresses all_home found in
    let equal : nat_eq (home s) at ≡ true = sym (rw built refl) ∙ passes in
    eqb-true (home s) at equal

pub one_address : OneAddress
one_address a b s built at_a at_b = sym (at_home a s built at_a) ∙ at_home b s built at_b

-- ---- all addresses

-- whether an address is one of n that are 8 bytes apart
is_among : ℕ → ℕ → ℕ → Bool
is_among from n at = nat_le from at && nat_lt at (from + 8 * n) && nat_eq ((at - from) % 8) 0

among_here : (from n at : ℕ) → at ≡ from → true ≡ is_among from (suc n) at
unfolding is_among
among_here from n at same = grind (arith, nat_tests)

among_later : (from n at : ℕ) → (at ≡ from → ⊥) → is_among (from + 8) n at ≡ is_among from (suc n) at
unfolding is_among
among_later from n at other = grind (arith, nat_tests)

is_some-by_place-more : (from : ℕ) (n at : ℕ) (service : Service) (later : Option Service) (here : Bool) → nat_eq at from ≡ here → is_some later ≡ is_among (from + 8) n at → is_some (cond here (Some service) later) ≡ is_among from (suc n) at
is_some-by_place-more from n at service later true is rest = among_here from n at (eqb-true at from is)
is_some-by_place-more from n at service later false is rest = rest ∙ among_later from n at (eqb-false at from is)

among_none : (from at : ℕ) → false ≡ is_among from 0 at
unfolding is_among
among_none from at = grind (arith, nat_tests)

is_some-by_place : (from at : ℕ) (services : List Service) → is_some (lookup (nat_eq at) (by_place from services)) ≡ is_among from (length services) at
is_some-by_place from at [] = among_none from at
is_some-by_place from at (service ∷ services) =
    is_some-by_place-more from (length services) at service (lookup (nat_eq at) (by_place (from + 8) services)) (nat_eq at from) refl (is_some-by_place (from + 8) at services)

is_some-or : {X : Type 0} (a b : Option X) → is_some (option_or a b) ≡ (is_some a || is_some b)
is_some-or None b = refl
is_some-or (Some x) b = refl

among_both : (at : ℕ) → (is_among 0x20018 44 at || is_among 0x21000 18 at) ≡ is_service_address at
unfolding is_among
among_both at = grind (arith, nat_tests)

pub service_addresses : ServiceAddresses
service_addresses at =
    ap is_some (service_by at)
    ∙ is_some-or (lookup (nat_eq at) (by_place 0x20018 BOOT)) (lookup (nat_eq at) (by_place 0x21000 PCI))
    ∙ rw (is_some-by_place 0x20018 at BOOT, is_some-by_place 0x21000 at PCI) (among_both at)
