-- Putting fields into a table one after the other.
use Rattle.std.proofs.Common.{◌≡◌, ◌<◌, ℕ, zero, suc, ◌+◌, ◌*◌, Bool, true, ◌&&◌, nat_eq, List, [], ◌∷◌, ◌++◌, length, take, get_or, refl, ap, ◌∙◌, arith}
use Rattle.std.proofs.lemmas.List.{get_or-map}
use Rattle.std.proofs.lemmas.Bool.{and_parts, eqb-true}
use Rattle.byteorder.specs.Endian.{little_bytes}
use Rattle.guest_memory.specs.declared.address_map.TheConstants.{BOOT_SERVICES}
use Rattle.fw_types.specs.Layout.{Field, put, put_all}
use Rattle.fw_types.proofs.LayoutLemmas.{put_all_more}
use Rattle.service_thunks.specs.Services.{Row, boot_services}
use Rattle.service_thunks.specs.Tables.{service_field, service_fields}
use Rattle.service_thunks.specs.declared.service.Service.TheVariants.{Unbuilt}

-- whether the entries are 8 bytes apart, from an offset on
are_even : ℕ → List Row → Bool
are_even at [] = true
are_even at (entry ∷ entries) = nat_eq entry.offset at && are_even (at + 8) entries

nowhere : Row
nowhere = record { offset = 0; name = []; service = Unbuilt }

offset_at : (at i : ℕ) (entries : List Row) → are_even at entries ≡ true → i < length entries → (get_or entries i nowhere).offset ≡ at + 8 * i
unfolding are_even
offset_at at i [] even inside = absurd (omega arith)
offset_at at zero (entry ∷ entries) even inside =
    let first = eqb-true entry.offset at (and_parts (nat_eq entry.offset at) (are_even (at + 8) entries) even).0 in omega arith
offset_at at (suc i) (entry ∷ entries) even inside =
    let rest = offset_at (at + 8) i entries (and_parts (nat_eq entry.offset at) (are_even (at + 8) entries) even).1 (omega arith) in omega arith

-- computed over the whole table
boot_services_even : are_even 24 boot_services ≡ true
unfolding are_even
boot_services_even = refl

-- one more service's address
pub service_more : (i : ℕ) (bytes : List ℕ) → i < 44
    → put_all (take (i + 1) (service_fields boot_services)) bytes ≡ put (24 + 8 * i) (little_bytes 8 (BOOT_SERVICES + (24 + 8 * i))) (put_all (take i (service_fields boot_services)) bytes)
service_more i bytes inside =
    let offset : (get_or boot_services i nowhere).offset ≡ 24 + 8 * i = offset_at 24 i boot_services boot_services_even inside in
    let field : get_or (service_fields boot_services) i (service_field nowhere) ≡ service_field (get_or boot_services i nowhere) = get_or-map service_field boot_services i nowhere (service_field nowhere) inside in
    put_all_more (service_fields boot_services) i (service_field nowhere) bytes inside
    ∙ ap (λ (f : Field). put f.offset f.bytes (put_all (take i (service_fields boot_services)) bytes)) field
    ∙ ap (λ (n : ℕ). put n (little_bytes 8 (BOOT_SERVICES + n)) (put_all (take i (service_fields boot_services)) bytes)) offset
