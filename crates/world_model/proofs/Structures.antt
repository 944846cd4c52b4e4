-- How many bytes the structures in guest memory have.
use Rattle.std.proofs.Common.{◌≡◌, ◌≤◌, ℕ, ◌+◌, Bool, true, nat_le, List, [], ◌∷◌, ◌++◌, length, replicate, refl, ◌∙◌, arith}
use Rattle.std.specs.List.{list_all}
use Rattle.std.proofs.lemmas.Bool.{and_parts}
use Rattle.std.proofs.lemmas.Bool.Decides.{nat_tests}
use Rattle.std.proofs.lemmas.List.{length-replicate}
use Rattle.guest_memory.proofs.SegmentLemmas.{length-replaced}
use Rattle.service_thunks.specs.Services.{boot_services}
use Rattle.fw_types.specs.Layout.{Field, put, put_all}
use Rattle.service_thunks.specs.Tables.{boot_signature, boot_table, boot_table_size, header_fields, service_fields, system_fields, system_signature, system_table, system_table_size}
use Rattle.world_model.specs.Images.{BlockContents, block_bytes, block_fields, block_size}
use Rattle.world_model.specs.Tables.{binding_size, bus_binding, bus_binding_fields}

-- whether a field lies within so many bytes
abbrev fits : ℕ → Field → Bool
fits size field = nat_le (field.offset + length field.bytes) size

length-put : (offset : ℕ) (field bytes : List ℕ) → offset + length field ≤ length bytes → length (put offset field bytes) ≡ length bytes
unfolding put
length-put offset field bytes within = length-replaced bytes offset field within

length-put_all : (size : ℕ) (fields : List Field) (bytes : List ℕ) → length bytes ≡ size → list_all (fits size) fields ≡ true → length (put_all fields bytes) ≡ size
length-put_all size [] bytes same within = same
length-put_all size (field ∷ fields) bytes same within =
    let parts = and_parts (fits size field) (list_all (fits size) fields) within in
    let here : field.offset + length field.bytes ≤ length bytes = grind (arith, nat_tests, parts.0, same) in
    length-put_all size fields (put field.offset field.bytes bytes) (length-put field.offset field.bytes bytes here ∙ same) parts.1

length-structure : (size : ℕ) (fields : List Field) → list_all (fits size) fields ≡ true → length (put_all fields (replicate size 0)) ≡ size
length-structure size fields within =
    let nought : ℕ = 0 in
    length-put_all size fields (replicate size nought) (length-replicate size nought) within

pub length-block : (contents : BlockContents) → length (block_bytes contents) ≡ block_size
unfolding block_bytes
length-block contents = length-structure block_size (block_fields contents) refl

pub length-bus_binding : length bus_binding ≡ binding_size
unfolding bus_binding
length-bus_binding = length-structure binding_size bus_binding_fields refl

pub length-system_table : length system_table ≡ 128
unfolding system_table
length-system_table = length-structure 128 (header_fields system_signature system_table_size ++ system_fields) refl

pub length-boot_table : length boot_table ≡ boot_table_size
unfolding boot_table
length-boot_table = length-structure boot_table_size (header_fields boot_signature boot_table_size ++ service_fields boot_services) refl
