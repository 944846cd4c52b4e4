-- Interfaces that are not uninstalled are the firmware's.
use Rattle.std.proofs.Common.{◌≡◌, inl, inr, ℕ, Bool, true, false, not, ◌&&◌, ◌||◌, nat_eq, bytes_eq, List, [], ◌∷◌, ap, sym, ◌∙◌}
use Rattle.std.specs.Prelude.{Option, Some, None}
use Rattle.std.specs.List.{list_all}
use Rattle.std.proofs.lemmas.Bool.{and_parts, both_ways, eq-eqb, eqb-true, false_from_ne_true, or_cases}
use Rattle.std.proofs.lemmas.Slice.Eq.{bytes_eq-Decides}
use Rattle.fw_types.specs.Guid.{known_guid}
use Rattle.fw_types.specs.declared.guid.Known.TheVariants.{LoadedImage as LoadedImageProtocol, DriverBinding}
use Rattle.handle_db.specs.Database.{Database, interface_of}
use Rattle.world_model.specs.World.{Soft}
use Rattle.world_model.specs.Interfaces.{bus_driver, firmware, is_image, is_lasting}
use Rattle.world_model.specs.Kept.{IsKept, has_interface, is_address, is_installed}
use Rattle.guest_memory.specs.declared.address_map.TheConstants.{BUS_BINDING, FIRMWARE_IMAGE}
use Rattle.world_model.specs.declared.image.LoadedImage.{LoadedImage}
use Rattle.service_model.specs.Allowed.{ImagesDoNotLast, is_of_image}

-- an interface of the firmware is no image's
no-image : (found : Option (ℕ × ℕ)) (address : ℕ) → is_address address firmware found ≡ true → is_of_image found ≡ false
no-image None address has = absurd cc
no-image (Some found) address has = ap not (and_parts (nat_eq found.0 address) (nat_eq found.1 firmware) has).1

owned : (db : Database) (handle other : ℕ) (name protocol : List ℕ) (address : ℕ) → nat_eq other handle ≡ true → bytes_eq name protocol ≡ true
    → has_interface db other protocol address firmware ≡ true → is_of_image (interface_of handle name db) ≡ false
owned db handle other name protocol address same is has =
    let one : handle ≡ other = sym (eqb-true other handle same) in
    let two : name ≡ protocol = (bytes_eq-Decides name protocol).0 is in
    ap (λ number. is_of_image (interface_of number name db)) one ∙ ap (λ guid. is_of_image (interface_of other guid db)) two ∙ no-image (interface_of other protocol db) address has

-- an image's own interface
of-images : (db : Database) (handle : ℕ) (name : List ℕ) (images : List LoadedImage) → bytes_eq name (known_guid LoadedImageProtocol) ≡ true → is_image handle images ≡ true → list_all (is_installed db) images ≡ true
    → is_of_image (interface_of handle name db) ≡ false
of-images db handle name [] is there installed = absurd cc
of-images db handle name (image ∷ images) is there installed =
    let parts = and_parts (is_installed db image) (list_all (is_installed db) images) installed in
    elim (or_cases (nat_eq image.handle handle) (is_image handle images) there) [
      | inl same ↦ owned db handle image.handle name (known_guid LoadedImageProtocol) image.block same is parts.0
      | inr later ↦ of-images db handle name images is later parts.1
    ]

lasting-owned : (soft : Soft) (handle : ℕ) (name : List ℕ) → IsKept soft → is_lasting handle name soft ≡ true → is_of_image (interface_of handle name soft.database) ≡ false
lasting-owned soft handle name kept lasts =
    let image : Bool = nat_eq handle firmware || is_image handle soft.images in
    elim (or_cases (bytes_eq name (known_guid LoadedImageProtocol) && image) (bytes_eq name (known_guid DriverBinding) && nat_eq handle bus_driver) lasts) [
      | inl one ↦ by_image (and_parts (bytes_eq name (known_guid LoadedImageProtocol)) image one)
      | inr two ↦ by_driver (and_parts (bytes_eq name (known_guid DriverBinding)) (nat_eq handle bus_driver) two)
    ]
  where
    turned : (a b : ℕ) → nat_eq a b ≡ true → nat_eq b a ≡ true
    turned a b same = eq-eqb b a (sym (eqb-true a b same))

    by_image : (bytes_eq name (known_guid LoadedImageProtocol) ≡ true) × ((nat_eq handle firmware || is_image handle soft.images) ≡ true) → is_of_image (interface_of handle name soft.database) ≡ false
    by_image (is, image) = elim (or_cases (nat_eq handle firmware) (is_image handle soft.images) image) [
      | inl same ↦ owned soft.database handle firmware name (known_guid LoadedImageProtocol) FIRMWARE_IMAGE (turned handle firmware same) is kept.database.firmware_there
      | inr there ↦ of-images soft.database handle name soft.images is there kept.database.installed
    ]

    by_driver : (bytes_eq name (known_guid DriverBinding) ≡ true) × (nat_eq handle bus_driver ≡ true) → is_of_image (interface_of handle name soft.database) ≡ false
    by_driver (is, same) = owned soft.database handle bus_driver name (known_guid DriverBinding) BUS_BINDING (turned handle bus_driver same) is kept.database.bus_driver_there

pub images-go : ImagesDoNotLast
images-go soft handle name kept of_image =
    false_from_ne_true (is_lasting handle name soft) (λ lasts. both_ways (is_of_image (interface_of handle name soft.database)) (lasting-owned soft handle name kept lasts) of_image)
