-- An interface that a handle has can be removed.
use Rattle.std.proofs.Common.{◌≡◌, ℕ, Bool, true, false, not, List, find, refl}
use Rattle.std.specs.Prelude.{bytes_eq, nat_eq, Option, Some, None, option_map, is_ok, is_some, Err, if◌then◌else◌}
use Rattle.std.proofs.lemmas.Bool.{and_parts, not-true, or_parts}
use Rattle.fw_types.specs.Guid.{known_guid}
use Rattle.fw_types.specs.declared.guid.Known.TheVariants.{DriverBinding, LoadedImage}
use Rattle.handle_db.specs.Database.{interface_of, interfaces_in, interfaces_of, is_guid, is_handle, is_live}
use Rattle.handle_db.specs.Removing.{removal_of}
use Rattle.handle_db.specs.declared.handle_entry.HandleEntry.{HandleEntry}
use Rattle.handle_db.specs.declared.handle_entry.Interface.{Interface}
use Rattle.handle_db.specs.declared.refusal.DbRefusal.TheVariants.{BadHandle}
use Rattle.handle_db.proofs.OnlyOne.{find-none}
use Rattle.world_model.specs.World.{Soft}
use Rattle.world_model.specs.Interfaces.{firmware, is_lasting, uninstall_answer, without_value}
use Rattle.world_model.specs.Kept.{IsKept}
use Rattle.service_model.specs.Allowed.{ImagesDoNotLast, is_of_image}
use Rattle.service_model.specs.declared.call.HandleInterface.{HandleInterface}
use Rattle.driver_model.specs.Allowed.{has_lasting_interfaces, may_go}
use Rattle.driver_model.specs.UninstallWithReconnection.{is_still_there}
use Rattle.driver_model.specs.declared.request.Remover.{Remover}
use Rattle.driver_model.specs.declared.request.Remover.TheVariants.{TheFirmware, ADriver}

-- a handle that is not live has no interface
none_there : (entry : Option HandleEntry) (guid : List ℕ) → entry ≡ None → is_some {T = ℕ × ℕ} (option_map (λ (one : Interface). (one.interface, one.owner)) (find (is_guid guid) (interfaces_in entry))) ≡ true → ⊥
none_there None guid is there = absurd cc
none_there (Some entry) guid is there = absurd cc

pub removable : (handle : ℕ) (guid : List ℕ) (soft : Soft) → is_some (interface_of handle guid soft.database) ≡ true → is_ok (uninstall_answer handle guid soft) ≡ true
removable handle guid soft there = by_live (is_live handle soft.database) refl
  where
    by_found : (found : Option Interface) → is_some {T = ℕ × ℕ} (option_map (λ (one : Interface). (one.interface, one.owner)) found) ≡ true
        → is_ok (without_value (removal_of (interfaces_of handle soft.database) guid found)) ≡ true
    by_found None there = absurd cc
    by_found (Some one) there = refl

    by_live : (live : Bool) → is_live handle soft.database ≡ live
        → is_ok (without_value (if not live then Err BadHandle else removal_of (interfaces_of handle soft.database) guid (find (is_guid guid) (interfaces_of handle soft.database)))) ≡ true
    by_live true is = by_found (find (is_guid guid) (interfaces_of handle soft.database)) there
    by_live false is = absurd (none_there (find (is_handle handle) soft.database.handles) guid (find-none (is_handle handle) soft.database.handles is) there)

-- an interface that is still there for a driver is there, and an image owns it
of_image : (found : Option (ℕ × ℕ)) (interface : ℕ) → is_still_there ADriver interface found ≡ true → (is_some found ≡ true) × (is_of_image found ≡ true)
of_image None interface still = absurd cc
of_image (Some found) interface still = (refl, (and_parts (nat_eq found.0 interface) (not (nat_eq found.1 firmware)) still).1)

is_there : (remover : Remover) (found : Option (ℕ × ℕ)) (interface : ℕ) → is_still_there remover interface found ≡ true → is_some found ≡ true
is_there TheFirmware None interface still = absurd cc
is_there ADriver None interface still = absurd cc
is_there remover (Some found) interface still = refl

pub clears : (remover : Remover) (handle : ℕ) (guid : List ℕ) (interface : ℕ) (soft : Soft) → is_still_there remover interface (interface_of handle guid soft.database) ≡ true
    → is_ok (uninstall_answer handle guid soft) ≡ true
clears remover handle guid interface soft still = removable handle guid soft (is_there remover (interface_of handle guid soft.database) interface still)

-- an interface lasts only if its protocol has lasting interfaces
not_lasting : (handle : ℕ) (guid : List ℕ) (soft : Soft) → not (has_lasting_interfaces guid) ≡ true → is_lasting handle guid soft ≡ false
not_lasting handle guid soft may =
    let parts = or_parts (bytes_eq guid (known_guid LoadedImage)) (bytes_eq guid (known_guid DriverBinding)) (not-true (has_lasting_interfaces guid) may) in
    rw (parts.0, parts.1) refl

pub is_gone : ImagesDoNotLast → (remover : Remover) (i : HandleInterface) (soft : Soft) → IsKept soft → may_go remover i ≡ true
    → is_still_there remover i.interface (interface_of i.handle i.guid soft.database) ≡ true → is_lasting i.handle i.guid soft ≡ false
is_gone law TheFirmware i soft kept may still = not_lasting i.handle i.guid soft may
is_gone law ADriver i soft kept may still = law soft i.handle i.guid kept (of_image (interface_of i.handle i.guid soft.database) i.interface still).1
