-- The interfaces that are removed with an image (UEFI 2.8, 7.4: EFI_BOOT_SERVICES.UnloadImage()).
use Rattle.std.specs.Prelude.{ℕ, Bool, false, ◌&&◌, ◌||◌, not, nat_eq, List, map, filter, Option, Some, None}
use Rattle.handle_db.specs.Database.{Database, IsSound, has_any, is_guid}
use Rattle.handle_db.specs.declared.handle_entry.HandleEntry.{HandleEntry}
use Rattle.handle_db.specs.declared.handle_entry.Interface.{Interface}

-- whether an interface that was looked up, with its owner, is there and is owned by an image
abbrev pub is_owned_by : (image : ℕ) → Option (ℕ × ℕ) → Bool
is_owned_by image None = false
is_owned_by image (Some found) = nat_eq found.1 image

-- Whether a handle's interface is removed with an image: the image owns it, or it is the interface of one protocol
-- on the image's own handle, whoever owns that.
abbrev pub goes_with : (image : ℕ) (own : List ℕ) (handle : ℕ) → Interface → Bool
goes_with image own handle one = nat_eq one.owner image || (nat_eq handle image && is_guid own one)

-- a handle without the interfaces that are removed with an image
abbrev pub without_interfaces_of : (image : ℕ) (own : List ℕ) → HandleEntry → HandleEntry
without_interfaces_of image own entry =
    record entry { interfaces = filter (λ (one : Interface). not (goes_with image own entry.handle one)) entry.interfaces }

-- The database without the interfaces that are removed with an image. A handle without interfaces is left out.
abbrev pub without_owned : (image : ℕ) (own : List ℕ) → Database → Database
without_owned image own db = record db { handles = filter has_any (map (without_interfaces_of image own) db.handles) }

-- after the interfaces that belong to an image are removed with it, a sound database is sound
abbrev pub RemovingOwnedKeeps : Type 0
RemovingOwnedKeeps =
    (image : ℕ) (own : List ℕ) (db : Database) → IsSound db → IsSound (without_owned image own db)
