-- Protocol interfaces of the world (UEFI 2.8, 'Protocol Handler Services').
use Rattle.std.specs.Prelude.{ℕ, Bool, ◌&&◌, ◌||◌, nat_eq, bytes_eq, List, Option, Result, Ok, Err}
use Rattle.std.specs.List.{list_any}
use Rattle.fw_types.specs.Guid.{known_guid}
use Rattle.fw_types.specs.declared.guid.Known.TheVariants.{LoadedImage as LoadedImageProtocol, DriverBinding}
use Rattle.handle_db.specs.declared.handle_entry.Interface.{Interface}
use Rattle.handle_db.specs.declared.refusal.DbRefusal.{DbRefusal}
use Rattle.handle_db.specs.Installing.{install_answer as db_install_answer, installed}
use Rattle.handle_db.specs.Removing.{remove_answer, removed}
use Rattle.world_model.specs.declared.image.LoadedImage.{LoadedImage}
use Rattle.world_model.specs.World.{Soft}
use Rattle.world_model.specs.Records.{records_removed}
use Rattle.world_model.specs.BusChildren.{children_left}

-- the handle of the firmware, and that of its PCI bus driver
abbrev pub firmware : ℕ
firmware = 1

abbrev pub bus_driver : ℕ
bus_driver = 2

-- an interface of a protocol, with its owner
abbrev pub interface : List ℕ → ℕ → ℕ → Interface
interface guid address owner = record { guid = guid; interface = address; owner = owner }

-- what installing answers, as the database says
abbrev pub install_answer : Option ℕ → List ℕ → Soft → Result ℕ DbRefusal
install_answer handle guid soft = db_install_answer handle guid soft.database

abbrev pub interface_added : Option ℕ → Interface → Soft → Soft
interface_added handle new soft = record soft { database = installed handle new soft.database }

-- an answer without its value
abbrev pub without_value : {T : Type 0} → Result T DbRefusal → Result Unit DbRefusal
without_value (Ok value) = Ok tt
without_value (Err refusal) = Err refusal

-- what uninstalling answers, as the database says
abbrev pub uninstall_answer : ℕ → List ℕ → Soft → Result Unit DbRefusal
uninstall_answer handle guid soft = without_value (remove_answer handle guid soft.database)

-- An interface is removed with its records, and if it was its handle's last one, so are the records that
-- name the handle. A handle whose PCI I/O is removed is no child of the bus any more.
abbrev pub interface_removed : ℕ → List ℕ → Soft → Soft
interface_removed handle guid soft = record soft {
  database = removed handle guid soft.database;
  records = records_removed handle guid (removed handle guid soft.database) soft.records;
  bus_children = children_left handle guid soft.bus_children;
}

-- whether a handle is that of an image that is loaded, other than the firmware's own image
abbrev pub is_image : ℕ → List LoadedImage → Bool
is_image handle images = list_any (λ (image : LoadedImage). nat_eq image.handle handle) images

-- Whether an interface is not uninstalled: the loaded image protocol of the firmware and of each image,
-- and the bus driver's binding. That of an image is removed only with the image.
abbrev pub is_lasting : ℕ → List ℕ → Soft → Bool
is_lasting handle guid soft =
    bytes_eq guid (known_guid LoadedImageProtocol) && (nat_eq handle firmware || is_image handle soft.images)
    || bytes_eq guid (known_guid DriverBinding) && nat_eq handle bus_driver
