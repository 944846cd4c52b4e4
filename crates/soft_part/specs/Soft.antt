-- The soft part of a world without its open records, from its pieces as the code has them.
use Rattle.std.specs.Prelude.{◌≡◌, ℕ, List}
use Rattle.guest_memory.specs.declared.segment.Segment.{Segment}
use Rattle.handle_db.specs.Database.{Database}
use Rattle.world_model.specs.World.{Soft}
use Rattle.world_model.specs.Opening.{firmware_soft}
use Rattle.world_model.specs.Records.{no_records}
use Rattle.soft_part.specs.declared.plain_part.PlainPart.{PlainPart}

abbrev pub soft_of : List Segment → Database → PlainPart → Soft
soft_of memory database plain = record {
  memory = memory;
  database = database;
  records = no_records;
  images = plain.images.items;
  thunks = plain.thunks.items;
  bus_children = plain.bus_children.items;
  bus_lists = plain.bus_lists.items;
  tpl = plain.tpl;
  next_image = plain.next_image;
  next_block = plain.next_block;
  next_thunk = plain.next_thunk;
}

-- the soft part with other plain fields
abbrev pub with_plain : PlainPart → Soft → Soft
with_plain plain soft = soft_of soft.memory soft.database plain

-- whether plain fields are those of the opening state of a board with so many functions
abbrev pub IsOpening : (functions : ℕ) → PlainPart → Type 0
IsOpening functions plain = with_plain plain (firmware_soft functions) ≡ firmware_soft functions
