-- How many bytes the items of a block take.
use Rattle.std.specs.Prelude.{ℕ}
use Rattle.service_model.specs.declared.plan.Contents.{Contents}
use Rattle.service_model.specs.declared.plan.Contents.TheVariants.{Handles, Opens, Protocols}

-- each item: a handle, a record, or a pointer and the GUID that it points to
abbrev pub item_size : Contents → ℕ
item_size (Handles name) = 8
item_size (Opens handle name) = 24
item_size (Protocols handle) = 24
