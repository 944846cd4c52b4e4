use Rattle.std.proofs.Common.{◌≡◌, drop}
use Rattle.fw_shelf.specs.Shelf.{file_of}
use Rattle.fw_shelf.specs.MemShelf.{files_of}
use Rattle.fw_shelf.proofs.mem_shelf.copy_of.Given as goal

-- the file is among those that are left
abbrev pub invariant-loop-file : goal.invariant-loop-file
invariant-loop-file l = file_of (files_of (drop l.file-index l.files)) l.name ≡ file_of (files_of l.files) l.name
