-- A shelf in memory.
use Rattle.std.specs.Prelude.{◌≡◌, ◌≤◌, [], ℕ, Some, List, Bool, map, nat_eq, if◌then◌else◌, refl, String, Vec, string_bytes}
use Rattle.std.specs.List.{list_any}
use Rattle.std.specs.declared.alloc.Global.{Global}
use Rattle.std.proofs.Common.{◌∙◌, ap, le_refl, le_trans}
use Rattle.fw_shelf.specs.Faults.{next_count}
use Rattle.fw_shelf.specs.Shelf.{Files}

-- the files, the numbers of the reads that fail, how many reads there were, and how many failed
pub record ShelfInMemory : Type 0 where
  pub files : Files
  pub failing_reads : List ℕ
  pub reads : ℕ
  pub faults : ℕ

-- the names and the bytes of a list of files
abbrev pub files_of : List (String Global × Vec ℕ Global) → Files
files_of files = map (λ file. (string_bytes file.0, file.1.items)) files

-- whether the next read fails: its number, from 1, is listed
abbrev pub read_fails : ShelfInMemory → Bool
read_fails shelf = list_any (λ n. nat_eq n (next_count shelf.reads)) shelf.failing_reads

-- the shelf after a read
abbrev pub after_read : ShelfInMemory → ShelfInMemory
after_read shelf = record shelf {
  reads = next_count shelf.reads;
  faults = if read_fails shelf then next_count shelf.faults else shelf.faults;
}

-- what reads may make of a shelf: it has the same files, no count falls, and if no read is to fail none
-- rises
pub record IsLater (old new : ShelfInMemory) : Type 0 where
  pub files : new.files ≡ old.files
  pub failing_reads : new.failing_reads ≡ old.failing_reads
  pub not_fallen : old.faults ≤ new.faults
  pub faults : old.failing_reads ≡ [] → new.faults ≡ old.faults

-- a shelf that did not change counts as later
pub IsLater-same : (shelf : ShelfInMemory) → IsLater shelf shelf
IsLater-same shelf = record { files = refl; failing_reads = refl; not_fallen = le_refl shelf.faults; faults = λ _. refl }

-- a shelf that is later than a later one is later
pub IsLater-again : (a b c : ShelfInMemory) → IsLater a b → IsLater b c → IsLater a c
IsLater-again a b c first second = record {
  files = second.files ∙ first.files;
  failing_reads = second.failing_reads ∙ first.failing_reads;
  not_fallen = le_trans first.not_fallen second.not_fallen;
  faults = λ none. second.faults (first.failing_reads ∙ none) ∙ first.faults none;
}

-- a later shelf has the same files
pub IsLater-files : (a b : ShelfInMemory) → IsLater a b → Some b.files ≡ Some a.files
IsLater-files a b later = ap Some later.files

-- and no lower count of faults
pub IsLater-faults : (a b : ShelfInMemory) → IsLater a b → a.faults ≤ b.faults
IsLater-faults a b later = later.not_fallen
