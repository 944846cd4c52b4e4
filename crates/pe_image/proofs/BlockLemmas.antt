-- A directory is its first block and the directory after it.
use Rattle.std.proofs.Common.{◌≡◌, ◌≤◌, ◌<◌, ◌++◌, ℕ, zero, suc, Bool, true, false, ◌||◌, List, [], ◌∷◌, length, drop, refl, ap, ◌∙◌, if◌then◌else◌, arith}
use Rattle.std.specs.List.{list_any}
use Rattle.std.proofs.lemmas.List.{length-drop}
use Rattle.std.proofs.lemmas.Bool.Decides.{nat_tests}
use Rattle.pe_image.specs.Relocations.{Block, block_of, is_malformed, blocks_in, blocks_of, is_bad_entry, is_bad_block, is_bad_directory, entries_in, entries_of_directory}

-- a block that is well formed is not empty
size-positive : (block : Block) → is_malformed block ≡ false → 8 ≤ block.size
size-positive block well = grind (arith, nat_tests)

behind-same : (malformed : Bool) (block : Block) (n m : ℕ) (behind : List ℕ) → (malformed ≡ false → blocks_in n behind ≡ blocks_in m behind)
    → block ∷ (if malformed then [] else blocks_in n behind) ≡ block ∷ (if malformed then [] else blocks_in m behind)
behind-same true block n m behind same = refl
behind-same false block n m behind same = ap (λ blocks. block ∷ blocks) (same refl)

-- no directory has more blocks than bytes
blocks_in-enough : (n m : ℕ) (bytes : List ℕ) → length bytes ≤ n → length bytes ≤ m → blocks_in n bytes ≡ blocks_in m bytes
unfolding blocks_in
blocks_in-enough zero zero bytes few fewer = refl
blocks_in-enough zero (suc m) [] few fewer = refl
blocks_in-enough zero (suc m) (byte ∷ bytes) few fewer = absurd (omega arith)
blocks_in-enough (suc n) zero [] few fewer = refl
blocks_in-enough (suc n) zero (byte ∷ bytes) few fewer = absurd (omega arith)
blocks_in-enough (suc n) (suc m) [] few fewer = refl
blocks_in-enough (suc n) (suc m) (byte ∷ bytes) few fewer =
    let block = block_of (byte ∷ bytes) in
    let behind = drop block.size (byte ∷ bytes) in
    behind-same (is_malformed block) block n m behind (λ well.
    let large : 8 ≤ block.size = size-positive block well in
    let left = length-drop block.size (byte ∷ bytes) in
    blocks_in-enough n m behind (omega arith) (omega arith))

-- the blocks of a directory are its first and those of the directory after it
pub blocks_of-cons : (byte : ℕ) (bytes : List ℕ) → blocks_of (byte ∷ bytes) ≡ block_of (byte ∷ bytes) ∷ (if is_malformed (block_of (byte ∷ bytes)) then [] else blocks_of (drop (block_of (byte ∷ bytes)).size (byte ∷ bytes)))
unfolding blocks_in
blocks_of-cons byte bytes =
    let block = block_of (byte ∷ bytes) in
    let behind = drop block.size (byte ∷ bytes) in
    behind-same (is_malformed block) block (length bytes) (length behind) behind (λ well.
    let large : 8 ≤ block.size = size-positive block well in
    let left = length-drop block.size (byte ∷ bytes) in
    blocks_in-enough (length bytes) (length behind) behind (omega arith) (omega arith))

-- ---- a block at the front of a directory

or_false : (a b : Bool) → (a || b) ≡ false → (a ≡ false) × (b ≡ false)
or_false true b h = absurd cc
or_false false b h = (refl, h)

-- a good block is well formed, and so is each of its entries
record IsGood (size : ℕ) (block : Block) : Type 0 where
  formed : is_malformed block ≡ false
  entries : list_any (is_bad_entry size) (entries_in block) ≡ false

good : (size : ℕ) (block : Block) → is_bad_block size block ≡ false → IsGood size block
good size block h =
    let parts = or_false (is_malformed block) (list_any (is_bad_entry size) (entries_in block)) h in
    record { formed = parts.0; entries = parts.1 }

-- a directory with a bad block in front is bad
pub is_bad_directory-first : (size : ℕ) (rest : List ℕ) → 0 < length rest → is_bad_block size (block_of rest) ≡ true → is_bad_directory size rest ≡ true
unfolding is_bad_directory
is_bad_directory-first size [] some bad = absurd (omega arith)
is_bad_directory-first size (byte ∷ bytes) some bad = rw (blocks_of-cons byte bytes, bad) refl

-- a good block in front doesn't count
pub is_bad_directory-behind : (size : ℕ) (rest : List ℕ) → 0 < length rest → is_bad_block size (block_of rest) ≡ false → is_bad_directory size (drop (block_of rest).size rest) ≡ is_bad_directory size rest
unfolding is_bad_directory
is_bad_directory-behind size [] some h = absurd (omega arith)
is_bad_directory-behind size (byte ∷ bytes) some h =
    let block = good size (block_of (byte ∷ bytes)) h in
    rw (blocks_of-cons byte bytes, block.formed, block.entries) refl

-- and its entries come first
pub entries_of_directory-behind : (size : ℕ) (rest : List ℕ) → 0 < length rest → is_bad_block size (block_of rest) ≡ false → entries_of_directory rest ≡ entries_in (block_of rest) ++ entries_of_directory (drop (block_of rest).size rest)
unfolding entries_of_directory
entries_of_directory-behind size [] some h = absurd (omega arith)
entries_of_directory-behind size (byte ∷ bytes) some h =
    rw (blocks_of-cons byte bytes, (good size (block_of (byte ∷ bytes)) h).formed) refl

-- an empty directory is good, and has no entries
pub is_bad_directory-none : (size : ℕ) (rest : List ℕ) → length rest ≡ 0 → is_bad_directory size rest ≡ false
unfolding is_bad_directory blocks_in
is_bad_directory-none size [] none = refl
is_bad_directory-none size (byte ∷ bytes) none = absurd (omega arith)

pub entries_of_directory-none : (rest : List ℕ) → length rest ≡ 0 → entries_of_directory rest ≡ []
unfolding entries_of_directory blocks_in
entries_of_directory-none [] none = refl
entries_of_directory-none (byte ∷ bytes) none = absurd (omega arith)

-- ---- laying a good directory block by block

-- what is known of a good directory that is not empty
pub record IsGoodDirectory (size : ℕ) (rest : List ℕ) : Type 0 where
  pub entries : list_any (is_bad_entry size) (entries_in (block_of rest)) ≡ false
  pub large : 8 ≤ (block_of rest).size
  pub behind : is_bad_directory size (drop (block_of rest).size rest) ≡ false
  pub split : entries_of_directory rest ≡ entries_in (block_of rest) ++ entries_of_directory (drop (block_of rest).size rest)

first_good : (size : ℕ) (rest : List ℕ) (bad : Bool) → 0 < length rest → is_bad_block size (block_of rest) ≡ bad → is_bad_directory size rest ≡ false → is_bad_block size (block_of rest) ≡ false
first_good size rest true some e h = let first = is_bad_directory-first size rest some e in absurd cc
first_good size rest false some e h = e

pub good_directory : (size : ℕ) (rest : List ℕ) → 0 < length rest → is_bad_directory size rest ≡ false → IsGoodDirectory size rest
good_directory size rest some h =
    let first = first_good size rest (is_bad_block size (block_of rest)) some refl h in
    let block = good size (block_of rest) first in
    record {
      entries = block.entries;
      large = size-positive (block_of rest) block.formed;
      behind = is_bad_directory-behind size rest some first ∙ h;
      split = entries_of_directory-behind size rest some first;
    }
