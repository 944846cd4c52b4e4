-- The path in bytes, a node at a time.
use Rattle.std.proofs.Common.{◌≡◌, ◌≤◌, ◌+◌, ◌-◌, ℕ, zero, suc, Bool, true, false, nat_lt, List, [], ◌∷◌, ◌++◌, length, drop, take, Some, None, Result, Ok, Err, if◌then◌else◌, refl, ap, sym, ◌∙◌, arith, length-drop, append_assoc, append-nil}
use Rattle.std.specs.List.{concat}
use Rattle.std.proofs.lemmas.Bool.Decides.{nat_tests}
use Rattle.std.proofs.lemmas.List.{drop-drop}
use Rattle.std.proofs.Math.Seq.{take-add}
use Rattle.device_path.specs.DevicePath.{Path, header_of, is_end, node_at, onto, path_from, path_in, path_within}
use Rattle.device_path.specs.Steps.{AreNodesOf, RefusesAs, first_size, size_from}
use Rattle.device_path.specs.declared.node.Node.{Node}
use Rattle.device_path.specs.declared.refusal.PathRefusal.{PathRefusal}
use Rattle.device_path.specs.declared.refusal.PathRefusal.TheVariants.{Short, BadLength, Unknown, OutOfMemory}

-- ---- a node has at least its header, and no more bytes than there are

pub record IsWhole (bytes : List ℕ) (node : Node) : Type 0 where
  pub is : node ≡ header_of bytes
  pub some : 4 ≤ (header_of bytes).length
  pub fits : (header_of bytes).length ≤ length bytes

whole_by : (a b c : Bool) (node other : Node) → (if a then Err Short else if b then Err BadLength else if c then Err Short else Ok other) ≡ Ok node → (a ≡ false) × (b ≡ false) × (c ≡ false) × (other ≡ node)
whole_by true b c node other h = absurd cc
whole_by false true c node other h = absurd cc
whole_by false false true node other h = absurd cc
whole_by false false false node other h = (refl, refl, refl, cc)

nat_lt-false : (a b : ℕ) → nat_lt a b ≡ false → b ≤ a
nat_lt-false a b h = grind (arith, nat_tests)

pub node_at-whole : (bytes : List ℕ) (node : Node) → node_at bytes ≡ Ok node → IsWhole bytes node
node_at-whole bytes node h =
    let tests = whole_by (nat_lt (length bytes) 4) (nat_lt (header_of bytes).length 4) (nat_lt (length bytes) (header_of bytes).length) node (header_of bytes) h in
    record {
      is = sym tests.3;
      some = nat_lt-false _ 4 tests.1;
      fits = nat_lt-false (length bytes) _ tests.2;
    }

-- ---- a step

-- what comes after the first node counts only if there is a node
path_from-same : (found : Result Node PathRefusal) (bytes : List ℕ) (one other : Path) → ((node : Node) → found ≡ Ok node → one ≡ other) → path_from found bytes one ≡ path_from found bytes other
path_from-same (Err refusal) bytes one other same = refl
path_from-same (Ok node) bytes one other same = ap (path_from (Ok node) bytes) (same node refl)

-- bytes of which there are fewer than allowed are the same path
path_within-enough : (n m : ℕ) (bytes : List ℕ) → length bytes ≤ n → length bytes ≤ m → path_within n bytes ≡ path_within m bytes
unfolding path_within
path_within-enough zero zero bytes h k = refl
path_within-enough zero (suc m) [] h k = refl
path_within-enough zero (suc m) (b ∷ bytes) h k = absurd (omega arith)
path_within-enough (suc n) zero [] h k = refl
path_within-enough (suc n) zero (b ∷ bytes) h k = absurd (omega arith)
path_within-enough (suc n) (suc m) bytes h k =
    let size = (header_of bytes).length in
    path_from-same (node_at bytes) bytes (path_within n (drop size bytes)) (path_within m (drop size bytes)) (λ node found.
    let whole = node_at-whole bytes node found in
    path_within-enough n m (drop size bytes) (omega (arith, length-drop size bytes, whole.some, whole.fits, h)) (omega (arith, length-drop size bytes, whole.some, whole.fits, k)))

-- a path is its first node, and the path after it
pub path_in-step : (bytes : List ℕ) → path_in bytes ≡ path_from (node_at bytes) bytes (path_in (drop (header_of bytes).length bytes))
unfolding path_in path_within
path_in-step [] = refl
path_in-step (b ∷ more) =
    let bytes = b ∷ more in
    let size = (header_of bytes).length in
    path_from-same (node_at bytes) bytes (path_within (length more) (drop size bytes)) (path_within (length (drop size bytes)) (drop size bytes)) (λ node found.
    let whole = node_at-whole bytes node found in
    path_within-enough (length more) (length (drop size bytes)) (drop size bytes) (omega (arith, length-drop size bytes, whole.some, whole.fits)) (omega arith))

-- ---- the same by the size of the first node

refused_by : (found : Result Node PathRefusal) (last : Bool) (bytes : List ℕ) (more : Path) (refusal : PathRefusal) → size_from found last ≡ Err refusal → path_from found bytes more ≡ record { nodes = []; fault = Some refusal }
refused_by (Err other) last bytes more refusal h = let same : other ≡ refusal = cc in ap (λ (r : PathRefusal). record { nodes = []; fault = Some r }) same
refused_by (Ok node) true bytes more refusal h = absurd cc
refused_by (Ok node) false bytes more refusal h = absurd cc

-- a bad node ends the path
pub path_in-refused : (bytes : List ℕ) (refusal : PathRefusal) → first_size bytes ≡ Err refusal → path_in bytes ≡ record { nodes = []; fault = Some refusal }
path_in-refused bytes refusal h = path_in-step bytes ∙ refused_by (node_at bytes) (is_end bytes) bytes (path_in (drop (header_of bytes).length bytes)) refusal h

ended_by : (found : Result Node PathRefusal) (last : Bool) (bytes : List ℕ) (more : Path) → is_end bytes ≡ last → size_from found last ≡ Ok None → path_from found bytes more ≡ record { nodes = []; fault = None }
ended_by (Err other) last bytes more mark h = absurd cc
ended_by (Ok node) true bytes more mark h = rw mark refl
ended_by (Ok node) false bytes more mark h = absurd cc

-- the End node ends it
pub path_in-end : (bytes : List ℕ) → first_size bytes ≡ Ok None → path_in bytes ≡ record { nodes = []; fault = None }
path_in-end bytes h = path_in-step bytes ∙ ended_by (node_at bytes) (is_end bytes) bytes (path_in (drop (header_of bytes).length bytes)) refl h

more_by : (found : Result Node PathRefusal) (last : Bool) (bytes : List ℕ) (more : Path) (size : ℕ) → is_end bytes ≡ last → node_at bytes ≡ found → size_from found last ≡ Ok (Some size) → ((header_of bytes).length ≡ size) × (path_from found bytes more ≡ onto (take size bytes) more)
more_by (Err other) last bytes more size mark is h = absurd cc
more_by (Ok node) true bytes more size mark is h = absurd cc
more_by (Ok node) false bytes more size mark is h =
    let whole = node_at-whole bytes node is in
    let long : node.length ≡ size = cc in
    (ap (λ (n : Node). n.length) (sym whole.is) ∙ long, rw mark (ap (λ (n : ℕ). onto (take n bytes) more) long))

-- any other node is its first
pub path_in-more : (bytes : List ℕ) (size : ℕ) → first_size bytes ≡ Ok (Some size) → path_in bytes ≡ onto (take size bytes) (path_in (drop size bytes))
path_in-more bytes size h =
    let more = path_in (drop (header_of bytes).length bytes) in
    let by = more_by (node_at bytes) (is_end bytes) bytes more size refl refl h in
    path_in-step bytes ∙ by.1 ∙ ap (λ (n : ℕ). onto (take size bytes) (path_in (drop n bytes))) by.0

-- ---- the nodes so far

-- `rest` is what is left of a path: the nodes before it are the bytes before it
pub record IsRest (path rest : List ℕ) : Type 0 where
  pub shorter : length rest ≤ length path
  pub bytes : drop (length path - length rest) path ≡ rest
  pub fault : (path_in path).fault ≡ (path_in rest).fault
  pub nodes : concat (path_in path).nodes ≡ take (length path - length rest) path ++ concat (path_in rest).nodes

pub rest_at_first : (path : List ℕ) → IsRest path path
rest_at_first path =
    let none : length path - length path ≡ 0 = omega arith in
    record {
      shorter = omega arith;
      bytes = rw none refl;
      fault = refl;
      nodes = rw none refl;
    }

pub rest_after : (path rest : List ℕ) (size : ℕ) → IsRest path rest → first_size rest ≡ Ok (Some size) → size ≤ length rest → IsRest path (drop size rest)
rest_after path rest size so_far first fits =
    let front = length path - length rest in
    let more = path_in (drop size rest) in
    let step : path_in rest ≡ onto (take size rest) more = path_in-more rest size first in
    let left : length (drop size rest) ≡ length rest - size = length-drop size rest in
    let further : length path - length (drop size rest) ≡ front + size = omega (arith, left, so_far.shorter) in
    let bytes : take (front + size) path ≡ take front path ++ take size rest =
    take-add front size path ∙ ap (λ (xs : List ℕ). take front path ++ take size xs) so_far.bytes in
    record {
      shorter = omega (arith, left, so_far.shorter);
      bytes = ap (λ (n : ℕ). drop n path) further ∙ sym (drop-drop size front path) ∙ ap (drop size) so_far.bytes;
      fault = so_far.fault ∙ ap (λ (p : Path). p.fault) step;
      nodes =
          so_far.nodes ∙ ap (λ (p : Path). take front path ++ concat p.nodes) step
          ∙ sym (append_assoc (take front path) (take size rest) (concat more.nodes))
          ∙ ap (λ (xs : List ℕ). xs ++ concat more.nodes) (sym bytes ∙ ap (λ (n : ℕ). take n path) (sym further));
    }

-- ---- answers

-- a refusal refuses as itself
pub RefusesAs-same : (refusal : PathRefusal) (answer : Result (List ℕ) PathRefusal) → answer ≡ Err refusal → RefusesAs refusal answer
RefusesAs-same Short answer same = same
RefusesAs-same BadLength answer same = same
RefusesAs-same Unknown answer same = same
RefusesAs-same OutOfMemory answer same = tt

pub refused_nodes : (path rest : List ℕ) (refusal : PathRefusal) → IsRest path rest → first_size rest ≡ Err refusal → (path_in path).fault ≡ Some refusal
refused_nodes path rest refusal so_far bad = so_far.fault ∙ ap (λ (p : Path). p.fault) (path_in-refused rest refusal bad)

pub all_nodes : (path rest : List ℕ) → IsRest path rest → first_size rest ≡ Ok None → AreNodesOf (Ok (length path - length rest)) path
all_nodes path rest so_far end =
    let none : path_in rest ≡ record { nodes = []; fault = None } = path_in-end rest end in (
      so_far.fault ∙ ap (λ (p : Path). p.fault) none,
      so_far.nodes ∙ ap (λ (p : Path). take (length path - length rest) path ++ concat p.nodes) none ∙ append-nil (take (length path - length rest) path),
      omega arith,
    )
