-- A path by its nodes.
use Rattle.std.proofs.Common.{◌≡◌, ◌≤◌, ℕ, zero, suc, Bool, true, false, nat_lt, List, [], ◌∷◌, ◌++◌, length, drop, take, Option, Some, None, Result, Ok, Err, refl, ap, sym, subst, ◌∙◌, arith, length-drop, length-append, append_assoc}
use Rattle.std.specs.Prelude.{All}
use Rattle.std.specs.List.{concat}
use Rattle.std.proofs.lemmas.List.{length-take-le, take-append-drop}
use Rattle.std.proofs.lemmas.List.Folds.{concat-append}
use Rattle.std.proofs.Math.Seq.{take-append_seam, drop-append_seam}
use Rattle.std.proofs.lemmas.Bool.Decides.{nat_tests}
use Rattle.fw_types.specs.Layout.{uint16_at}
use Rattle.device_path.specs.DevicePath.{Path, end_node, header_of, is_end, node_at, onto, path_in, pci_node, ok_unless, with_pci}
use Rattle.device_path.specs.PathNodes.{EndsAs, IsInnerNode, IsPath}
use Rattle.device_path.specs.Steps.{first_size, size_from}
use Rattle.device_path.specs.declared.node.Node.{Node}
use Rattle.device_path.specs.declared.refusal.PathRefusal.{PathRefusal}
use Rattle.device_path.proofs.PathLemmas.{node_at-whole, path_in-end, path_in-more, path_in-refused}

-- ---- what is read of a node is read of its first four bytes

-- bytes that have a header: four of them, and more
record HasHeader (bytes : List ℕ) : Type 0 where
  kind : ℕ
  sub : ℕ
  low : ℕ
  high : ℕ
  more : List ℕ
  is : bytes ≡ kind ∷ sub ∷ low ∷ high ∷ more

has_header : (bytes : List ℕ) → 4 ≤ length bytes → HasHeader bytes
has_header [] h = absurd (omega arith)
has_header (a ∷ []) h = absurd (omega arith)
has_header (a ∷ b ∷ []) h = absurd (omega arith)
has_header (a ∷ b ∷ c ∷ []) h = absurd (omega arith)
has_header (a ∷ b ∷ c ∷ d ∷ more) h = record { kind = a; sub = b; low = c; high = d; more = more; is = refl }

-- bytes after them change nothing
pub header_of-append : (bytes more : List ℕ) → 4 ≤ length bytes → header_of (bytes ++ more) ≡ header_of bytes
unfolding uint16_at
header_of-append bytes more h =
    let has = has_header bytes h in
    rw has.is refl

pub is_end-append : (bytes more : List ℕ) → 4 ≤ length bytes → is_end (bytes ++ more) ≡ is_end bytes
is_end-append bytes more h =
    let has = has_header bytes h in
    rw has.is refl

nat_lt-is_false : (a b : ℕ) → b ≤ a → nat_lt a b ≡ false
nat_lt-is_false a b h = grind (arith, nat_tests)

-- a node that is there
pub node_at-there : (bytes : List ℕ) → 4 ≤ length bytes → 4 ≤ (header_of bytes).length → (header_of bytes).length ≤ length bytes → node_at bytes ≡ Ok (header_of bytes)
node_at-there bytes header some fits =
    rw (nat_lt-is_false (length bytes) 4 header, nat_lt-is_false (header_of bytes).length 4 some, nat_lt-is_false (length bytes) (header_of bytes).length fits) refl

-- ---- nodes are a path

-- a node in front of other bytes is the first
first_size-inner : (node more : List ℕ) → IsInnerNode node → first_size (node ++ more) ≡ Ok (Some (length node))
first_size-inner node more is =
    let whole = node_at-whole node (header_of node) is.is_node in
    let header : 4 ≤ length node = omega (arith, whole.some, whole.fits) in
    let same = header_of-append node more header in
    let long : (header_of (node ++ more)).length ≡ length node = ap (λ (n : Node). n.length) same ∙ is.all in
    let there = node_at-there (node ++ more) (omega (arith, header, length-append node more)) (omega (arith, long, header)) (omega (arith, long, length-append node more)) in
    ap (λ found. size_from found (is_end (node ++ more))) there
    ∙ ap (size_from (Ok (header_of (node ++ more)))) (is_end-append node more header ∙ is.inner)
    ∙ ap (λ (n : ℕ). Ok (Some n)) long

path_in-inner : (node more : List ℕ) → IsInnerNode node → path_in (node ++ more) ≡ onto node (path_in more)
path_in-inner node more is =
    path_in-more (node ++ more) (length node) (first_size-inner node more is)
    ∙ ap (λ (xs : List ℕ). onto xs (path_in (drop (length node) (node ++ more)))) (take-append_seam node more)
    ∙ ap (λ (xs : List ℕ). onto node (path_in xs)) (drop-append_seam node more)

path_in-ends : (rest : List ℕ) (fault : Option PathRefusal) → EndsAs fault rest → path_in rest ≡ record { nodes = []; fault = fault }
path_in-ends rest None ends = path_in-end rest (ap (λ found. size_from found (is_end rest)) ends.0 ∙ ap (size_from (Ok (header_of rest))) ends.1)
path_in-ends rest (Some refusal) ends = path_in-refused rest refusal (ap (λ found. size_from found (is_end rest)) ends)

path_in-nodes : (nodes : List (List ℕ)) (rest : List ℕ) (fault : Option PathRefusal) → All IsInnerNode nodes → EndsAs fault rest → path_in (concat nodes ++ rest) ≡ record { nodes = nodes; fault = fault }
path_in-nodes [] rest fault inner ends = path_in-ends rest fault ends
path_in-nodes (node ∷ nodes) rest fault inner ends =
    ap path_in (append_assoc node (concat nodes) rest)
    ∙ path_in-inner node (concat nodes ++ rest) (inner 0 node (omega arith))
    ∙ ap (onto node) (path_in-nodes nodes rest fault (λ k d h. inner (suc k) d (omega arith)) ends)

pub path_in-path : (bytes : List ℕ) (path : Path) → IsPath bytes path → path_in bytes ≡ path
path_in-path bytes path is = ap path_in is.whole ∙ path_in-nodes path.nodes is.rest path.fault is.nodes is.ends

-- ---- bytes are nodes

-- a first node is there, is whole, and is not the End node
record IsFirst (found : Result Node PathRefusal) (last : Bool) (size : ℕ) : Type 0 where
  node : Node
  is : found ≡ Ok node
  inner : last ≡ false
  long : node.length ≡ size

first_by : (found : Result Node PathRefusal) (last : Bool) (size : ℕ) → size_from found last ≡ Ok (Some size) → IsFirst found last size
first_by (Err refusal) last size h = absurd cc
first_by (Ok node) true size h = absurd cc
first_by (Ok node) false size h = record { node = node; is = refl; inner = refl; long = cc }

record IsFirstNode (bytes : List ℕ) (size : ℕ) : Type 0 where
  inner : IsInnerNode (take size bytes)
  some : 4 ≤ size
  fits : size ≤ length bytes

first_node : (bytes : List ℕ) (size : ℕ) → first_size bytes ≡ Ok (Some size) → IsFirstNode bytes size
first_node bytes size first =
    let by = first_by (node_at bytes) (is_end bytes) size first in
    let whole = node_at-whole bytes by.node by.is in
    let long : (header_of bytes).length ≡ size = ap (λ (n : Node). n.length) (sym whole.is) ∙ by.long in
    let some : 4 ≤ size = omega (arith, long, whole.some) in
    let fits : size ≤ length bytes = omega (arith, long, whole.fits) in
    let front : length (take size bytes) ≡ size = length-take-le size bytes fits in
    let header : 4 ≤ length (take size bytes) = omega (arith, front, some) in
    let whole_again : take size bytes ++ drop size bytes ≡ bytes = take-append-drop size bytes in
    let same : header_of (take size bytes) ≡ header_of bytes = sym (header_of-append (take size bytes) (drop size bytes) header) ∙ ap header_of whole_again in
    let all : (header_of (take size bytes)).length ≡ length (take size bytes) = ap (λ (n : Node). n.length) same ∙ long ∙ sym front in
    record {
      inner = record {
        is_node = node_at-there (take size bytes) header (omega (arith, all, header)) (omega (arith, all));
        all = all;
        inner = sym (is_end-append (take size bytes) (drop size bytes) header) ∙ ap is_end whole_again ∙ by.inner;
      };
      some = some;
      fits = fits;
    }

ends_by : (bytes : List ℕ) (found : Result Node PathRefusal) (last : Bool) → node_at bytes ≡ found → is_end bytes ≡ last → size_from found last ≡ Ok None → EndsAs None bytes
ends_by bytes (Err refusal) last is mark h = absurd cc
ends_by bytes (Ok node) true is mark h = (is ∙ ap (λ (n : Node). Ok n) (node_at-whole bytes node is).is, mark)
ends_by bytes (Ok node) false is mark h = absurd cc

refused_at : (found : Result Node PathRefusal) (last : Bool) (refusal : PathRefusal) → size_from found last ≡ Err refusal → found ≡ Err refusal
refused_at (Err other) last refusal h = cc
refused_at (Ok node) true refusal h = absurd cc
refused_at (Ok node) false refusal h = absurd cc

path_at_end : (bytes : List ℕ) → EndsAs None bytes → IsPath bytes (record { nodes = []; fault = None })
path_at_end bytes ends = record { rest = bytes; whole = refl; nodes = λ k d h. absurd (omega arith); ends = ends }

all_more : (node : List ℕ) (nodes : List (List ℕ)) → IsInnerNode node → All IsInnerNode nodes → All IsInnerNode (node ∷ nodes)
all_more node nodes here others zero d h = here
all_more node nodes here others (suc k) d h = others k d (omega arith)

path_more : (bytes : List ℕ) (size : ℕ) (path : Path) → IsInnerNode (take size bytes) → IsPath (drop size bytes) path → IsPath bytes (onto (take size bytes) path)
path_more bytes size path inner is = record {
  rest = is.rest;
  whole =
      sym (take-append-drop size bytes) ∙ ap (λ (xs : List ℕ). take size bytes ++ xs) is.whole
      ∙ sym (append_assoc (take size bytes) (concat path.nodes) is.rest);
  nodes = all_more (take size bytes) path.nodes inner is.nodes;
  ends = is.ends;
}

path_by : (bytes : List ℕ) (found : Result (Option ℕ) PathRefusal) → first_size bytes ≡ found → ((size : ℕ) → first_size bytes ≡ Ok (Some size) → IsPath (drop size bytes) (path_in (drop size bytes))) → IsPath bytes (path_in bytes)
path_by bytes (Err refusal) is more =
    subst (λ (path : Path). IsPath bytes path) (sym (path_in-refused bytes refusal is))
    (record { rest = bytes; whole = refl; nodes = λ k d h. absurd (omega arith); ends = refused_at (node_at bytes) (is_end bytes) refusal is })
path_by bytes (Ok None) is more =
    subst (λ (path : Path). IsPath bytes path) (sym (path_in-end bytes is)) (path_at_end bytes (ends_by bytes (node_at bytes) (is_end bytes) refl refl is))
path_by bytes (Ok (Some size)) is more =
    subst (λ (path : Path). IsPath bytes path) (sym (path_in-more bytes size is)) (path_more bytes size (path_in (drop size bytes)) (first_node bytes size is).inner (more size is))

path_is : (most : ℕ) (bytes : List ℕ) → length bytes ≤ most → IsPath bytes (path_in bytes)
path_is zero bytes h =
    path_by bytes (first_size bytes) refl (λ size is. let first = first_node bytes size is in absurd (omega (arith, first.some, first.fits, h)))
path_is (suc most) bytes h =
    path_by bytes (first_size bytes) refl (λ size is. let first = first_node bytes size is in
    path_is most (drop size bytes) (omega (arith, first.some, first.fits, h, length-drop size bytes)))

pub IsPath-path_in : (bytes : List ℕ) → IsPath bytes (path_in bytes)
IsPath-path_in bytes = path_is (length bytes) bytes (omega arith)

-- ---- after the end

end_stays : (rest more : List ℕ) → EndsAs None rest → EndsAs None (rest ++ more)
end_stays rest more ends =
    let whole = node_at-whole rest (header_of rest) ends.0 in
    let header : 4 ≤ length rest = omega (arith, whole.some, whole.fits) in
    let same = header_of-append rest more header in
    let long : (header_of (rest ++ more)).length ≡ (header_of rest).length = ap (λ (n : Node). n.length) same in
    let longer = length-append rest more in (
      node_at-there (rest ++ more) (omega (arith, header, longer)) (omega (arith, long, whole.some)) (omega (arith, long, whole.fits, longer)),
      is_end-append rest more header ∙ ends.1,
    )

ended_path : (bytes more : List ℕ) (path : Path) → path.fault ≡ None → IsPath bytes path → IsPath (bytes ++ more) path
ended_path bytes more path ended is =
    let Ends : Option PathRefusal → List ℕ → Type 0 = EndsAs in
    record {
      rest = is.rest ++ more;
      whole = ap (λ (xs : List ℕ). xs ++ more) is.whole ∙ append_assoc (concat path.nodes) is.rest more;
      nodes = is.nodes;
      ends = subst (λ (fault : Option PathRefusal). EndsAs fault (is.rest ++ more)) (sym ended) (end_stays is.rest more (subst (λ (fault : Option PathRefusal). EndsAs fault is.rest) ended is.ends));
    }

pub path_in-append : (bytes more : List ℕ) → (path_in bytes).fault ≡ None → path_in (bytes ++ more) ≡ path_in bytes
path_in-append bytes more ended = path_in-path (bytes ++ more) (path_in bytes) (ended_path bytes more (path_in bytes) ended (IsPath-path_in bytes))

-- ---- one more node

ok_unless-ok : (fault : Option PathRefusal) (bytes child : List ℕ) → ok_unless fault bytes ≡ Ok child → (fault ≡ None) × (child ≡ bytes)
ok_unless-ok None bytes child h = (refl, cc)
ok_unless-ok (Some refusal) bytes child h = absurd cc

pub all_after : (nodes : List (List ℕ)) (node : List ℕ) → All IsInnerNode nodes → IsInnerNode node → All IsInnerNode (nodes ++ node ∷ [])
all_after [] node all last = all_more node [] last all
all_after (first ∷ nodes) node all last =
    all_more first (nodes ++ node ∷ []) (all 0 first (omega arith)) (all_after nodes node (λ k d h. all (suc k) d (omega arith)) last)

pub path_in-with_pci : (bytes child : List ℕ) (device function : ℕ) → with_pci (path_in bytes) device function ≡ Ok child
    → path_in child ≡ record { nodes = (path_in bytes).nodes ++ pci_node device function ∷ []; fault = None }
unfolding uint16_at
path_in-with_pci bytes child device function h =
    let nodes = (path_in bytes).nodes in
    let node = pci_node device function in
    let due = ok_unless-ok (path_in bytes).fault (concat nodes ++ node ++ end_node) child h in
    path_in-path child (record { nodes = nodes ++ node ∷ []; fault = None }) (record {
      rest = end_node;
      whole = due.1 ∙ ap (λ (xs : List ℕ). xs ++ end_node) (sym (concat-append nodes (node ∷ [])));
      nodes = all_after nodes node (IsPath-path_in bytes).nodes (record { is_node = refl; all = refl; inner = refl });
      ends = (refl, refl);
    })
