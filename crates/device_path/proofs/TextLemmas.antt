-- The text of a path, a node at a time.
use Rattle.std.proofs.Common.{◌≡◌, ℕ, List, [], ◌∷◌, ◌++◌, Some, None, Result, Ok, Err, if◌then◌else◌, drop, take, refl, ap, sym, append_assoc, append-nil}
use Rattle.std.specs.List.{filter_map, join_with_byte, list_any}
use Rattle.device_path.specs.DevicePath.{Path, path_in, ok_unless}
use Rattle.device_path.specs.PathText.{is_unknown, known_node, known_text, node_text, text_of}
use Rattle.device_path.specs.Steps.{first_size}
use Rattle.device_path.specs.declared.known.KnownNode.{KnownNode}
use Rattle.device_path.proofs.PathLemmas.{path_in-end, path_in-more, path_in-refused}
use Rattle.device_path.specs.declared.refusal.PathRefusal.{PathRefusal}
use Rattle.device_path.specs.declared.refusal.PathRefusal.TheVariants.{Unknown}

-- texts, the first of which comes after a separator, and each other after a slash
pub tail : List ℕ → List (List ℕ) → List ℕ
tail separator [] = []
tail separator (text ∷ texts) = separator ++ text ++ tail (47 ∷ []) texts

-- the text of a path that begins with so much, and goes on with the texts of nodes
pub text_after : List ℕ → List ℕ → Path → Result (List ℕ) PathRefusal
text_after text separator path =
    if list_any is_unknown path.nodes then Err Unknown else ok_unless path.fault (text ++ tail separator (filter_map node_text path.nodes))

tail-join : (text : List ℕ) (texts : List (List ℕ)) → text ++ tail (47 ∷ []) texts ≡ join_with_byte 47 (text ∷ texts)
unfolding tail
tail-join text [] = append-nil text
tail-join text (next ∷ texts) = ap (λ (xs : List ℕ). text ++ 47 ∷ xs) (tail-join next texts)

tail-none : (texts : List (List ℕ)) → tail [] texts ≡ join_with_byte 47 texts
unfolding tail
tail-none [] = refl
tail-none (text ∷ texts) = tail-join text texts

-- the text of a path goes on from nothing
pub text_after-nothing : (path : Path) → text_of path ≡ text_after [] [] path
unfolding text_after
text_after-nothing path =
    ap (λ (text : List ℕ). if list_any is_unknown path.nodes then Err Unknown else ok_unless path.fault text) (sym (tail-none (filter_map node_text path.nodes)))

-- it is all there at the end
pub text_after-end : (text separator rest : List ℕ) → first_size rest ≡ Ok None → text_after text separator (path_in rest) ≡ Ok text
unfolding text_after tail
text_after-end text separator rest end = rw (path_in-end rest end) (ap (λ (xs : List ℕ). Ok xs) (append-nil text))

-- a bad node refuses it
pub text_after-refused : (text separator rest : List ℕ) (refusal : PathRefusal) → first_size rest ≡ Err refusal → text_after text separator (path_in rest) ≡ Err refusal
unfolding text_after
text_after-refused text separator rest refusal bad = rw (path_in-refused rest refusal bad) refl

-- and so does a node with no text
pub text_after-unknown : (text separator rest : List ℕ) (size : ℕ) → first_size rest ≡ Ok (Some size) → known_node (take size rest) ≡ None → text_after text separator (path_in rest) ≡ Err Unknown
unfolding text_after
text_after-unknown text separator rest size first none = rw (path_in-more rest size first, none) refl

-- the text of a node is put after the separator
pub text_after-known : (text separator rest : List ℕ) (size : ℕ) (known : KnownNode) → first_size rest ≡ Ok (Some size) → known_node (take size rest) ≡ Some known
    → text_after text separator (path_in rest) ≡ text_after (text ++ (separator ++ known_text known)) (47 ∷ []) (path_in (drop size rest))
unfolding text_after tail
text_after-known text separator rest size known first is =
    let more = path_in (drop size rest) in
    let texts = tail (47 ∷ []) (filter_map node_text more.nodes) in
    let same : text ++ (separator ++ known_text known ++ texts) ≡ (text ++ (separator ++ known_text known)) ++ texts = sym (append_assoc text (separator ++ known_text known) texts) in
    rw (path_in-more rest size first, is)
    (ap (λ (xs : List ℕ). if list_any is_unknown more.nodes then Err Unknown else ok_unless more.fault xs) same)
