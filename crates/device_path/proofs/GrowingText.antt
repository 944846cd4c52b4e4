-- The text of a path with one more node.
use Rattle.std.proofs.Common.{◌≡◌, ◌<◌, ℕ, Bool, true, false, ◌||◌, nat_eq, List, [], ◌∷◌, ◌++◌, length, Option, Some, None, Ok, Err, if◌then◌else◌, refl, ap, sym, ◌∙◌, arith, append_assoc, length-append}
use Rattle.std.specs.Prelude.{option_map}
use Rattle.std.specs.List.{cons_option, filter_map, join_with_byte, list_any}
use Rattle.std.proofs.lemmas.Bool.Decides.{nat_tests}
use Rattle.std.proofs.lemmas.List.Elements.{filter_map-append}
use Rattle.std.proofs.lemmas.List.Folds.{list_any-append}
use Rattle.device_path.specs.DevicePath.{path_in, pci_node, ok_unless, with_pci}
use Rattle.device_path.specs.PathNodes.{with_node}
use Rattle.device_path.specs.PathText.{is_unknown, text_of_nodes, known_node, known_text, node_text, text_of}
use Rattle.device_path.specs.declared.known.KnownNode.{KnownNode}
use Rattle.device_path.specs.declared.known.KnownNode.TheVariants.{PciRoot, Pci}
use Rattle.device_path.specs.declared.refusal.PathRefusal.{PathRefusal}
use Rattle.device_path.specs.declared.refusal.PathRefusal.TheVariants.{Unknown}
use Rattle.device_path.proofs.NodesLemmas.{path_in-with_pci}

-- ---- texts that are joined

-- a text of at least one byte
HasSome : List ℕ → Type 0
HasSome text = 0 < length text

-- each of them is
EachHasSome : List (List ℕ) → Type 0
EachHasSome [] = Unit {0}
EachHasSome (text ∷ texts) = HasSome text × EachHasSome texts

with_node-some : (text node : List ℕ) → HasSome text → with_node text node ≡ text ++ 47 ∷ node
unfolding HasSome
with_node-some text node h =
    let some : nat_eq (length text) 0 ≡ false = grind (arith, nat_tests) in
    rw some (append_assoc text (47 ∷ []) node)

join-some : (text : List ℕ) (texts : List (List ℕ)) → HasSome text → HasSome (join_with_byte 47 (text ∷ texts))
unfolding HasSome
join-some text [] h = h
join-some text (next ∷ texts) h = omega (arith, length-append text (47 ∷ join_with_byte 47 (next ∷ texts)))

join-more : (texts : List (List ℕ)) (node : List ℕ) → EachHasSome texts → join_with_byte 47 (texts ++ node ∷ []) ≡ with_node (join_with_byte 47 texts) node
unfolding EachHasSome
join-more [] node all = refl
join-more (text ∷ []) node all = sym (with_node-some text node all.0)
join-more (text ∷ next ∷ texts) node all =
    let rest = join_with_byte 47 (next ∷ texts) in
    ap (λ (xs : List ℕ). text ++ 47 ∷ xs) (join-more (next ∷ texts) node all.1 ∙ with_node-some rest node (join-some next texts all.1.0))
    ∙ sym (append_assoc text (47 ∷ rest) (47 ∷ node))
    ∙ sym (with_node-some (text ++ 47 ∷ rest) node (join-some text (next ∷ texts) all.0))

-- ---- the texts of nodes

known_text-some : (node : KnownNode) → HasSome (known_text node)
unfolding HasSome
known_text-some (PciRoot uid) = omega arith
known_text-some (Pci device function) = omega arith

some_more : (node : Option KnownNode) (texts : List (List ℕ)) → EachHasSome texts → EachHasSome (cons_option (option_map known_text node) texts)
unfolding EachHasSome
some_more None texts all = all
some_more (Some node) texts all = (known_text-some node, all)

texts_have_some : (nodes : List (List ℕ)) → EachHasSome (filter_map node_text nodes)
unfolding EachHasSome
texts_have_some [] = tt
texts_have_some (node ∷ nodes) = some_more (known_node node) (filter_map node_text nodes) (texts_have_some nodes)

-- ---- the text of a path

text_of-ok : (any : Bool) (fault : Option PathRefusal) (due text : List ℕ) → (if any then Err Unknown else ok_unless fault due) ≡ Ok text → (any ≡ false) × (due ≡ text)
text_of-ok true fault due text h = absurd cc
text_of-ok false (Some refusal) due text h = absurd cc
text_of-ok false None due text h = (refl, cc)

pub text_of-with_pci : (bytes child text : List ℕ) (device function : ℕ) → with_pci (path_in bytes) device function ≡ Ok child → text_of (path_in bytes) ≡ Ok text
    → text_of (path_in child) ≡ Ok (with_node text (known_text (Pci device function)))
text_of-with_pci bytes child text device function due before =
    let nodes = (path_in bytes).nodes in
    let node = pci_node device function in
    let word = known_text (Pci device function) in
    let texts = filter_map node_text nodes in
    let is = text_of-ok (list_any is_unknown nodes) (path_in bytes).fault (text_of_nodes nodes) text before in
    let known : list_any is_unknown (nodes ++ node ∷ []) ≡ false = list_any-append is_unknown nodes (node ∷ []) ∙ ap (λ b. b || false) is.0 in
    let now : text_of_nodes (nodes ++ node ∷ []) ≡ with_node text word =
    ap (join_with_byte 47) (filter_map-append node_text nodes (node ∷ []))
    ∙ join-more texts word (texts_have_some nodes)
    ∙ ap (λ (xs : List ℕ). with_node xs word) is.1 in
    ap text_of (path_in-with_pci bytes child device function due)
    ∙ ap (λ b. if b then Err Unknown else ok_unless None (text_of_nodes (nodes ++ node ∷ []))) known
    ∙ ap (λ (xs : List ℕ). Ok xs) now
