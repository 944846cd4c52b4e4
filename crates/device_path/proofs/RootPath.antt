-- The path of a root bridge, and its text.
use Rattle.std.proofs.Common.{◌≡◌, ◌<◌, ◌^◌, ℕ, [], ◌∷◌, None, Ok, refl, ap, ◌∙◌, arith}
use Rattle.byteorder.specs.Numbers.{little_number-reads_back}
use Rattle.fw_types.specs.Layout.{uint16_at, uint32_at}
use Rattle.device_path.specs.DevicePath.{end_node, path_in, root_node, root_path}
use Rattle.device_path.specs.PathText.{known_text, text_of}
use Rattle.device_path.specs.declared.known.KnownNode.TheVariants.{PciRoot}
use Rattle.device_path.proofs.NodesLemmas.{all_after, path_in-path}

pub path_in-root : (uid : ℕ) → path_in (root_path uid) ≡ record { nodes = root_node uid ∷ []; fault = None }
unfolding uint16_at
path_in-root uid =
    path_in-path (root_path uid) (record { nodes = root_node uid ∷ []; fault = None }) (record {
      rest = end_node;
      whole = refl;
      nodes = all_after [] (root_node uid) (λ k d h. absurd (omega arith)) (record { is_node = refl; all = refl; inner = refl });
      ends = (refl, refl);
    })

read_back : (uid : ℕ) → uid < 2 ^ 32 → uint32_at 8 (root_node uid) ≡ uid
unfolding uint32_at
read_back uid small = little_number-reads_back 4 uid [] small

pub text_of-root : (uid : ℕ) → uid < 2 ^ 32 → text_of (path_in (root_path uid)) ≡ Ok (known_text (PciRoot uid))
text_of-root uid small = ap text_of (path_in-root uid) ∙ ap (λ (n : ℕ). Ok (known_text (PciRoot n))) (read_back uid small)
