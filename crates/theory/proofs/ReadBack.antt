-- An image's leaves and settings are read back (`read_back`, `settings_back`), so an image is of one leaf list only (`image_injective`).
-- Used by the buyer's demands and by the calls over an accepted image.
use Rattle.std.specs.Prelude.{ℕ, ◌≡◌, refl, List, [], ◌++◌, drop, length}
use Rattle.std.proofs.Common.{ap, ◌∙◌, sym}
use Rattle.std.proofs.Math.Option.{some, Option, none}
use Rattle.spec.specs.Bytes.{Bytes, concat}
use Rattle.spec.specs.Leaves.{Leaf}
use Rattle.spec.specs.Image.{Settings, slot_width, image, header}
use Rattle.spec.specs.Frame.{rows_of, read_bodies, parts, read_settings, named}
use Rattle.spec.specs.Nodes.{read_nodes, nodes_of, Node, leaves_of, levels_of, total, groups, read_leaves}
use Rattle.theory.proofs.LevelTrie.{trie}
use Rattle.theory.proofs.TrieGroups.{trie_leaves, well_sized_depth}
use Rattle.theory.proofs.Levels.{levels_of_concat}
use Rattle.theory.proofs.TrieTests.{EmptyOrValid, empty_list, valid_trie, root_first_width, realizable_trie}
use Rattle.theory.proofs.NodeBits.{node_image, version_bodies}
use Rattle.theory.proofs.LiteralImage.{Buildable}
use Rattle.theory.proofs.ImageParts.{Writable, node_image_bodies, parts_back, nodes_back, image_holds}

-- The nodes of bodies that are read.
pub read_nodes_bodies : (s : Bytes) (bs : List Bytes) → read_bodies (rows_of s) (drop 22 s) ≡ some bs → read_nodes s ≡ nodes_of (parts s (named bs))
unfolding read_nodes
read_nodes_bodies s bs h = ap {B = List Node} (λ (f : Option (List Bytes)). elim f [ none ↦ [] | some bs ↦ nodes_of (parts s (named bs)) ]) h

-- The nodes of their image are read back.
node_image_nodes : (st : Settings) (count : ℕ) (ds ss : List Node) → Writable (slot_width st) count ds ss → read_nodes (node_image st count ds ss) ≡ ds ++ ss
node_image_nodes st count ds ss w =
    read_nodes_bodies (node_image st count ds ss) (version_bodies st.version ds ss) (node_image_bodies st count ds ss w) ∙ ap nodes_of (parts_back st count ds ss w) ∙ nodes_back st count ds ss w

-- A trie's levels are cut again from its nodes.
levels_of_trie : {ls : List Leaf} → EmptyOrValid ls → leaves_of (levels_of (concat (trie ls))) ≡ leaves_of (trie ls)
unfolding leaves_of levels_of total trie concat groups
levels_of_trie empty_list = refl
levels_of_trie (valid_trie {ls = ls} t) =
    ap leaves_of (levels_of_concat (trie ls) t.linked (root_first_width t) t.shallow)

-- An image of a buildable leaf list gives back its leaves: cut keys, kinds and suffixes.
pub read_back : (st : Settings) (ls : List Leaf) → Buildable st ls → read_leaves (image st ls) ≡ ls
unfolding read_leaves
read_back st ls v =
    let h = image_holds st ls v in
    let n : read_nodes (image st ls) ≡ concat (trie ls) = ap read_nodes h.image_is ∙ node_image_nodes st (length ls) h.dense_nodes h.sparse_nodes h.writable ∙ h.whole in
    ap (λ (z : List Node). leaves_of (levels_of z)) n ∙ levels_of_trie (realizable_trie (slot_width st) ls v.realizable v.well_sized) ∙ trie_leaves ls v.realizable (well_sized_depth (slot_width st) ls v.well_sized)

-- An image's header gives back the settings.
pub settings_back : (st : Settings) (ls : List Leaf) → read_settings (image st ls) ≡ st
unfolding read_settings image header
settings_back st ls = refl

-- Two buildable leaf lists with the same image are the same, and so are their settings.
pub image_injective : (st st' : Settings) (ls ls' : List Leaf) → Buildable st ls → Buildable st' ls' → image st ls ≡ image st' ls' → (st ≡ st') × (ls ≡ ls')
image_injective st st' ls ls' v v' e = (
  sym (settings_back st ls) ∙ ap read_settings e ∙ settings_back st' ls',
  sym (read_back st ls v) ∙ ap read_leaves e ∙ read_back st' ls' v',
)
