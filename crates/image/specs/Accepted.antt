-- What an accepted image holds, by its frame: the ghost field of the type that the questions and the walk read.
use Rattle.std.specs.Prelude.{ℕ, ◌+◌, ◌*◌, ◌<◌, ◌≤◌, ◌≡◌, List, ◌++◌, map, length, take, drop}
use Rattle.spec.specs.Bytes.{Bytes, concat, pack, le32}
use Rattle.spec.specs.Image.{ranks, samples}
use Rattle.spec.specs.Leaves.{Leaf}
use Rattle.spec.specs.Frame.{read_settings}
use Rattle.spec.specs.Nodes.{Node, is_exact, read_nodes, read_leaves, total, children_of}
use Rattle.bits.specs.Bits.{rank}
use Rattle.image.specs.declared.Frame.{Frame}
use Rattle.theory.proofs.LeafLists.{Realizable, AllWellSized, SpareClear}
use Rattle.theory.specs.Terms.{All}
use Rattle.theory.proofs.ImageParts.{Writable}
use Rattle.theory.proofs.NodeBits.{sparse_labels, dense_labels, dense_has_child, sparse_has_child, louds, slots}
use Rattle.theory.proofs.LevelTrie.{trie}
use Rattle.theory.proofs.LevelStarts.{starts_from, children_to}

-- s starts with the bytes of b
abbrev pub Starts : Bytes → Bytes → Type 0
Starts b s = (t : Bytes) × (s ≡ b ++ t)

-- the dense nodes of an image, by its frame's count
abbrev pub dense_nodes : Bytes → Frame → List Node
dense_nodes s f = take f.dense.nodes (read_nodes s)

-- its sparse nodes
abbrev pub sparse_nodes : Bytes → Frame → List Node
sparse_nodes s f = drop f.dense.nodes (read_nodes s)

-- all its nodes in level order
abbrev pub nodes : Bytes → Frame → List Node
nodes s f = dense_nodes s f ++ sparse_nodes s f

-- the body b stands in s from offset `at` on
abbrev pub Body : Bytes → Bytes → ℕ → Type 0
Body b s at = (at ≤ length s) × Starts b (drop at s)

-- What the image s with the frame f holds: its slots have hash bits and real bits, the bodies are those of the dense nodes ds and the sparse nodes ss, the counts and the totals agree,
-- LV, in the version that has it, is the first nodes of the levels, each one behind the branches that continue before the last,
-- nodes are continuing branches plus one, and they are the trie of the leaf list ls.
pub record Holds (s : Bytes) (f : Frame) (ds ss : List Node) (ls : List Leaf) : Type 0 where
  pub hash_is : (read_settings s).hash_width ≡ f.hash_width
  pub width_is : f.width ≡ f.hash_width + f.real_width
  pub hash_range : f.hash_width ≤ 16
  pub real_range : f.real_width ≤ 16
  pub writable : Writable f.width f.leaves ds ss
  pub dense_size : length ds ≡ f.dense.nodes
  pub entry_size : length (concat (map sparse_labels ss)) ≡ f.sparse.entries
  pub sparse_size : length ss ≡ f.sparse.nodes
  pub node_total : 0 < f.dense.nodes + f.sparse.nodes → f.dense.nodes + f.sparse.nodes ≡ 1 + total children_of (ds ++ ss)
  pub realizable : Realizable f.width ls
  pub well_sized : AllWellSized f.width ls
  pub spare : All (SpareClear f.hash_width) ls
  pub trie_is : ds ++ ss ≡ concat (trie ls)
  pub DL : Body (pack (concat (map dense_labels ds))) s f.dl
  pub DC : Body (pack (concat (map dense_has_child ds))) s f.dc
  pub DP : Body (pack (map is_exact ds)) s f.dp
  pub SL : Body (concat (map sparse_labels ss)) s f.sl
  pub SC : Body (pack (concat (map sparse_has_child ss))) s f.sc
  pub SB : Body (pack (concat (map louds ss))) s f.sb
  pub SV : Body (pack (concat (map slots (ds ++ ss)))) s f.sv
  pub RL : Body (ranks 64 (concat (map dense_labels ds))) s f.rl
  pub RC : Body (ranks 64 (concat (map dense_has_child ds))) s f.rc
  pub RP : Body (ranks 64 (map is_exact ds)) s f.rp
  pub RS : Body (ranks 512 (concat (map sparse_has_child ss))) s f.rs
  pub TS : Body (samples (concat (map louds ss))) s f.ts
  pub LV : f.version ≡ 2 → (f.lv ≤ length s) × (drop f.lv s ≡ concat (map le32 (starts_from (children_to (ds ++ ss)) (length (ds ++ ss)) 64 0)))
  pub children : f.totals.children ≡ rank (drop f.dc s) (256 * f.dense.nodes)
  pub items : f.totals.entries ≡ rank (drop f.dl s) (256 * f.dense.nodes) + rank (drop f.dp s) f.dense.nodes

-- The image with this frame is accepted: it holds the nodes and the leaf list that are read from it.
abbrev pub Accepted : Bytes → Frame → Type 0
Accepted s f = Holds s f (dense_nodes s f) (sparse_nodes s f) (read_leaves s)
