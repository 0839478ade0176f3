-- An image that the check takes, with its frame, is accepted: where the ghost field of an accepted image comes from.
use Rattle.std.specs.Prelude.{ℕ, suc, ◌+◌, ◌*◌, ◌≤◌, ◌<◌, ◌≡◌, refl, Bool, true, cond, take, drop, eqb}
use Rattle.std.proofs.Common.{sym, ap₂, subst, ◌∙◌, arith, length-append, take-append-drop, take_at, drop_at, eq-eqb}
use Rattle.std.proofs.Math.Path.{ap}
use mathlib.Core.List.{List, [], ◌∷◌, ◌++◌, map}
use Rattle.std.proofs.Math.Option.{some}
use Rattle.std.proofs.Math.ListN.{length, get_or}
use Rattle.spec.specs.Bytes.{Bytes, blocks, concat, le32}
use Rattle.spec.specs.Leaves.{Leaf}
use Rattle.spec.specs.Image.{Settings, slot_width, in_order, level_starts, level_bodies}
use Rattle.spec.specs.Frame.{rows_of, read_bodies, read_settings, Parts, parts, named}
use Rattle.spec.specs.Nodes.{Node, is_exact, total, children_of, levels_of, nodes_of, read_nodes, read_leaves}
use Rattle.spec.specs.Check.{verdict}
use Rattle.image.specs.declared.Frame.{Frame}
use Rattle.bits.specs.Bits.{part}
use Rattle.image.specs.FrameOf.{FrameOf, Within, within, twelve_bodies, frame_bodies, frame_parts}
use Rattle.image.specs.Accepted.{Body, Holds, Accepted, dense_nodes, sparse_nodes}
use Rattle.theory.proofs.LeafLists.{Realizable, AllWellSized, SpareClear}
use Rattle.theory.specs.Terms.{IsBytes, All}
use Rattle.theory.proofs.ReadBack.{read_back}
use Rattle.theory.proofs.ImageParts.{Writable, node_image_bodies, parts_of_nodes, parts_back, nodes_back, image_holds}
use Rattle.theory.proofs.NodeBits.{node_image, version_bodies, bodies_of, dense_labels, dense_has_child, sparse_labels, sparse_has_child, louds, slots, bodies_bits}
use Rattle.theory.proofs.LevelTrie.{trie}
use Rattle.theory.proofs.Levels.{linked_count}
use Rattle.theory.proofs.LevelStarts.{starts_from, children_to, trie_level_starts}
use Rattle.theory.proofs.LinkedLevels.{first_width, levels_back}
use Rattle.theory.proofs.TrieTests.{realizable_trie, EmptyOrValid, empty_list, valid_trie}
use Rattle.theory.proofs.Accept.{accepted_is_image}
use Rattle.theory.proofs.ReadBack.{read_nodes_bodies}

-- Nodes are continuing branches plus one, where there are nodes.
pub node_total : (n : ℕ) (ls : List Leaf) (ns : List Node) → Realizable n ls → AllWellSized n ls → ns ≡ concat (trie ls) → 0 < length ns → length ns ≡ 1 + total children_of ns
unfolding trie concat
node_total n ls ns g o e h = go (realizable_trie n ls g o) e
  where
    go : {ls : List Leaf} → EmptyOrValid ls → ns ≡ concat (trie ls) → length ns ≡ 1 + total children_of ns
    go empty_list e = absurd (omega (arith, ap length e))
    go (valid_trie {ls = ls} t) e =
        let z : first_width (trie ls) ≡ 1 = sym (levels_back (trie ls) t.linked).wide ∙ ap length t.root in
        rw e (omega (arith, linked_count (trie ls) t.linked))

-- a body at its offset
body_at : (s b : Bytes) (at n : ℕ) → at ≤ length s → part s at n ≡ b → Body b s at
body_at s b at n h e = (h, (drop n (drop at s), sym (take-append-drop n (drop at s)) ∙ ap (λ (z : Bytes). z ++ drop n (drop at s)) e))

some_same : {A : Type 0} (a b : A) → some a ≡ some b → a ≡ b
some_same a b h = cc

-- body number i of two lists of bodies that are the same
body_same : (cs bs : List Bytes) → cs ≡ bs → (i : ℕ) → get_or cs i [] ≡ get_or bs i []
body_same cs bs e i = ap (λ (z : List Bytes). get_or z i []) e

-- the hash bits of an image, by the frame that is read from it
pub hash_read : (s : Bytes) (f : Frame) → FrameOf s f → (read_settings s).hash_width ≡ f.hash_width
unfolding parts
hash_read s f fr = ap (λ (p : Parts). p.settings.hash_width) fr.parts_are

module _ (s : Bytes) (f : Frame) (fr : FrameOf s f) (st : Settings) (ls : List Leaf) (ds ss : List Node) (w : Writable (slot_width st) (length ls) ds ss) (is : s ≡ node_image st (length ls) ds ss)
    (whole : ds ++ ss ≡ concat (trie ls)) (good : Realizable (slot_width st) ls) (ok : AllWellSized (slot_width st) ls) (spares : All (SpareClear st.hash_width) ls) where
  framed : read_bodies (rows_of s) (drop 22 s) ≡ some (version_bodies st.version ds ss)
  framed = rw is (node_image_bodies st (length ls) ds ss w)

  -- the bodies of the image are those of its nodes
  all_same : frame_bodies s f ≡ version_bodies st.version ds ss
  all_same = some_same (frame_bodies s f) (version_bodies st.version ds ss) (sym fr.bodies ∙ framed)

  bodies_same : twelve_bodies s f ≡ in_order (bodies_of (concat (map dense_labels ds)) (concat (map dense_has_child ds)) (map is_exact ds) (concat (map sparse_labels ss)) (concat (map sparse_has_child ss)) (concat (map louds ss)) (concat (map slots (ds ++ ss))))
  bodies_same = ap (take 12) all_same ∙ ap in_order (bodies_bits ds ss)

  parts_same : frame_parts s f ≡ parts_of_nodes st (length ls) ds ss
  parts_same =
      sym fr.parts_are ∙ ap (λ (bs : List Bytes). parts s (named bs)) all_same
      ∙ ap (λ (z : Bytes). parts z (named (version_bodies st.version ds ss))) is ∙ parts_back st (length ls) ds ss w

  version_same : f.version ≡ st.version
  version_same = ap (λ (p : Parts). p.settings.version) parts_same

  -- LV holds the first nodes of the levels
  level_body : f.version ≡ 2 → (f.lv ≤ length s) × (drop f.lv s ≡ concat (map le32 (starts_from (children_to (ds ++ ss)) (length (ds ++ ss)) 64 0)))
  unfolding level_bodies
  level_body v = (fr.end, ap first_body behind ∙ ap (λ (ns : List Node). level_starts (map length (levels_of ns))) whole ∙ trie_level_starts (realizable_trie (slot_width st) ls good ok) ∙ ap (λ (ns : List Node). concat (map le32 (starts_from (children_to ns) (length ns) 64 0))) (sym whole))
    where
      first_body : List Bytes → Bytes
      first_body bs = get_or bs 0 []

      here : eqb f.version 2 ≡ true
      here = eq-eqb f.version 2 v

      there : eqb st.version 2 ≡ true
      there = eq-eqb st.version 2 (sym version_same ∙ v)

      behind : drop f.lv s ∷ [] ≡ level_starts (map length (levels_of (ds ++ ss))) ∷ []
      behind =
          ap (λ (t : Bool). cond t (drop f.lv s ∷ []) []) (sym here) ∙ ap (drop 12) all_same
          ∙ ap (λ (t : Bool). cond t (level_starts (map length (levels_of (ds ++ ss))) ∷ []) []) there

  hash_same : f.hash_width ≡ st.hash_width
  hash_same = ap (λ (p : Parts). p.settings.hash_width) parts_same

  width_same : f.width ≡ slot_width st
  width_same = fr.width ∙ ap (λ (p : Parts). slot_width p.settings) parts_same

  leaves_same : f.leaves ≡ length ls
  leaves_same = ap (λ (p : Parts). p.counts.leaves) parts_same

  dense_same : f.dense.nodes ≡ length ds
  dense_same = ap (λ (p : Parts). p.counts.dense_nodes) parts_same

  entries_same : f.sparse.entries ≡ length (concat (map sparse_labels ss))
  entries_same = ap (λ (p : Parts). p.counts.sparse_entries) parts_same

  sparse_same : f.sparse.nodes ≡ length ss
  sparse_same = ap (λ (p : Parts). p.counts.sparse_nodes) parts_same

  nodes_same : read_nodes s ≡ ds ++ ss
  nodes_same = read_nodes_bodies s (version_bodies st.version ds ss) framed ∙ ap (λ (z : Bytes). nodes_of (parts z (named (version_bodies st.version ds ss)))) is ∙ ap nodes_of (parts_back st (length ls) ds ss w) ∙ nodes_back st (length ls) ds ss w

  body : (i : ℕ) → get_or (twelve_bodies s f) i [] ≡ get_or (in_order (bodies_of (concat (map dense_labels ds)) (concat (map dense_has_child ds)) (map is_exact ds) (concat (map sparse_labels ss)) (concat (map sparse_has_child ss)) (concat (map louds ss)) (concat (map slots (ds ++ ss))))) i []
  body i = body_same _ _ bodies_same i

  inside : Within s f
  inside = within s f fr

  holds : Holds s f ds ss ls
  holds = record {
    hash_is = hash_read s f fr;
    width_is = fr.width;
    hash_range = fr.hash_range;
    real_range = fr.real_range;
    writable = rw (width_same, leaves_same) w;
    dense_size = sym dense_same;
    entry_size = sym entries_same;
    sparse_size = sym sparse_same;
    node_total = λ h. let l = length-append ds ss in omega (arith, dense_same, sparse_same, node_total (slot_width st) ls (ds ++ ss) good ok whole (omega (arith, dense_same, sparse_same)));
    realizable = rw width_same good;
    well_sized = rw width_same ok;
    spare = rw hash_same spares;
    trie_is = whole;
    DL = body_at s _ f.dl (32 * f.dense.nodes) (omega (arith, inside.dl)) (body 0);
    DC = body_at s _ f.dc (32 * f.dense.nodes) (omega (arith, inside.dc)) (body 1);
    DP = body_at s _ f.dp (blocks 8 f.dense.nodes) (omega (arith, inside.dp)) (body 2);
    SL = body_at s _ f.sl f.sparse.entries (omega (arith, inside.sl)) (body 3);
    SC = body_at s _ f.sc (blocks 8 f.sparse.entries) (omega (arith, inside.sc)) (body 4);
    SB = body_at s _ f.sb (blocks 8 f.sparse.entries) (omega (arith, inside.sb)) (body 5);
    SV = body_at s _ f.sv (blocks 8 (f.leaves * f.width)) (omega (arith, inside.sv)) (body 6);
    RL = body_at s _ f.rl (4 * blocks 64 (256 * f.dense.nodes)) (omega (arith, inside.rl)) (body 7);
    RC = body_at s _ f.rc (4 * blocks 64 (256 * f.dense.nodes)) (omega (arith, inside.rc)) (body 8);
    RP = body_at s _ f.rp (4 * blocks 64 f.dense.nodes) (omega (arith, inside.rp)) (body 9);
    RS = body_at s _ f.rs (4 * blocks 512 f.sparse.entries) (omega (arith, inside.rs)) (body 10);
    TS = body_at s _ f.ts (4 * blocks 64 f.sparse.nodes) (omega (arith, inside.ts)) (body 11);
    LV = level_body;
    children = fr.children;
    items = fr.dense_entries;
  }

  is_dense : ds ≡ dense_nodes s f
  is_dense = sym (ap₂ take dense_same nodes_same ∙ take_at ds ss (length ds) refl)

  is_sparse : ss ≡ sparse_nodes s f
  is_sparse = sym (ap₂ drop dense_same nodes_same ∙ drop_at ds ss (length ds) refl)

  read_holds : ls ≡ read_leaves s → Accepted s f
  read_holds e =
      subst (λ (z : List Leaf). Holds s f (dense_nodes s f) (sparse_nodes s f) z) e
      (subst (λ (z : List Node). Holds s f (dense_nodes s f) z ls) is_sparse (subst (λ (z : List Node). Holds s f z ss ls) is_dense holds))

-- Numbers below 256 are bytes.
pub all_bytes : (k : Bytes) → ((i : ℕ) → get_or k i 0 < 256) → IsBytes k
all_bytes [] h = tt
all_bytes (x ∷ k) h = (h 0, all_bytes k (λ i. h (suc i)))

-- AN IMAGE THAT THE CHECK TAKES IS ACCEPTED, with the frame that is read from it.
pub checked_accepted : (s : Bytes) (f : Frame) → IsBytes s → FrameOf s f → verdict s ≡ 0 → Accepted s f
checked_accepted s f small fr v =
    let a = accepted_is_image s small v in
    let h = image_holds a.settings a.leaves a.fits in
    read_holds s f fr a.settings a.leaves h.dense_nodes h.sparse_nodes h.writable (a.image_is ∙ h.image_is) h.whole a.fits.realizable a.fits.well_sized a.fits.spare
    (sym (ap read_leaves a.image_is ∙ read_back a.settings a.leaves a.fits))
