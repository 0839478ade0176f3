-- Nodes that pass the tests of a builder's trie, with slots that pass theirs, are the trie of a realizable leaf list (`trie_of_list`).
-- Used by acceptance.
use Rattle.std.specs.Prelude.{ℕ, ◌+◌, ◌≤◌, ◌≡◌, refl, false, true, length, take, drop}
use Rattle.std.proofs.Common.{sym, ap, ◌∙◌, true≢false, arith, eqb-true}
use mathlib.Core.List.{List, ◌∷◌, [], ◌++◌, tail-eq_of_cons-eq}
use Rattle.std.proofs.Math.Option.{none, some}
use Rattle.std.proofs.Math.Seq.{take-nil, drop-nil}
use Rattle.spec.specs.Bytes.{Bits, filter, any, maximum, concat, all}
use Rattle.spec.specs.Leaves.{Leaf, others}
use Rattle.spec.specs.Nodes.{Node, Group, Branch, node, branch_leaves, groups, level_groups, exact_leaf, to_leaf, to_node, levels_of, levels, children_of, total}
use Rattle.spec.specs.Trie.{leaf_count, has_label, nodes_valid}
use Rattle.spec.specs.Check.{slots_valid}
use Rattle.theory.specs.Terms.{All}
use Rattle.theory.proofs.Order.{equal_self}
use Rattle.theory.proofs.LeafLists.{Realizable, AllWellSized, SpareClear}
use Rattle.theory.proofs.Lists.{all_weaken, append_parts, concat_split, and_both, append_empty, concat_all}
use Rattle.theory.proofs.LevelTrie.{trie_dense, trie_sparse, NonemptyCuts, no_cuts, nonempty_cut, SoleContinues, trie}
use Rattle.theory.proofs.LinkedLevels.{Linked, trie_groups, nonempty_cuts_branches}
use Rattle.theory.proofs.Witnesses.{witnesses_realizable, BlankSlot}
use Rattle.theory.proofs.WitnessedLevels.{witnessed_levels}
use Rattle.theory.proofs.Levels.{leaf_count_root, all_sole_continue}
use Rattle.theory.proofs.TrieTests.{NodesValid, nodes_valid_levels, nodes_valid_none, nodes_valid_true}
use Rattle.theory.proofs.LevelSlots.{LeafValid, leaf_valid_levels}
use Rattle.theory.proofs.NodeBits.{SlotsWidth, ByteLabels}

-- a realizable leaf list whose trie has the dense nodes D and the sparse nodes S
pub record TrieOfList (dense H n count : ℕ) (D S : List Node) : Type 0 where
  pub leaves : List Leaf
  pub realizable : Realizable n leaves
  pub well_sized : AllWellSized n leaves
  pub spare : All (SpareClear H) leaves
  pub size : length leaves ≡ count
  pub dense_nodes : trie_dense dense leaves ≡ D
  pub sparse_nodes : trie_sparse dense leaves ≡ S

-- ---- the leaves of levels below a root

-- A lone open leaf is a realizable list.
lone_realizable : (n x : ℕ) (s : Bits) → Realizable n (record { cut = x ∷ []; exact = false; suffix = s } ∷ [])
unfolding others filter any maximum
lone_realizable n x s = record {
  ordered = (tt, tt);
  shortest = (record { kind = rw (equal_self (x ∷ [])) refl; size = λ _. rw (equal_self (x ∷ [])) refl; blank = λ e. absurd (true≢false (sym e)) }, tt);
}

leaf_valid_well_sized : (H n : ℕ) {g : Group} → NonemptyCuts g → All (LeafValid H n 0) g → AllWellSized n g
leaf_valid_well_sized H n no_cuts p = tt
leaf_valid_well_sized H n (nonempty_cut {x} {c} {e} {s} {ls} r) p =
    (record { key = record { least = omega arith; fits = omega (arith, p.0.fits); bytes = p.0.bytes }; slot = p.0.slot }, leaf_valid_well_sized H n r p.1)

leaf_valid_spare : (H n : ℕ) (g : Group) → All (LeafValid H n 0) g → All (SpareClear H) g
leaf_valid_spare H n [] p = tt
leaf_valid_spare H n (l ∷ g) p = let z : length l.cut + 0 ≡ length l.cut = omega arith in (rw z at p.0.spare, leaf_valid_spare H n g p.1)

-- The leaves below a root whose sole entry continues are a realizable list.
levels_realizable : (H n : ℕ) (es : List Branch) (ls : List (List Node)) → Linked ((node none es ∷ []) ∷ ls) → SoleContinues (node none es) → All (All SoleContinues) ls → All (LeafValid H n 0) (branch_leaves es (groups ls)) → Realizable n (branch_leaves es (groups ls))
unfolding groups level_groups exact_leaf
levels_realizable H n es ls k q r p =
    let f = witnessed_levels ((node none es ∷ []) ∷ ls) k ((q, tt), r) in
    witnesses_realizable n (branch_leaves es (groups ls)) f.0.0 f.0.1 (all_weaken (LeafValid H n 0) (BlankSlot n) (λ l q. q.blank) (branch_leaves es (groups ls)) p)

-- The root's leaves are a realizable list; a sole entry there need not continue.
root_realizable : (H n : ℕ) (es : List Branch) (ls : List (List Node)) → Linked ((node none es ∷ []) ∷ ls) → All (All SoleContinues) ls → All (LeafValid H n 0) (branch_leaves es (groups ls)) → Realizable n (branch_leaves es (groups ls))
unfolding branch_leaves
root_realizable H n [] ls k r p = absurd k.0.0
root_realizable H n (to_leaf x s ∷ []) ls k r p = lone_realizable n x s
root_realizable H n (to_node x ∷ []) ls k r p = levels_realizable H n (to_node x ∷ []) ls k tt r p
root_realizable H n (e ∷ f ∷ es) ls k r p = levels_realizable H n (e ∷ f ∷ es) ls k tt r p

-- ---- the trie of these leaves

trie_of_none : (dense H n count : ℕ) (D S : List Node) → count ≡ 0 → (D ≡ []) × (S ≡ []) → TrieOfList dense H n count D S
unfolding trie concat
trie_of_none dense H n count D S e z = record {
  leaves = [];
  realizable = record { ordered = tt; shortest = tt };
  well_sized = tt;
  spare = tt;
  size = sym e;
  dense_nodes = ap concat (take-nil {A = List Node} dense) ∙ sym z.0;
  sparse_nodes = ap concat (drop-nil {A = List Node} dense) ∙ sym z.1;
}

-- levels below a root, cut out of the nodes D and S
record Rooted (dense H n : ℕ) (D S : List Node) (es : List Branch) (ls : List (List Node)) : Type 0 where
  linked : Linked ((node none es ∷ []) ∷ ls)
  whole : concat ((node none es ∷ []) ∷ ls) ≡ D ++ S
  short : length ((node none es ∷ []) ∷ ls) ≤ 64
  soles : All (All SoleContinues) ls
  dense_size : length (concat (take dense ((node none es ∷ []) ∷ ls))) ≡ length D
  leaves_valid : All (LeafValid H n 0) (branch_leaves es (groups ls))

trie_of_rooted : (dense H n count : ℕ) (D S : List Node) (es : List Branch) (ls : List (List Node)) → Rooted dense H n D S es ls → leaf_count (D ++ S) ≡ count → TrieOfList dense H n count D S
unfolding groups level_groups exact_leaf
trie_of_rooted dense H n count D S es ls r c =
    let L : List (List Node) = (node none es ∷ []) ∷ ls in
    let t : trie (branch_leaves es (groups ls)) ≡ L = trie_groups L (branch_leaves es (groups ls)) r.linked r.short refl in
    let q = append_parts (concat (take dense L)) D (concat_split dense L ∙ r.whole) r.dense_size in
    record {
      leaves = branch_leaves es (groups ls);
      realizable = root_realizable H n es ls r.linked r.soles r.leaves_valid;
      well_sized = leaf_valid_well_sized H n (nonempty_cuts_branches es (groups ls)) r.leaves_valid;
      spare = leaf_valid_spare H n (branch_leaves es (groups ls)) r.leaves_valid;
      size = leaf_count_root L (branch_leaves es (groups ls)) r.linked refl ∙ ap leaf_count r.whole ∙ c;
      dense_nodes = ap (λ (z : List (List Node)). concat (take dense z)) t ∙ q.0;
      sparse_nodes = ap (λ (z : List (List Node)). concat (drop dense z)) t ∙ q.1;
    }

levels_of_root : (r : Node) (ns : List Node) → levels_of (r ∷ ns) ≡ (r ∷ []) ∷ levels children_of 64 (total children_of (r ∷ [])) ns
unfolding levels_of levels
levels_of_root r ns = refl

concat_root : (r : Node) (ls : List (List Node)) → r ∷ concat ls ≡ concat ((r ∷ []) ∷ ls)
unfolding concat
concat_root r ls = refl

rest_labelled : (r : Node) (ns : List Node) → all has_label (r ∷ ns) ≡ true → all has_label ns ≡ true
unfolding all
rest_labelled r ns h = (and_both (has_label r) (all has_label ns) h).1

rooted : (dense H n count : ℕ) (D S : List Node) (es : List Branch) (ns : List Node) → D ++ S ≡ node none es ∷ ns → NodesValid dense (length D) count (node none es) ns
    → All (SlotsWidth n) (node none es ∷ ns) → All ByteLabels (node none es ∷ ns) → slots_valid H 0 (levels_of (node none es ∷ ns)) ≡ true
    → Rooted dense H n D S es (levels children_of 64 (total children_of (node none es ∷ [])) ns)
unfolding groups level_groups exact_leaf
rooted dense H n count D S es ns e b w s c =
    let v = nodes_valid_levels (node none es) ns b in
    let q = levels_of_root (node none es) ns in
    let all_nodes : concat (levels_of (node none es ∷ ns)) ≡ node none es ∷ ns = v.whole in
    let leaves_valid = leaf_valid_levels H n 0 (levels_of (node none es ∷ ns)) (omega (arith, b.shallow)) (rw all_nodes w) (rw all_nodes s) c in
    let below : concat ls ≡ ns = tail-eq_of_cons-eq (joined ∙ sym (ap concat q) ∙ all_nodes) in
    record {
      linked = rw q at v.linked;
      whole = sym (ap concat q) ∙ all_nodes ∙ sym e;
      short = rw q at b.shallow;
      soles = concat_all SoleContinues ls (rw below (all_sole_continue ns (rest_labelled (node none es) ns b.labelled) b.soles));
      dense_size = rw q at b.dense_total;
      leaves_valid = (rw q at leaves_valid).0;
    }
  where
    ls : List (List Node)
    ls = levels children_of 64 (total children_of (node none es ∷ [])) ns

    joined : node none es ∷ concat ls ≡ concat ((node none es ∷ []) ∷ ls)
    joined = concat_root (node none es) ls

-- Nodes that pass the tests of a builder's trie, with slots that pass theirs, are the trie of a realizable leaf list.
pub trie_of_list : (dense H n count : ℕ) (D S : List Node) → nodes_valid dense (length D) count (D ++ S) ≡ true → All (SlotsWidth n) (D ++ S) → All ByteLabels (D ++ S)
    → slots_valid H 0 (levels_of (D ++ S)) ≡ true → TrieOfList dense H n count D S
trie_of_list dense H n count D S h w s c = go (D ++ S) refl h w s c
  where
    none_left : nodes_valid dense (length D) count [] ≡ true → count ≡ 0
    none_left h = eqb-true count 0 (sym (nodes_valid_none dense (length D) count) ∙ h)

    go : (N : List Node) → D ++ S ≡ N → nodes_valid dense (length D) count N ≡ true → All (SlotsWidth n) N → All ByteLabels N → slots_valid H 0 (levels_of N) ≡ true → TrieOfList dense H n count D S
    go [] e h w s c = trie_of_none dense H n count D S (none_left h) (append_empty D S e)
    go (node (some t) es ∷ ns) e h w s c = absurd (true≢false (nodes_valid_true dense (length D) count (node (some t) es) ns h).root_open)
    go (node none es ∷ ns) e h w s c =
        let b = nodes_valid_true dense (length D) count (node none es) ns h in
        trie_of_rooted dense H n count D S es (levels children_of 64 (total children_of (node none es ∷ [])) ns) (rooted dense H n count D S es ns e b w s c) (ap leaf_count e ∙ b.leaf_total)
