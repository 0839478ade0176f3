-- Branches and nodes of an accepted image by their positions: the laws of dense and sparse nodes, read off its bodies.
use Rattle.std.specs.Prelude.{ℕ, ◌+◌, ◌-◌, ◌*◌, ◌<◌, ◌≤◌, ◌≡◌, refl, Bool, true, false, cond, ◌&&◌, List, [], map, length, get_or, take, drop, leb, ltb, eqb}
use Rattle.std.proofs.Common.{sym, ◌∙◌, length-append, length-drop, get_or-append-add, get_or-drop, ltb-true, ltb-false, lt-ltb, le-ltb, le-leb, eq-eqb, ne_eqb}
use Rattle.std.proofs.Math.Path.{ap}
use Rattle.std.proofs.Math.Option.{none}
use native.Mathlib.Omega.{arith}
use Rattle.std.proofs.Math.Seq.{take-append_seam}
use Rattle.std.proofs.lemmas.Bool.{lt-leb}
use Rattle.spec.specs.Bytes.{Bytes, bit, concat}
use Rattle.spec.specs.Nodes.{Branch, Node, node, label_of, has_child, branches_of, is_exact, total, children_of}
use Rattle.spec.specs.Trie.{leaf_count}
use Rattle.bits.specs.Bits.{bit_at, rank, select}
use Rattle.bits.proofs.RankLaws.{rank_le}
use Rattle.image.specs.declared.Frame.{Frame}
use Rattle.nav_nodes.specs.declared.BranchKind.TheVariants.{Absent}
use Rattle.nav_nodes.specs.Counting.{labels_below, labels_below_le}
use Rattle.nav_nodes.specs.Slots.{node_at, leaves_before, slot_number}
use Rattle.nav_nodes.specs.Descent.{children_before, child_number, goes_on}
use Rattle.nav_nodes.specs.LabelMaps.{matches}
use Rattle.nav_nodes.specs.DensePositions.{dense_children_before, dense_leaves_before, dense_exact, dense_label, dense_child, dense_child_number, dense_slot_number}
use Rattle.nav_nodes.specs.SparsePositions as sparse
use Rattle.nav_nodes.specs.NextLabel.{kind_there, kind_by, kind_with, kind_of_bits, not_there, with_bits, with_there}
use Rattle.nav_nodes.specs.Accepted.{Accepted, dense_nodes, sparse_nodes, nodes}
use Rattle.theory.proofs.LinkedLevels.{Ascends, Labelled}
use Rattle.theory.proofs.NodeBits.{sparse_labels}
use Rattle.theory.proofs.WitnessedLevels.{labelled_ascends}

-- the branches of node m
abbrev pub branches : Bytes → Frame → ℕ → List Branch
branches s f m = branches_of (node_at (nodes s f) m)

-- the first branch of node m whose label is not below y
abbrev pub branch_index : Bytes → Frame → ℕ → ℕ → ℕ
branch_index s f m y = labels_below y (branches s f m)

-- the node behind the branch at position p of node m
unfoldable pub child_at : Bytes → Frame → ℕ → ℕ → ℕ
unfolding rank total
child_at s f m p = cond (ltb m f.dense.nodes) (1 + rank (drop f.dc s) p) (1 + (total children_of (dense_nodes s f) + rank (drop f.sc s) p))

-- the slot of the leaf behind the branch at position p of node m
unfoldable pub slot_at : Bytes → Frame → ℕ → ℕ → ℕ
unfolding rank leaf_count
slot_at s f m p =
    cond (ltb m f.dense.nodes) ((rank (drop f.dl s) p - rank (drop f.dc s) p) + rank (drop f.dp s) (m + 1))
    (leaf_count (dense_nodes s f) + (p - rank (drop f.sc s) p))

-- the position is within the bits of the node's kind
pub record Within (s : Bytes) (f : Frame) (m p : ℕ) : Type 0 where
  pub dense : m < f.dense.nodes → (p ≤ 256 * f.dense.nodes) × (rank (drop f.dc s) p ≤ rank (drop f.dl s) p)
  pub sparse : f.dense.nodes ≤ m → p ≤ f.sparse.entries

-- position p of node m is that of its branch i
pub record BranchAt (s : Bytes) (f : Frame) (m i p : ℕ) : Type 0 where
  pub child_is : child_at s f m p ≡ child_number (nodes s f) m i
  pub slot_is : slot_at s f m p ≡ slot_number (nodes s f) m i
  pub within : Within s f m p

module _ (s : Bytes) (f : Frame) (a : Accepted s f) where
  abbrev D : List Node
  D = dense_nodes s f

  abbrev S : List Node
  S = sparse_nodes s f

  -- all dense nodes come first
  dense_first : take f.dense.nodes (nodes s f) ≡ dense_nodes s f
  dense_first = ap (λ (z : ℕ). take z (nodes s f)) (sym a.dense_size) ∙ take-append_seam (dense_nodes s f) (sparse_nodes s f)

  -- the continuing branches of the dense nodes, and their leaves
  pub dense_kids : total children_of (dense_nodes s f) ≡ children_before (nodes s f) f.dense.nodes
  unfolding children_before
  dense_kids = ap (total children_of) (sym dense_first)

  pub dense_leaves : leaf_count (dense_nodes s f) ≡ leaves_before (nodes s f) f.dense.nodes
  unfolding leaves_before
  dense_leaves = ap leaf_count (sym dense_first)

  -- what stands before a dense node
  pub before_dense : (m : ℕ) → m ≤ f.dense.nodes
      → (children_before (nodes s f) m ≡ rank (drop f.dc s) (256 * m))
      × (leaves_before (nodes s f) m ≡ (rank (drop f.dl s) (256 * m) - rank (drop f.dc s) (256 * m)) + rank (drop f.dp s) m)
      × (rank (drop f.dc s) (256 * m) ≤ rank (drop f.dl s) (256 * m))
  before_dense m h =
      let d = a.dense_size in
      let k = dense_children_before (dense_nodes s f) (sparse_nodes s f) (drop f.dl s) (drop f.dc s) (drop f.dp s) a.DL.1 a.DC.1 a.DP.1 a.writable.dense_labelled a.writable.dense_bytes m (omega arith) in
      let l = dense_leaves_before (dense_nodes s f) (sparse_nodes s f) (drop f.dl s) (drop f.dc s) (drop f.dp s) a.DL.1 a.DC.1 a.DP.1 a.writable.dense_labelled a.writable.dense_bytes m (omega arith) in
      (k, l.0, l.1)

  -- the frame's totals are what stands before the first sparse node
  pub dense_totals : (f.totals.children ≡ children_before (nodes s f) f.dense.nodes) × (f.totals.entries ≡ leaves_before (nodes s f) f.dense.nodes + f.totals.children)
  dense_totals = let d = before_dense f.dense.nodes (omega arith) in (omega (arith, a.children, d.0), omega (arith, a.items, a.children, d.1, d.2))

  module _ (m y : ℕ) (h : m < f.dense.nodes) where
    inside : m < length (dense_nodes s f)
    inside = omega (arith, a.dense_size)

    -- whether a dense node is an exact leaf
    pub exact_dense : bit_at (drop f.dp s) m ≡ bit (is_exact (node_at (nodes s f) m))
    exact_dense = dense_exact (dense_nodes s f) (sparse_nodes s f) (drop f.dl s) (drop f.dc s) (drop f.dp s) a.DL.1 a.DC.1 a.DP.1 a.writable.dense_labelled a.writable.dense_bytes m inside

    -- the bits of the branch y
    pub bits_dense : y < 256
        → (bit_at (drop f.dl s) (256 * m + y) ≡ bit (matches y (drop (branch_index s f m y) (branches s f m)))) × (bit_at (drop f.dc s) (256 * m + y) ≡ bit (goes_on y (drop (branch_index s f m y) (branches s f m))))
    bits_dense l = (
      dense_label (dense_nodes s f) (sparse_nodes s f) (drop f.dl s) (drop f.dc s) (drop f.dp s) a.DL.1 a.DC.1 a.DP.1 a.writable.dense_labelled a.writable.dense_bytes m y inside l,
      dense_child (dense_nodes s f) (sparse_nodes s f) (drop f.dl s) (drop f.dc s) (drop f.dp s) a.DL.1 a.DC.1 a.DP.1 a.writable.dense_labelled a.writable.dense_bytes m y inside l,
    )

    -- the kind of the branch y, by its two bits
    pub kind_dense : y < 256 → (l c : ℕ) → l ≡ bit_at (drop f.dl s) (256 * m + y) → c ≡ bit_at (drop f.dc s) (256 * m + y)
        → (l ≡ 0 → Absent ≡ kind_with y (drop (branch_index s f m y) (branches s f m))) × ((l ≡ 0 → ⊥) → kind_there (eqb c 1) ≡ kind_with y (drop (branch_index s f m y) (branches s f m)))
    kind_dense r l c u v = let b = bits_dense r in go (matches y (drop (branch_index s f m y) (branches s f m))) refl (u ∙ b.0) (v ∙ b.1)
      where
        go : (t : Bool) → matches y (drop (branch_index s f m y) (branches s f m)) ≡ t → l ≡ bit (matches y (drop (branch_index s f m y) (branches s f m))) → c ≡ bit (goes_on y (drop (branch_index s f m y) (branches s f m)))
            → (l ≡ 0 → Absent ≡ kind_with y (drop (branch_index s f m y) (branches s f m))) × ((l ≡ 0 → ⊥) → kind_there (eqb c 1) ≡ kind_with y (drop (branch_index s f m y) (branches s f m)))
        go true t p q = (
          λ z. absurd (omega (arith, p, ap bit t)),
          λ z. kind_by c (goes_on y (drop (branch_index s f m y) (branches s f m))) q ∙ ap (λ (x : Bool). kind_of_bits x (goes_on y (drop (branch_index s f m y) (branches s f m)))) (sym t) ∙ with_bits y (drop (branch_index s f m y) (branches s f m)),
        )
        go false t p q = (λ z. sym (not_there (kind_with y (drop (branch_index s f m y) (branches s f m))) (with_there y (drop (branch_index s f m y) (branches s f m)) ∙ t)), λ z. absurd (z (p ∙ ap bit t)))

    -- The branch y of a dense node stands at bit 256 m + y.
    pub branch_dense : y ≤ 256 → BranchAt s f m (branch_index s f m y) (256 * m + y)
    unfolding child_at slot_at
    branch_dense l =
        let n = dense_child_number (dense_nodes s f) (sparse_nodes s f) (drop f.dl s) (drop f.dc s) (drop f.dp s) a.DL.1 a.DC.1 a.DP.1 a.writable.dense_labelled a.writable.dense_bytes m y inside l in
        let v = dense_slot_number (dense_nodes s f) (sparse_nodes s f) (drop f.dl s) (drop f.dc s) (drop f.dp s) a.DL.1 a.DC.1 a.DP.1 a.writable.dense_labelled a.writable.dense_bytes m y inside l in
        record {
          child_is = rw (lt-ltb m f.dense.nodes h) (sym n);
          slot_is = rw (lt-ltb m f.dense.nodes h) (sym v.0);
          within = record { dense = λ q. (omega arith, v.1); sparse = λ q. absurd (omega arith) };
        }

  -- ---- sparse nodes

  -- where sparse node m starts
  abbrev start : ℕ → ℕ
  start m = select (drop f.sb s) f.sparse.entries (m - f.dense.nodes)

  node_again : (m : ℕ) → f.dense.nodes ≤ m → length (dense_nodes s f) + (m - f.dense.nodes) ≡ m
  node_again m h = omega (arith, a.dense_size)

  -- what stands before a sparse node
  pub before_sparse : (m : ℕ) → f.dense.nodes ≤ m → m ≤ f.dense.nodes + f.sparse.nodes
      → (children_before (nodes s f) m ≡ children_before (nodes s f) f.dense.nodes + rank (drop f.sc s) (select (drop f.sb s) f.sparse.entries (m - f.dense.nodes)))
      × (leaves_before (nodes s f) m ≡ leaves_before (nodes s f) f.dense.nodes
      + (select (drop f.sb s) f.sparse.entries (m - f.dense.nodes) - rank (drop f.sc s) (select (drop f.sb s) f.sparse.entries (m - f.dense.nodes))))
  before_sparse m h l =
      let e = node_again m h in
      let n = a.entry_size in
      let j : m - f.dense.nodes ≤ length (sparse_nodes s f) = omega (arith, a.sparse_size) in
      let t = a.SL.1 in
      let k = sparse.sparse_children_before (dense_nodes s f) (sparse_nodes s f) (drop f.sl s) (drop f.sc s) (drop f.sb s) t.0 t.1 a.SC.1 a.SB.1 a.writable.sparse_labelled a.writable.sparse_bytes (m - f.dense.nodes) j in
      let v = sparse.sparse_leaves_before (dense_nodes s f) (sparse_nodes s f) (drop f.sl s) (drop f.sc s) (drop f.sb s) t.0 t.1 a.SC.1 a.SB.1 a.writable.sparse_labelled a.writable.sparse_bytes (m - f.dense.nodes) j in (
        (rw (e, n) at k) ∙ ap (λ (z : ℕ). z + rank (drop f.sc s) (select (drop f.sb s) f.sparse.entries (m - f.dense.nodes))) dense_kids,
        (rw (e, n) at v) ∙ ap (λ (z : ℕ). z + (select (drop f.sb s) f.sparse.entries (m - f.dense.nodes) - rank (drop f.sc s) (select (drop f.sb s) f.sparse.entries (m - f.dense.nodes)))) dense_leaves,
      )

  module _ (m : ℕ) (h : f.dense.nodes ≤ m) (l : m < f.dense.nodes + f.sparse.nodes) where
    within_nodes : m - f.dense.nodes < length (sparse_nodes s f)
    within_nodes = omega (arith, a.sparse_size)

    the_node : node_at (sparse_nodes s f) (m - f.dense.nodes) ≡ node_at (nodes s f) m
    the_node = sym (ap (λ (z : ℕ). node_at (nodes s f) z) (sym (node_again m h)) ∙ get_or-append-add (dense_nodes s f) (sparse_nodes s f) (m - f.dense.nodes) (node none []))

    next_index : m - f.dense.nodes + 1 ≡ m + 1 - f.dense.nodes
    next_index = omega arith

    -- A sparse node ends where the next one starts.
    pub end_sparse : select (drop f.sb s) f.sparse.entries (m + 1 - f.dense.nodes) ≡ select (drop f.sb s) f.sparse.entries (m - f.dense.nodes) + bit (is_exact (node_at (nodes s f) m)) + length (branches s f m)
    end_sparse =
        let n = a.entry_size in
        let t = a.SL.1 in
        rw (the_node, n, next_index) at (sparse.sparse_end (dense_nodes s f) (sparse_nodes s f) (drop f.sl s) (drop f.sc s) (drop f.sb s) t.0 t.1 a.SC.1 a.SB.1 a.writable.sparse_labelled a.writable.sparse_bytes (m - f.dense.nodes) within_nodes)

    -- It is an exact leaf exactly if it starts with an FF that is not alone.
    exact_sparse : is_exact (node_at (nodes s f) m)
        ≡ leb (select (drop f.sb s) f.sparse.entries (m - f.dense.nodes) + 2) (select (drop f.sb s) f.sparse.entries (m + 1 - f.dense.nodes)) && eqb (get_or s (f.sl + select (drop f.sb s) f.sparse.entries (m - f.dense.nodes)) 0) 255
    exact_sparse =
        let n = a.entry_size in
        let t = a.SL.1 in
        let e = rw (the_node, n, next_index) at (sparse.sparse_exact (dense_nodes s f) (sparse_nodes s f) (drop f.sl s) (drop f.sc s) (drop f.sb s) t.0 t.1 a.SC.1 a.SB.1 a.writable.sparse_labelled a.writable.sparse_bytes (m - f.dense.nodes) within_nodes) in
        e ∙ ap (λ (z : ℕ). leb (select (drop f.sb s) f.sparse.entries (m - f.dense.nodes) + 2) (select (drop f.sb s) f.sparse.entries (m + 1 - f.dense.nodes)) && eqb z 255) (get_or-drop f.sl s (select (drop f.sb s) f.sparse.entries (m - f.dense.nodes)) 0)

    -- its labels ascend
    pub rising : Ascends (branches s f m)
    rising = rw the_node at (go (node_at (sparse_nodes s f) (m - f.dense.nodes)) (sparse.fit_node (sparse_nodes s f) (m - f.dense.nodes) a.writable.sparse_labelled within_nodes))
      where
        go : (n : Node) → Labelled n → Ascends (branches_of n)
        go (node o es) q = labelled_ascends o es q

    module _ (first : ℕ) (starts : first ≡ select (drop f.sb s) f.sparse.entries (m - f.dense.nodes) + bit (is_exact (node_at (nodes s f) m))) where
      -- the label of branch i
      pub label_sparse : (i : ℕ) → i < length (branches s f m) → get_or (drop f.sl s) (first + i) 0 ≡ get_or (map label_of (branches s f m)) i 0
      label_sparse i k =
          let n = a.entry_size in
          let t = a.SL.1 in
          rw starts (rw (the_node, n) at (sparse.sparse_label (dense_nodes s f) (sparse_nodes s f) (drop f.sl s) (drop f.sc s) (drop f.sb s) t.0 t.1 a.SC.1 a.SB.1 a.writable.sparse_labelled a.writable.sparse_bytes
          (m - f.dense.nodes) within_nodes i (rw (← the_node) at k)))

      -- whether it continues
      pub child_sparse : (i : ℕ) → i < length (branches s f m) → bit_at (drop f.sc s) (first + i) ≡ bit (get_or (map has_child (branches s f m)) i false)
      child_sparse i k =
          let n = a.entry_size in
          let t = a.SL.1 in
          rw starts (rw (the_node, n) at (sparse.sparse_child (dense_nodes s f) (sparse_nodes s f) (drop f.sl s) (drop f.sc s) (drop f.sb s) t.0 t.1 a.SC.1 a.SB.1 a.writable.sparse_labelled a.writable.sparse_bytes
          (m - f.dense.nodes) within_nodes i (rw (← the_node) at k)))

      -- Branch i of a sparse node stands i entries behind its first.
      pub branch_sparse : (i : ℕ) → i ≤ length (branches s f m) → first + i ≤ f.sparse.entries → BranchAt s f m i (first + i)
      unfolding child_at slot_at
      branch_sparse i k r =
          let n = a.entry_size in
          let t = a.SL.1 in
          let e = node_again m h in
          let c = rw (e, the_node, n) at (sparse.sparse_child_number (dense_nodes s f) (sparse_nodes s f) (drop f.sl s) (drop f.sc s) (drop f.sb s) t.0 t.1 a.SC.1 a.SB.1 a.writable.sparse_labelled a.writable.sparse_bytes
          (m - f.dense.nodes) within_nodes i (rw (← the_node) at k)) in
          let v = rw (e, the_node, n) at (sparse.sparse_slot_number (dense_nodes s f) (sparse_nodes s f) (drop f.sl s) (drop f.sc s) (drop f.sb s) t.0 t.1 a.SC.1 a.SB.1 a.writable.sparse_labelled a.writable.sparse_bytes
          (m - f.dense.nodes) within_nodes i (rw (← the_node) at k)) in
          record {
            child_is = rw (le-ltb m f.dense.nodes h) (rw (← starts) at (sym c));
            slot_is = rw (le-ltb m f.dense.nodes h) (rw (← starts) at (sym v));
            within = record { dense = λ q. absurd (omega arith); sparse = λ q. r };
          }

      -- A position with only labels below y before it, and none behind it, is first + the index of y.
      pub index_sparse : (p y : ℕ) → first ≤ p → p ≤ first + length (branches s f m)
          → (first < p → get_or (drop f.sl s) (p - 1) 0 < y) → (p < first + length (branches s f m) → y ≤ get_or (drop f.sl s) p 0) → p ≡ first + branch_index s f m y
      index_sparse p y lo hi low high = go (ltb first p) refl (ltb p (first + length (branches s f m))) refl
        where
          below : first < p → p - first ≤ branch_index s f m y
          below q =
              let e : p - 1 ≡ first + (p - first - 1) = omega arith in
              let b = label_sparse (p - first - 1) (omega arith) in
              let u : get_or (map label_of (branches s f m)) (p - first - 1) 0 < y = omega (arith, ap (λ (z : ℕ). get_or (drop f.sl s) z 0) e, low q, b) in
              omega (arith, sparse.label_low y (branches s f m) (p - first - 1) rising (omega arith) u)

          above : p < first + length (branches s f m) → branch_index s f m y ≤ p - first
          above q =
              let e : p ≡ first + (p - first) = omega arith in
              let b = label_sparse (p - first) (omega arith) in
              let u : y ≤ get_or (map label_of (branches s f m)) (p - first) 0 = omega (arith, ap (λ (z : ℕ). get_or (drop f.sl s) z 0) e, high q, b) in
              sparse.label_high y (branches s f m) (p - first) (omega arith) u

          go : (b : Bool) → ltb first p ≡ b → (c : Bool) → ltb p (first + length (branches s f m)) ≡ c → p ≡ first + branch_index s f m y
          go true u true v = omega (arith, below (ltb-true first p u), above (ltb-true p (first + length (branches s f m)) v))
          go true u false v = omega (arith, below (ltb-true first p u), labels_below_le y (branches s f m), ltb-false p (first + length (branches s f m)) v)
          go false u true v = omega (arith, above (ltb-true p (first + length (branches s f m)) v), ltb-false first p u)
          go false u false v = omega (arith, labels_below_le y (branches s f m), ltb-false first p u, ltb-false p (first + length (branches s f m)) v)

      no_match : (y : ℕ) (fs : List Branch) → matches y fs ≡ false → Absent ≡ kind_with y fs
      no_match y fs q = sym (not_there (kind_with y fs) (with_there y fs ∙ q))

      -- no branch, where the search stops at the end
      pub none_end : (p y : ℕ) → p ≡ first + branch_index s f m y → first + length (branches s f m) ≤ p → Absent ≡ kind_with y (drop (branch_index s f m y) (branches s f m))
      none_end p y q k = no_match y (drop (branch_index s f m y) (branches s f m)) (sparse.matches_end y (branches s f m) (branch_index s f m y) (omega arith))

      label_there : (p y : ℕ) → p ≡ first + branch_index s f m y → p < first + length (branches s f m) → matches y (drop (branch_index s f m y) (branches s f m)) ≡ eqb y (get_or s (f.sl + p) 0)
      label_there p y q k =
          sparse.matches_at y (branches s f m) (branch_index s f m y) (omega arith)
          ∙ ap (eqb y) (sym (label_sparse (branch_index s f m y) (omega arith)) ∙ ap (λ (z : ℕ). get_or (drop f.sl s) z 0) (sym q) ∙ get_or-drop f.sl s p 0)

      -- nor where it stops at another label
      pub none_other : (p y : ℕ) → p ≡ first + branch_index s f m y → p < first + length (branches s f m) → (get_or s (f.sl + p) 0 ≡ y → ⊥) → Absent ≡ kind_with y (drop (branch_index s f m y) (branches s f m))
      none_other p y q k n = no_match y (drop (branch_index s f m y) (branches s f m)) (label_there p y q k ∙ ne_eqb y (get_or s (f.sl + p) 0) (λ e. n (sym e)))

      -- where it stops at the label, the branch's bit says whether it continues
      pub one_there : (p y c : ℕ) → p ≡ first + branch_index s f m y → p < first + length (branches s f m) → get_or s (f.sl + p) 0 ≡ y → c ≡ bit_at (drop f.sc s) p
          → kind_there (eqb c 1) ≡ kind_with y (drop (branch_index s f m y) (branches s f m))
      one_there p y c q k e b =
          let t : matches y (drop (branch_index s f m y) (branches s f m)) ≡ true = label_there p y q k ∙ eq-eqb y (get_or s (f.sl + p) 0) (sym e) in
          let u = b ∙ ap (bit_at (drop f.sc s)) q ∙ child_sparse (branch_index s f m y) (omega arith) ∙ ap bit (sym (sparse.goes_at y (branches s f m) (branch_index s f m y) t)) in
          kind_by c (goes_on y (drop (branch_index s f m y) (branches s f m))) u
          ∙ ap (λ (z : Bool). kind_of_bits z (goes_on y (drop (branch_index s f m y) (branches s f m)))) (sym t) ∙ with_bits y (drop (branch_index s f m y) (branches s f m))

    -- The entries of a sparse node that starts at p and ends at e, an exact leaf or not.
    pub entries_valid : (p e : ℕ) (b : Bool) → p ≡ select (drop f.sb s) f.sparse.entries (m - f.dense.nodes) → e ≡ select (drop f.sb s) f.sparse.entries (m + 1 - f.dense.nodes) → is_exact (node_at (nodes s f) m) ≡ b
        → (bit b ≡ bit (is_exact (node_at (nodes s f) m))) × (p + bit b ≡ select (drop f.sb s) f.sparse.entries (m - f.dense.nodes) + bit (is_exact (node_at (nodes s f) m)))
        × (e ≡ p + bit b + length (branches s f m))
    entries_valid p e b u v x = let y = ap bit x in (sym y, omega arith, omega (arith, end_sparse))

    -- one entry alone is no extra FF
    pub sole_plain : (p e : ℕ) → p ≡ select (drop f.sb s) f.sparse.entries (m - f.dense.nodes) → e ≡ select (drop f.sb s) f.sparse.entries (m + 1 - f.dense.nodes) → e < p + 2 → is_exact (node_at (nodes s f) m) ≡ false
    sole_plain p e u v h = exact_sparse ∙ rw (← u, ← v, lt-leb (p + 2) e h)

    -- nor is a first label that is no FF
    pub other_plain : (p : ℕ) → p ≡ select (drop f.sb s) f.sparse.entries (m - f.dense.nodes) → (get_or s (f.sl + p) 0 ≡ 255 → ⊥) → is_exact (node_at (nodes s f) m) ≡ false
    other_plain p u h = exact_sparse ∙ rw (← u, ne_eqb (get_or s (f.sl + p) 0) 255 h) (and_no (leb (p + 2) (select (drop f.sb s) f.sparse.entries (m + 1 - f.dense.nodes))))
      where
        and_no : (b : Bool) → b && false ≡ false
        and_no true = refl
        and_no false = refl

    -- a first FF of several is
    pub first_exact : (p e : ℕ) → p ≡ select (drop f.sb s) f.sparse.entries (m - f.dense.nodes) → e ≡ select (drop f.sb s) f.sparse.entries (m + 1 - f.dense.nodes) → p + 2 ≤ e → get_or s (f.sl + p) 0 ≡ 255
        → is_exact (node_at (nodes s f) m) ≡ true
    first_exact p e u v h l = exact_sparse ∙ rw (← u, ← v, le-leb (p + 2) e h, l)

  -- S-Labels lie within the image
  pub labels_room : f.sl + f.sparse.entries ≤ length s
  labels_room =
      let t = a.SL in
      let l = ap length t.1.1 ∙ length-append (concat (map sparse_labels (sparse_nodes s f))) t.1.0 in
      omega (arith, t.0, length-drop f.sl s, a.entry_size)

  -- few branches continue
  pub few_children : (m : ℕ) → m ≤ f.dense.nodes → children_before (nodes s f) m ≤ 67108864
  few_children m h = omega (arith, (before_dense m h).0, rank_le (drop f.dc s) (256 * m), a.dense_size, a.writable.few_dense)
