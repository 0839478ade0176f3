-- The first branch of a node at or behind a label, by its position: what the bits and the entries there say of it.
use Rattle.std.specs.Prelude.{ℕ, ◌+◌, ◌-◌, ◌*◌, ◌<◌, ◌≤◌, ◌≡◌, refl, Bool, true, false, [], map, length, get_or, drop, ltb, eqb}
use Rattle.std.proofs.Common.{sym, ap, ◌∙◌, arith, get_or-drop, ltb-true, ltb-false}
use Rattle.std.proofs.Math.Option.{none}
use Rattle.std.proofs.Math.ListN.{get_or-append}
use Rattle.spec.specs.Bytes.{Bytes, bit}
use Rattle.spec.specs.Nodes.{node, label_of, has_child, branches_of, is_exact}
use Rattle.bits.specs.Bits.{bit_at, rank, select}
use Rattle.image.specs.declared.Frame.{Frame}
use Rattle.nav_nodes.specs.declared.BranchKind.TheVariants.{Absent}
use Rattle.nav_nodes.specs.declared.NextBranch.{NextBranch}
use Rattle.nav_nodes.specs.Counting.{labels_below}
use Rattle.nav_nodes.specs.Slots.{node_at}
use Rattle.nav_nodes.specs.Descent.{goes_on}
use Rattle.nav_nodes.specs.NextLabel.{first_kind, kind_there, kind_by, kind_at, kind_end, label_first, goes_child, own_index, next_none, next_some, rising}
use Rattle.nav_nodes.specs.Accepted.{Accepted, dense_nodes, sparse_nodes, nodes}
use Rattle.nav_nodes.specs.Positions.{branches, branch_index, bits_dense, branch_dense, label_sparse, child_sparse, branch_sparse}
use Rattle.nav_nodes.specs.NextBranch.{IsNextBranch, EntryRead, EntryBranch}

module _ (s : Bytes) (f : Frame) (a : Accepted s f) where
  module _ (m y p : ℕ) (h : m < f.dense.nodes) (l : y ≤ 256) (is : p ≡ select (drop f.dl s) (256 * m + 256) (rank (drop f.dl s) (256 * m + y))) where
    inside : m < length (dense_nodes s f)
    inside = omega (arith, a.dense_size)

    the_node : node_at (dense_nodes s f) m ≡ node_at (nodes s f) m
    the_node = sym (get_or-append (dense_nodes s f) (sparse_nodes s f) (node none []) m inside)

    some_there : branch_index s f m y < length (branches s f m) → (p ≡ 256 * m + get_or (map label_of (branches s f m)) (branch_index s f m y) 0) × (get_or (map label_of (branches s f m)) (branch_index s f m y) 0 < 256)
    some_there k =
        let r = rw the_node at (next_some (dense_nodes s f) (sparse_nodes s f) (drop f.dl s) (drop f.dc s) (drop f.dp s) a.DL.1 a.DC.1 a.DP.1 a.writable.dense_labelled a.writable.dense_bytes m y inside l (rw (← the_node) at k)) in
        (is ∙ r.0, r.1)

    none_there : length (branches s f m) ≤ branch_index s f m y → p ≡ 256 * m + 256
    none_there k =
        is ∙ (next_none (dense_nodes s f) (sparse_nodes s f) (drop f.dl s) (drop f.dc s) (drop f.dp s) a.DL.1 a.DC.1 a.DP.1 a.writable.dense_labelled a.writable.dense_bytes m y inside l (rw (← the_node) at k))

    -- no one is left of the node's bits
    pub dense_none : 256 * m + 256 ≤ p → IsNextBranch s f m y Absent 0 p
    dense_none k = record { kind_is = go (ltb (branch_index s f m y) (length (branches s f m))) refl; there = λ n. absurd (n refl) }
      where
        go : (b : Bool) → ltb (branch_index s f m y) (length (branches s f m)) ≡ b → Absent ≡ first_kind (drop (branch_index s f m y) (branches s f m))
        go true e = let r = some_there (ltb-true (branch_index s f m y) (length (branches s f m)) e) in absurd (omega arith)
        go false e = kind_end (branches s f m) (branch_index s f m y) (ltb-false (branch_index s f m y) (length (branches s f m)) e)

    -- the next one is a branch
    pub dense_some : p < 256 * m + 256 → (c : ℕ) → c ≡ bit_at (drop f.dc s) p → IsNextBranch s f m y (kind_there (eqb c 1)) (p - 256 * m) p
    dense_some k c e = go (ltb (branch_index s f m y) (length (branches s f m))) refl
      where
        go : (b : Bool) → ltb (branch_index s f m y) (length (branches s f m)) ≡ b → IsNextBranch s f m y (kind_there (eqb c 1)) (p - 256 * m) p
        go true t =
            let i : ℕ = branch_index s f m y in
            let x : ℕ = get_or (map label_of (branches s f m)) (branch_index s f m y) 0 in
            let q = ltb-true (branch_index s f m y) (length (branches s f m)) t in
            let r = some_there q in
            let o : branch_index s f m (get_or (map label_of (branches s f m)) (branch_index s f m y) 0) ≡ branch_index s f m y =
            rw the_node at (own_index (branches_of (node_at (dense_nodes s f) m)) (labels_below y (branches_of (node_at (dense_nodes s f) m)))
            (rising (dense_nodes s f) (sparse_nodes s f) (drop f.dl s) (drop f.dc s) (drop f.dp s) a.DL.1 a.DC.1 a.DP.1 a.writable.dense_labelled a.writable.dense_bytes m y inside l) (rw (← the_node) at q)) in
            let g = (bits_dense s f a m (get_or (map label_of (branches s f m)) (branch_index s f m y) 0) h r.1).1 in
            let b : bit_at (drop f.dc s) p ≡ bit (get_or (map has_child (branches s f m)) (branch_index s f m y) false) =
            ap (bit_at (drop f.dc s)) r.0 ∙ g ∙ ap bit (ap (λ (z : ℕ). goes_on (get_or (map label_of (branches s f m)) (branch_index s f m y) 0) (drop z (branches s f m))) o ∙ goes_child (branches s f m) (branch_index s f m y) q) in
            let w = branch_dense s f a m (get_or (map label_of (branches s f m)) (branch_index s f m y) 0) h (omega (arith, r.1)) in
            record {
              kind_is = kind_by c (get_or (map has_child (branches s f m)) (branch_index s f m y) false) (e ∙ b) ∙ sym (kind_at (branches s f m) (branch_index s f m y) q);
              there = λ n. record { label_is = omega (arith, r.0, label_first (branches s f m) (branch_index s f m y) q); label_byte = omega (arith, r.0, r.1); at_is = rw (← r.0) at (rw o at w) };
            }
        go false t = absurd (omega (arith, none_there (ltb-false (branch_index s f m y) (length (branches s f m)) t)))

  module _ (m y p first : ℕ) (h : f.dense.nodes ≤ m) (l : m < f.dense.nodes + f.sparse.nodes) (starts : first ≡ select (drop f.sb s) f.sparse.entries (m - f.dense.nodes) + bit (is_exact (node_at (nodes s f) m)))
      (stands : p ≡ first + branch_index s f m y) where
    -- no entry is left of the node's
    pub sparse_none : first + length (branches s f m) ≤ p → IsNextBranch s f m y Absent 0 p
    sparse_none k = record { kind_is = kind_end (branches s f m) (branch_index s f m y) (omega arith); there = λ n. absurd (n refl) }

    -- the next one is a branch
    pub sparse_some : p < first + length (branches s f m) → p ≤ f.sparse.entries → (b : NextBranch) → EntryRead s f p b → IsNextBranch s f m y b.kind b.label b.at.0
    sparse_some k r b e =
        let q : branch_index s f m y < length (branches s f m) = omega arith in
        let c = child_sparse s f a m h l first starts (branch_index s f m y) q in
        let t = label_sparse s f a m h l first starts (branch_index s f m y) q in
        let w = branch_sparse s f a m h l first starts (branch_index s f m y) (omega arith) (omega arith) in
        record {
          kind_is = e.kind_is ∙ kind_by (bit_at (drop f.sc s) p) (get_or (map has_child (branches s f m)) (branch_index s f m y) false) (ap (bit_at (drop f.sc s)) stands ∙ c) ∙ sym (kind_at (branches s f m) (branch_index s f m y) q);
          there = λ n. record {
            label_is = e.label_is ∙ sym (get_or-drop f.sl s p 0) ∙ ap (λ (z : ℕ). get_or (drop f.sl s) z 0) stands ∙ t ∙ label_first (branches s f m) (branch_index s f m y) q;
            label_byte = e.label_byte;
            at_is = rw e.at_is (rw (← stands) at w);
          };
        }

    -- The branch at the entry, or none where the node's entries end there.
    pub sparse_next : (end : ℕ) → end ≡ first + length (branches s f m) → end ≤ f.sparse.entries → (b : NextBranch) → EntryBranch s f p end b → IsNextBranch s f m y b.kind b.label b.at.0
    sparse_next end e u b r = go (ltb p end) refl
      where
        go : (t : Bool) → ltb p end ≡ t → IsNextBranch s f m y b.kind b.label b.at.0
        go true q = let k = ltb-true p end q in sparse_some (omega arith) (omega arith) b (r.read k)
        go false q =
            let k = ltb-false p end q in
            let z = r.none_left k in
            record { kind_is = z ∙ kind_end (branches s f m) (branch_index s f m y) (omega arith); there = λ n. absurd (n z) }
