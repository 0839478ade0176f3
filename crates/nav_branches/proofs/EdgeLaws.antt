-- Where a sparse node's next higher branch stands, from the position of the branch at a label, and what its last label says.
use Prim.Native.Nat.{ℕ, ◌+◌, ◌-◌, ◌<◌, ◌≤◌}
use mathlib.Core.Path.{◌≡◌, refl, sym, ap, ◌∙◌}
use mathlib.Core.Bool.{Bool, true, false}
use mathlib.Core.List.{map}
use native.Mathlib.Omega.{arith}
use lib.ListN.{length, get_or, drop}
use lib.Seq.{get_or-drop}
use lib.Dec.{ltb, eqb}
use borrow.Author.Tests.{le-ltb, lt-ltb, ltb-true, ltb-false}
use Rattle.spec.specs.Bytes.{Bytes, bit}
use Rattle.spec.specs.Nodes.{label_of, is_exact}
use Rattle.bits.specs.Bits.{bit_at, select}
use Rattle.bits.proofs.RankLaws.{rank_le}
use Rattle.bits_select.specs.SelectLaws.{select_le}
use Rattle.image.specs.declared.Frame.{Frame}
use Rattle.nav_nodes.specs.declared.BranchKind.TheVariants.{Absent}
use Rattle.nav_nodes.specs.declared.Found.{Found}
use Rattle.nav_nodes.specs.declared.NextBranch.{NextBranch}
use Rattle.nav_nodes.specs.Accepted.{nodes}
use Rattle.nav_nodes.specs.Counting.{labels_below_le}
use Rattle.nav_nodes.specs.FoundBranch.{IsSparse, FoundBranch, EntriesAt}
use Rattle.nav_nodes.specs.LabelMaps.{matches}
use Rattle.nav_nodes.specs.NextBranch.{IsNextBranch, EntryBranch}
use Rattle.nav_nodes.proofs.NextBranchLaws.{sparse_next}
use Rattle.nav_nodes.specs.NextLabel.{first_kind, kind_with, kind_there, is_there, with_there, there_before, labels_next, own_index}
use Rattle.nav_nodes.specs.Positions.{branches, branch_index, child_at, slot_at, BranchAt, end_sparse, rising, label_sparse, branch_sparse, index_sparse, none_end, one_there}
use Rattle.nav_nodes.specs.Slots.{node_at}
use Rattle.nav_nodes.specs.SparsePositions.{label_high}
use Rattle.nav_branches.specs.declared.edges.LastBranch.{LastBranch}
use Rattle.nav_branches.specs.EdgeContracts.{IsLastBranch}

-- the first entry of a sparse node's branches
abbrev first_entry : Bytes → Frame → ℕ → ℕ
first_entry s f m = select (drop f.sb s) f.sparse.entries (m - f.dense.nodes) + bit (is_exact (node_at (nodes s f) m))

module _ (s : Bytes) (f : Frame) (m : ℕ) (n : IsSparse s f m) where
  -- a branch of a sparse node stands at one position
  one_position : (i p r : ℕ) → BranchAt s f m i p → BranchAt s f m i r → p ≡ r
  unfolding child_at slot_at
  one_position i p r u v =
      let z = le-ltb m f.dense.nodes n.behind_dense in
      omega (
        arith,
        rw z at (u.child_is ∙ sym v.child_is),
        rw z at (u.slot_is ∙ sym v.slot_is),
        rank_le (drop f.sc s) p,
        rank_le (drop f.sc s) r,
      )

  -- its entries are among the image's
  room : first_entry s f m + length (branches s f m) ≤ f.sparse.entries
  room = omega (arith, end_sparse s f n.accepted m n.behind_dense n.inside, select_le (drop f.sb s) f.sparse.entries (m + 1 - f.dense.nodes))

  -- branch i stands i entries behind the first
  branch_there : (i : ℕ) → i ≤ length (branches s f m) → BranchAt s f m i (first_entry s f m + i)
  branch_there i h = branch_sparse s f n.accepted m n.behind_dense n.inside (first_entry s f m) refl i h (omega (arith, room))

  module _ (y : ℕ) (b : Found) (r : FoundBranch s f m y b) where
    -- the first branch whose label is not below y stands at its entry
    found_at : b.at.0 ≡ first_entry s f m + branch_index s f m y
    found_at = one_position (branch_index s f m y) b.at.0 (first_entry s f m + branch_index s f m y) r.at_is (branch_there (branch_index s f m y) (labels_below_le y (branches s f m)))

    -- The position behind the node's last branch is among the image's entries.
    pub end_room : b.end.0 ≤ f.sparse.entries
    end_room = omega (arith, found_at, r.end_is n.behind_dense, room)

    -- The first branch with a label above y stands behind the branch at y, or, where y has none, at its position.
    pub higher_there : (p : ℕ) → p ≡ b.at.0 + bit (is_there b.kind) → (c : NextBranch) → EntryBranch s f p b.end.0 c → IsNextBranch s f m (y + 1) c.kind c.label c.at.0
    higher_there p e =
        let t : is_there b.kind ≡ matches y (drop (branch_index s f m y) (branches s f m)) = ap is_there r.kind_is ∙ with_there y (drop (branch_index s f m y) (branches s f m)) in
        let next = labels_next y (branches s f m) (rising s f n.accepted m n.behind_dense n.inside) in
        sparse_next s f n.accepted m (y + 1) p (first_entry s f m) n.behind_dense n.inside refl (omega (arith, e, ap bit t, found_at)) b.end.0 (omega (arith, found_at, r.end_is n.behind_dense)) end_room

  module _ (y first end : ℕ) (exact : Bool) (r : EntriesAt s f m exact first end) where
    -- where all labels are below z, the branches from z on start at the end
    past : (z : ℕ) → (first < end → get_or s (f.sl + (end - 1)) 0 < z) → end ≡ first + branch_index s f m z
    past z h =
        index_sparse s f n.accepted m n.behind_dense n.inside first r.first_is end z (omega (arith, r.end_is)) (omega (arith, r.end_is)) (λ k. rw (get_or-drop f.sl s (end - 1) 0) (h k)) (λ k. absurd (omega (arith, r.end_is)))

    -- no label is above y
    no_higher : end ≡ first + branch_index s f m (y + 1) → false ≡ is_there (first_kind (drop (branch_index s f m (y + 1)) (branches s f m)))
    no_higher h = sym (there_before (branches s f m) (branch_index s f m (y + 1)) ∙ le-ltb (branch_index s f m (y + 1)) (length (branches s f m)) (omega (arith, r.end_is)))

    -- no branch at y, nor behind it
    end_kind : end ≡ first + branch_index s f m y → Absent ≡ kind_with y (drop (branch_index s f m y) (branches s f m))
    end_kind h = none_end s f n.accepted m n.behind_dense n.inside first r.first_is end y h (omega (arith, r.end_is))

    entry_at : (p : ℕ) → p ≡ first + branch_index s f m y → BranchAt s f m (branch_index s f m y) p
    entry_at p h = rw h (branch_sparse s f n.accepted m n.behind_dense n.inside first r.first_is (branch_index s f m y) (labels_below_le y (branches s f m)) (omega (arith, r.end_is, r.end_inside, labels_below_le y (branches s f m))))

    -- A node without branches.
    pub last_none : (b : LastBranch) → b ≡ record { higher = false; kind = Absent; at = record { 0 = end } } → end ≤ first → IsLastBranch s f m y b
    last_none b e h =
        let none : first < end → get_or s (f.sl + (end - 1)) 0 < y = λ k. absurd (omega arith) in
        let above : first < end → get_or s (f.sl + (end - 1)) 0 < y + 1 = λ k. absurd (omega arith) in
        rw e (record { higher_is = no_higher (past (y + 1) above); kind_is = λ q. end_kind (past y none); at_is = λ q. entry_at end (past y none) })

    module _ (some : first < end) (x : ℕ) (is : x ≡ get_or s (f.sl + (end - 1)) 0) where
      last_label : get_or (map label_of (branches s f m)) (length (branches s f m) - 1) 0 ≡ x
      last_label =
          let e : end - 1 ≡ first + (length (branches s f m) - 1) = omega (arith, r.end_is) in
          sym (label_sparse s f n.accepted m n.behind_dense n.inside first r.first_is (length (branches s f m) - 1) (omega (arith, r.end_is)))
          ∙ ap (λ (z : ℕ). get_or (drop f.sl s) z 0) (sym e) ∙ get_or-drop f.sl s (end - 1) 0 ∙ sym is

      -- The last label is another than y.
      pub last_other : (b : LastBranch) → b ≡ record { higher = ltb y x; kind = Absent; at = record { 0 = end } } → (x ≡ y → ⊥) → IsLastBranch s f m y b
      last_other b e h = rw e (record { higher_is = go (ltb y x) refl; kind_is = λ q. end_kind (past y (low q)); at_is = λ q. entry_at end (past y (low q)) })
        where
          low : ltb y x ≡ false → first < end → get_or s (f.sl + (end - 1)) 0 < y
          low q k = let u = ltb-false y x q in let d : (x ≡ y) → ⊥ = h in omega (arith, is, under x y u d)
            where
              under : (x y : ℕ) → x ≤ y → (x ≡ y → ⊥) → x < y
              under x y u d = omega arith

          go : (t : Bool) → ltb y x ≡ t → t ≡ is_there (first_kind (drop (branch_index s f m (y + 1)) (branches s f m)))
          go true q =
              sym (there_before (branches s f m) (branch_index s f m (y + 1)) ∙ lt-ltb (branch_index s f m (y + 1)) (length (branches s f m))
              (omega (arith, r.end_is, label_high (y + 1) (branches s f m) (length (branches s f m) - 1) (omega (arith, r.end_is)) (omega (arith, last_label, ltb-true y x q)))))
          go false q = no_higher (past (y + 1) (λ k. omega (arith, low q k)))

      -- The last label is y.
      pub last_own : (b : LastBranch) (c : ℕ) → b ≡ record { higher = false; kind = kind_there (eqb c 1); at = record { 0 = end - 1 } } → x ≡ y → c ≡ bit_at (drop f.sc s) (end - 1) → IsLastBranch s f m y b
      last_own b c e h q =
          let o : branch_index s f m y ≡ length (branches s f m) - 1 =
          ap (λ (z : ℕ). branch_index s f m z) (sym (last_label ∙ h)) ∙ own_index (branches s f m) (length (branches s f m) - 1) (rising s f n.accepted m n.behind_dense n.inside) (omega (arith, r.end_is)) in
          let p : end - 1 ≡ first + branch_index s f m y = omega (arith, r.end_is) in
          rw e (record {
            higher_is = no_higher (past (y + 1) (λ k. omega (arith, is, h)));
            kind_is = λ k. one_there s f n.accepted m n.behind_dense n.inside first r.first_is (end - 1) y c p (omega (arith, r.end_is)) (sym is ∙ h) q;
            at_is = λ k. entry_at (end - 1) p;
          })
