-- Where a sparse node goes on and where it ends, by the bits of S-LOUDS; and its branches by their entries.
use Rattle.std.specs.Prelude.{ℕ, ◌+◌, ◌-◌, ◌<◌, ◌≤◌, ◌≡◌, refl, Bool, true, false, get_or, drop, ltb}
use Rattle.std.proofs.Common.{sym, ap, arith, ltb-true, ltb-false}
use Rattle.spec.specs.Bytes.{Bytes, bit}
use Rattle.spec.specs.Nodes.{is_exact}
use Rattle.bits.specs.Bits.{bit_at}
use Rattle.bits.proofs.RankLaws.{rank_next, rank_up}
use Rattle.bits_select.specs.SelectLaws.{select_is, select_behind}
use Rattle.image.specs.declared.Frame.{Frame}
use Rattle.nav_nodes.specs.declared.BranchKind.TheVariants.{Absent}
use Rattle.nav_nodes.specs.declared.NextBranch.{NextBranch}
use Rattle.nav_nodes.specs.Counting.{none_below_zero, labels_below_le}
use Rattle.nav_nodes.specs.Slots.{node_at}
use Rattle.nav_nodes.specs.Accepted.{Accepted, nodes}
use Rattle.nav_nodes.specs.Positions.{branches, branch_index, end_sparse, sole_plain, other_plain, first_exact}
use Rattle.nav_nodes.specs.Tables.{start_found}
use Rattle.nav_nodes.specs.NextBranch.{IsNextBranch, EntryRead}
use Rattle.nav_nodes.proofs.NextBranchLaws.{sparse_none, sparse_some}
use Rattle.nav_nodes.specs.FoundBranch.{node_count, IsFirstBranch}
use Rattle.walk_path.specs.Entries.{start_of}

module _ (s : Bytes) (f : Frame) (a : Accepted s f) (m : ℕ) (h : f.dense.nodes ≤ m) (l : m < node_count f) where
  -- a node has an entry
  pub start_below : start_of s f m < start_of s f (m + 1)
  start_below =
      let r = start_found s f a m (start_of s f m) h l refl in
      omega (arith, select_behind (drop f.sb s) f.sparse.entries (m + 1 - f.dense.nodes) (start_of s f m + 1) (omega (arith, r.0)) (omega (arith, r.1)))

  -- behind its first entry, an entry with no start is its own, and one with a start is the next node's
  pub louds_inside : (p : ℕ) → p ≤ start_of s f (m + 1) → p < f.sparse.entries → bit_at (drop f.sb s) p ≡ 0 → p < start_of s f (m + 1)
  louds_inside p u v e = go (ltb p (start_of s f (m + 1))) refl
    where
      go : (b : Bool) → ltb p (start_of s f (m + 1)) ≡ b → p < start_of s f (m + 1)
      go true q = ltb-true p (start_of s f (m + 1)) q
      go false q =
          let same : p ≡ start_of s f (m + 1) = omega (arith, ltb-false p (start_of s f (m + 1)) q) in
          let i = rw (← same) at (select_is (drop f.sb s) f.sparse.entries (m + 1 - f.dense.nodes)) in
          absurd (omega (arith, i.1, i.2 v, rank_next (drop f.sb s) p))

  pub louds_outside : (p : ℕ) → start_of s f m < p → (bit_at (drop f.sb s) p ≡ 0 → ⊥) → start_of s f (m + 1) ≤ p
  louds_outside p u e = go (ltb p (start_of s f (m + 1))) refl
    where
      go : (b : Bool) → ltb p (start_of s f (m + 1)) ≡ b → start_of s f (m + 1) ≤ p
      go true q =
          let k = ltb-true p (start_of s f (m + 1)) q in
          let r = start_found s f a m (start_of s f m) h l refl in
          let i = select_is (drop f.sb s) f.sparse.entries (m + 1 - f.dense.nodes) in
          absurd (e (omega (arith, i.1, r.1, rank_next (drop f.sb s) p, rank_up (drop f.sb s) (start_of s f m + 1) p (omega arith), rank_up (drop f.sb s) (p + 1) (start_of s f (m + 1)) (omega arith))))
      go false q = ltb-false p (start_of s f (m + 1)) q

  -- ---- branches by their entries

  module _ (y p : ℕ) (is : p ≡ start_of s f m + bit (is_exact (node_at (nodes s f) m)) + branch_index s f m y) where
    -- it is not behind the next node's first entry
    pub entry_reached : p ≤ start_of s f (m + 1)
    entry_reached = omega (arith, end_sparse s f a m h l, labels_below_le y (branches s f m))

    -- the entry is the next node's: no branch is left
    pub next_gone : start_of s f (m + 1) ≤ p → IsNextBranch s f m y Absent 0 p
    next_gone k = sparse_none s f a m y p (start_of s f m + bit (is_exact (node_at (nodes s f) m))) h l refl is (omega (arith, end_sparse s f a m h l))

    -- it is the node's own: the branch that it tells
    pub next_there : p < start_of s f (m + 1) → (b : NextBranch) → EntryRead s f p b → IsNextBranch s f m y b.kind b.label b.at.0
    next_there k b r =
        sparse_some s f a m y p (start_of s f m + bit (is_exact (node_at (nodes s f) m))) h l refl is (omega (arith, end_sparse s f a m h l))
        (omega (arith, (select_is (drop f.sb s) f.sparse.entries (m + 1 - f.dense.nodes)).0)) b r

  -- ---- the first branch

  module _ (p : ℕ) (is : p ≡ start_of s f m) (b : NextBranch) where
    plain : is_exact (node_at (nodes s f) m) ≡ false → EntryRead s f p b → IsFirstBranch s f m (record { exact = false; branch = b })
    plain e r = record { exact_is = sym e; branch_is = next_there 0 p (omega (arith, is, ap bit e, none_below_zero (branches s f m))) (omega (arith, start_below)) b r }

    -- a first label that is no FF
    pub first_other : (get_or s (f.sl + p) 0 ≡ 255 → ⊥) → EntryRead s f p b → IsFirstBranch s f m (record { exact = false; branch = b })
    first_other n = plain (other_plain s f a m h l p is n)

    -- an entry that is alone
    pub first_sole : start_of s f (m + 1) ≤ p + 1 → EntryRead s f p b → IsFirstBranch s f m (record { exact = false; branch = b })
    first_sole n = plain (sole_plain s f a m h l p (start_of s f (m + 1)) is refl (omega arith))

    -- an FF that is not alone
    pub first_extra : get_or s (f.sl + p) 0 ≡ 255 → p + 1 < start_of s f (m + 1) → EntryRead s f (p + 1) b → IsFirstBranch s f m (record { exact = true; branch = b })
    first_extra e n r =
        let t = first_exact s f a m h l p (start_of s f (m + 1)) is refl (omega arith) e in
        record { exact_is = sym t; branch_is = next_there 0 (p + 1) (omega (arith, is, ap bit t, none_below_zero (branches s f m))) n b r }
