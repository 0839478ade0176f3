-- The branches that continue before a node, by rank and select over the bodies.
use Prim.Native.Nat.{ℕ, ◌+◌, ◌-◌, ◌*◌, ◌<◌, ◌≤◌}
use Rattle.std.specs.Prelude.{◌≡◌, Bool, ◌&&◌, length, take, eqb}
use Rattle.std.proofs.Math.Path.{refl, ap₂}
use Rattle.std.proofs.Common.{ap, ◌∙◌, arith}
use Rattle.std.proofs.Math.Bool.{true, false, cond}
use Rattle.std.proofs.Math.Dec.{leb}
use borrow.Author.Tests.{leb-true, le-leb, lt-leb}
use Rattle.spec.specs.Bytes.{Bytes, ones}
use Rattle.bits.specs.Bits.{rank, select}
use Rattle.bits.proofs.RankLaws.{rank_le}
use Rattle.bits_select.specs.SelectLaws.{select_le}
use Rattle.check_levels.specs.LevelEnds.{rise_ext, nodes_above_ext}
use Rattle.check_levels.specs.SparseNodes.{position_of}
use Rattle.check_levels.specs.BitTests.{branches_to}
use Rattle.check_levels.specs.LevelTests.{ends_valid}
use Rattle.check_levels.specs.Positions.{bits, ones_bits, ones_all, position_select}

-- the branches before node i, of n dense nodes and so many sparse entries
unfoldable pub node_branches : ℕ → ℕ → Bytes → Bytes → Bytes → ℕ → ℕ
unfolding rank select
node_branches n entries dc sc sb i = cond (leb i n) (rank dc (256 * i)) (rank dc (256 * n) + rank sc (select sb entries (i - n)))

-- before a dense node, or the first sparse one
pub branches_dense : (n entries : ℕ) (dc sc sb : Bytes) (i : ℕ) → i ≤ n → node_branches n entries dc sc sb i ≡ rank dc (256 * i)
unfolding node_branches
branches_dense n entries dc sc sb i h = rw (le-leb i n h)

-- before a later sparse node
pub branches_sparse : (n entries : ℕ) (dc sc sb : Bytes) (i : ℕ) → n < i → node_branches n entries dc sc sb i ≡ rank dc (256 * n) + rank sc (select sb entries (i - n))
unfolding node_branches
branches_sparse n entries dc sc sb i h = rw (lt-leb i n h)

module _ (n entries : ℕ) (dc sc sb : Bytes) (b : entries ≤ 8 * length sb) where
  pub branches_are : (i : ℕ) → branches_to n (bits dc (256 * n)) (bits sc entries) (bits sb entries) i ≡ node_branches n entries dc sc sb i
  unfolding branches_to node_branches
  branches_are i = go (leb i n) refl
    where
      go : (t : Bool) → leb i n ≡ t
          → cond t (ones (take (256 * i) (bits dc (256 * n)))) (ones (bits dc (256 * n)) + ones (take (position_of (i - n) (bits sb entries)) (bits sc entries)))
          ≡ cond t (rank dc (256 * i)) (rank dc (256 * n) + rank sc (select sb entries (i - n)))
      go true e = ones_bits dc (256 * n) (256 * i) (omega (arith, leb-true i n e))
      go false e =
          ap₂ ◌+◌ (ones_all dc (256 * n))
          (ap (λ (k : ℕ). ones (take k (bits sc entries))) (position_select sb entries (i - n) b) ∙ ones_bits sc entries (select sb entries (i - n)) (select_le sb entries (i - n)))

  -- the tests of the levels, counted so
  pub ends_bytes : (N levels m : ℕ) → 1 ≤ N
      → ends_valid (branches_to n (bits dc (256 * n)) (bits sc entries) (bits sb entries)) N levels m ≡ ends_valid (node_branches n entries dc sc sb) N levels m
  ends_bytes N levels m h =
      ap₂ (λ (t : Bool) (k : ℕ). t && eqb k m)
      (rise_ext (branches_to n (bits dc (256 * n)) (bits sc entries) (bits sb entries)) (node_branches n entries dc sc sb) N (λ e l. branches_are e) 63 1 h)
      (nodes_above_ext (branches_to n (bits dc (256 * n)) (bits sc entries) (bits sb entries)) (node_branches n entries dc sc sb) N (λ e l. branches_are e) levels)

-- they are at most as many as bits
pub branches_le : (n entries : ℕ) (dc sc sb : Bytes) (i : ℕ) → node_branches n entries dc sc sb i ≤ 256 * n + entries
unfolding node_branches
branches_le n entries dc sc sb i = go (leb i n) refl
  where
    go : (t : Bool) → leb i n ≡ t → cond t (rank dc (256 * i)) (rank dc (256 * n) + rank sc (select sb entries (i - n))) ≤ 256 * n + entries
    go true e = omega (arith, leb-true i n e, rank_le dc (256 * i))
    go false e = omega (arith, rank_le dc (256 * n), rank_le sc (select sb entries (i - n)), select_le sb entries (i - n))
