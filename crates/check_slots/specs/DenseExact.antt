-- The exact leaves among the dense nodes by position: the set bits of D-IsPrefixKey, and the leaves before each.
use Prim.Native.Nat.{ℕ, zero, suc, ◌+◌, ◌-◌, ◌*◌, ◌<◌, ◌≤◌}
use Rattle.std.specs.Prelude.{◌≡◌, refl, Bool, true, false, ◌&&◌, ◌||◌, not, take, eqb}
use Rattle.std.proofs.Math.Path.{sym, ap}
use Rattle.std.proofs.Common.{◌∙◌, length-drop, length-take-le, eqb-true}
use mathlib.Core.List.{[]}
use native.Mathlib.Omega.{arith}
use Rattle.std.proofs.Math.ListN.{length, drop}
use Rattle.std.proofs.Math.Seq.{drop-length}
use Rattle.std.proofs.lemmas.Bool.{eqb-false}
use Rattle.spec.specs.Bytes.{Bytes, Bits, bit, count, ones}
use Rattle.spec.specs.Nodes.{shape, dense_entries, dense_shapes}
use Rattle.spec.specs.Trie.{covered}
use Rattle.bits.specs.Bits.{bit_at, rank}
use Rattle.bits.proofs.RankLaws.{rank_next, rank_zero}
use Rattle.check_levels.specs.Shapes.{ends_here, leaves_at}
use Rattle.check_levels.specs.DenseNodes.{entries_end, ones_take_parts, next_node}
use Rattle.check_levels.specs.Positions.{bits, is_set, length_bits, bits_from, ones_bits}
use Rattle.check_levels.specs.Ranges.{all_from}
use Rattle.check_slots.specs.NodeSlots.{exact_from}
use Rattle.theory.proofs.DenseBits.{covered_split}

-- the leaves before dense node m: labels before it that do not continue, and exact leaves
abbrev pub dense_slot : Bytes → Bytes → Bytes → ℕ → ℕ
dense_slot dl dc dp m = rank dl (256 * m) + rank dp m - rank dc (256 * m)

-- dense node m is no exact leaf, or its slot passes the test
abbrev pub dense_exact : (ℕ → Bool) → Bytes → Bytes → Bytes → ℕ → Bool
dense_exact f dl dc dp m = not (is_set dp m) || f (dense_slot dl dc dp m)

-- a bit that is set counts as one
pub bit_set : (s : Bytes) (i : ℕ) → bit (is_set s i) ≡ bit_at s i
bit_set s i = go (eqb (bit_at s i) 1) refl
  where
    go : (t : Bool) → eqb (bit_at s i) 1 ≡ t → bit t ≡ bit_at s i
    go true e = sym (eqb-true (bit_at s i) 1 e)
    go false e = let n = eqb-false (bit_at s i) 1 e in omega arith

module _ (dl dc dp : Bytes) (n : ℕ) (a : 256 * n ≤ 8 * length dl) (b : 256 * n ≤ 8 * length dc) (c : n ≤ 8 * length dp)
    (within : covered (bits dc (256 * n)) (bits dl (256 * n)) ≡ true) where
  abbrev labels : Bits
  labels = bits dl (256 * n)

  abbrev children : Bits
  children = bits dc (256 * n)

  row : (s : Bytes) → 256 * n ≤ 8 * length s → (i : ℕ) → i < n → length (take 256 (drop (256 * i) (bits s (256 * n)))) ≡ 256
  row s l i h = length-take-le 256 (drop (256 * i) (bits s (256 * n))) (omega (arith, length-drop (256 * i) (bits s (256 * n)), length_bits s (256 * n) l))

  row_ones : (s : Bytes) (i : ℕ) → i < n → rank s (256 * suc i) ≡ rank s (256 * i) + ones (take 256 (drop (256 * i) (bits s (256 * n))))
  row_ones s i h =
      let e : 256 * i + 256 ≡ 256 * suc i = omega arith in
      omega (arith, ones_take_parts (256 * i) 256 (bits s (256 * n)), ones_bits s (256 * n) (256 * i + 256) (omega arith), ones_bits s (256 * n) (256 * i) (omega arith), ap (rank s) e)

  row_within : (i : ℕ) → i < n → covered (take 256 (drop (256 * i) children)) (take 256 (drop (256 * i) labels)) ≡ true
  row_within i h =
      let even : length labels ≡ length children = length_bits dl (256 * n) a ∙ sym (length_bits dc (256 * n) b) in
      let p = (covered_split (256 * i) children labels even within).1 in
      (covered_split 256 (drop (256 * i) children) (drop (256 * i) labels) (omega (arith, length-drop (256 * i) labels, length-drop (256 * i) children, even)) p).0

  -- the leaves of node i
  row_leaves : (i : ℕ) → i < n
      → count ends_here (dense_entries 0 (take 256 (drop (256 * i) labels)) (take 256 (drop (256 * i) children))) + ones (take 256 (drop (256 * i) children)) ≡ ones (take 256 (drop (256 * i) labels))
  row_leaves i h =
      entries_end 0 (take 256 (drop (256 * i) labels)) (take 256 (drop (256 * i) children)) (row dl a i h ∙ sym (row dc b i h)) (row_within i h)

  from_is : (f : ℕ → Bool) (k i : ℕ) → i + k ≡ n → rank dc (256 * i) ≤ rank dl (256 * i)
      → exact_from f (dense_slot dl dc dp i) (dense_shapes (drop (256 * i) labels) (drop (256 * i) children) (drop i (bits dp n))) ≡ all_from (dense_exact f dl dc dp) i k
  unfolding exact_from dense_shapes all_from
  from_is f zero i h low = rw end
    where
      end : drop i (bits dp n) ≡ []
      end = let e : i ≡ length (bits dp n) = omega (arith, length_bits dp n c) in ap (λ (j : ℕ). drop j (bits dp n)) e ∙ drop-length (bits dp n)
  from_is f (suc k) i h low =
      let l : i < n = omega arith in
      let e : count ends_here (dense_entries 0 (take 256 (drop (256 * i) labels)) (take 256 (drop (256 * i) children))) + ones (take 256 (drop (256 * i) children)) ≡ ones (take 256 (drop (256 * i) labels)) = row_leaves i l in
      let x = row_ones dl i l in
      let y = row_ones dc i l in
      let g : i + 1 ≡ suc i = omega arith in
      let w = bit_set dp i in
      let u : rank dp (suc i) ≡ rank dp i + bit_at dp i = sym (ap (rank dp) g) ∙ rank_next dp i in
      let v : dense_slot dl dc dp i + leaves_at (shape (is_set dp i) (dense_entries 0 (take 256 (drop (256 * i) labels)) (take 256 (drop (256 * i) children)))) ≡ dense_slot dl dc dp (suc i) = omega arith in
      rw (bits_from dp n i c l, next_node i labels, next_node i children, v)
      (ap (λ (t : Bool). dense_exact f dl dc dp i && t) (from_is f k (suc i) (omega arith) (omega arith)))

  -- the exact leaves among all dense nodes
  pub dense_exacts : (f : ℕ → Bool) → exact_from f 0 (dense_shapes labels children (bits dp n)) ≡ all_from (dense_exact f dl dc dp) 0 n
  dense_exacts f =
      let e : dense_slot dl dc dp 0 ≡ 0 = omega (arith, rank_zero dl, rank_zero dp) in
      ap (λ (v : ℕ). exact_from f v (dense_shapes labels children (bits dp n))) (sym e) ∙ from_is f n 0 (omega arith) (omega (arith, rank_zero dc))

  -- as many labels before a node as continue, or more
  pub labels_more : (i : ℕ) → i ≤ n → rank dc (256 * i) ≤ rank dl (256 * i)
  labels_more zero h = omega (arith, rank_zero dc)
  labels_more (suc i) h = omega (arith, labels_more i (omega arith), row_leaves i h, row_ones dl i h, row_ones dc i h)

  -- the leaves before a node are among those of all dense nodes
  pub dense_slot_le : (k i : ℕ) → i + k ≡ n → dense_slot dl dc dp i ≤ dense_slot dl dc dp n
  dense_slot_le zero i h = let e : i ≡ n = omega arith in rw e (omega arith)
  dense_slot_le (suc k) i h =
      let l : i < n = omega arith in
      let g : i + 1 ≡ suc i = omega arith in
      let u : rank dp (suc i) ≡ rank dp i + bit_at dp i = sym (ap (rank dp) g) ∙ rank_next dp i in
      omega (arith, dense_slot_le k (suc i) (omega arith), labels_more i (omega arith), row_leaves i l, row_ones dl i l, row_ones dc i l)
