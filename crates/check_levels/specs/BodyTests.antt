-- Number 14 by the bodies of an image: what its tests come to in ranks and single bits.
use Prim.Native.Nat.{ℕ, zero, suc, ◌+◌, ◌*◌, ◌≤◌, ◌<◌}
use Rattle.std.specs.Prelude.{◌≡◌, Bool, ◌&&◌, ◌||◌, ◌∷◌, length, drop}
use Rattle.std.proofs.Math.Path.{refl, sym, ap}
use Rattle.std.proofs.Common.{ap₂, ◌∙◌, eq-eqb, ne_eqb, eqb-true}
use Rattle.std.proofs.Math.Bool.{true, false, and_assoc}
use native.Mathlib.Omega.{arith}
use Rattle.std.proofs.Math.Dec.{ltb, eqb}
use Rattle.spec.specs.Bytes.{Bytes, Bits}
use Rattle.spec.specs.Frame.{Parts}
use Rattle.spec.specs.Nodes.{zip_entries}
use Rattle.spec.specs.Trie.{first_set, covered, builders_trie}
use Rattle.bits.specs.Bits.{rank}
use Rattle.bits.proofs.RankLaws.{rank_le}
use Rattle.bits.proofs.PartLaws.{bits_room}
use Rattle.image.specs.FrameOf.{FrameOf, frame_parts}
use Rattle.image.specs.declared.Frame.{Frame}
use Rattle.check_levels.specs.DenseNodes.{dense_nodes_valid}
use Rattle.check_levels.specs.BitTests.{sparse_valid, branches_to, counts_valid, bits_valid, builders_trie_is}
use Rattle.check_levels.specs.LevelTests.{ends_valid}
use Rattle.check_levels.specs.NodeBranches.{ends_bytes}
use Rattle.check_levels.specs.Positions.{bits, is_set, bits_from, ones_all}
use Rattle.check_levels.specs.Bodies.{dl_body, dc_body, dp_body, sl_body, sc_body, sb_body, bodies_sized, parts_sized, dense_children, dense_entries}
use Rattle.check_levels.specs.Levels.{node_count, levels_valid, LoudsValid}
use Rattle.theory.proofs.Lists.{and_both}

first_is : (bs : Bits) (b : Bool) (cs : Bits) → bs ≡ b ∷ cs → first_set bs ≡ b
unfolding first_set
first_is bs b cs e = rw e

first_none : (sb : Bytes) → first_set (bits sb 0) ≡ true
unfolding first_set
first_none sb = refl

-- the first S-LOUDS bit
pub first_bit : (sb : Bytes) (entries : ℕ) → entries ≤ 8 * length sb → first_set (bits sb entries) ≡ (eqb entries 0 || is_set sb 0)
first_bit sb zero h = first_none sb
first_bit sb (suc n) h =
    first_is (bits sb (suc n)) (is_set sb 0) (drop 1 (bits sb (suc n))) (bits_from sb (suc n) 0 h (omega arith))
    ∙ ap (λ (t : Bool). t || is_set sb 0) (sym (ne_eqb (suc n) 0 (λ q. omega arith)))

-- S-LOUDS has a one at the first entry and as many ones as there are sparse nodes
abbrev pub louds_test : Bytes → Frame → Bool
louds_test s f = first_set (bits (sb_body s f) f.sparse.entries) && eqb (rank (sb_body s f) f.sparse.entries) f.sparse.nodes

-- a dense node's continuing branches are among its labels, and each dense node is valid
abbrev pub dense_test : Bytes → Frame → Bool
dense_test s f =
    covered (bits (dc_body s f) (256 * f.dense.nodes)) (bits (dl_body s f) (256 * f.dense.nodes))
    && dense_nodes_valid true (bits (dl_body s f) (256 * f.dense.nodes)) (bits (dc_body s f) (256 * f.dense.nodes)) (bits (dp_body s f) f.dense.nodes)

-- each sparse entry is valid; the first one is in the root where there is no dense node
abbrev pub sparse_test : Bytes → Frame → Bool
sparse_test s f = sparse_valid (eqb f.dense.nodes 0) (zip_entries (sl_body s f) (bits (sc_body s f) f.sparse.entries)) (bits (sb_body s f) f.sparse.entries)

-- with so many continuing branches: entries are leaves and continuing branches, there is a leaf, and nodes are the root and one for each continuing branch
abbrev pub sums_test : Frame → ℕ → Bool
sums_test f children = eqb (f.totals.entries + f.sparse.entries) (f.leaves + children) && ltb 0 f.leaves && eqb (node_count f) (children + 1)

-- all continuing branches
abbrev pub child_count : Bytes → Frame → ℕ
child_count s f = f.totals.children + rank (sc_body s f) f.sparse.entries

-- the counts are small enough for their sums
pub record CountsFew (f : Frame) (branches : ℕ) : Type 0 where
  pub leaves : f.leaves < 4294967296
  pub dense_nodes : f.dense.nodes < 4294967296
  pub sparse_nodes : f.sparse.nodes < 4294967296
  pub sparse_entries : f.sparse.entries < 4294967296
  -- at most 257 of each dense node
  pub dense_entries : f.totals.entries < 1103806595072
  -- at most 256 of each dense node, and the sparse entries
  pub children : branches < 1103806595072

-- what the first test says where it passes
pub louds_valid : (s : Bytes) (f : Frame) → FrameOf s f → louds_test s f ≡ true → LoudsValid s f
louds_valid s f o h =
    let b = and_both (first_set (bits (sb_body s f) f.sparse.entries)) (eqb (rank (sb_body s f) f.sparse.entries) f.sparse.nodes) h in
    record { frame = o; first = b.0; count = eqb-true (rank (sb_body s f) f.sparse.entries) f.sparse.nodes b.1 }

module _ (s : Bytes) (f : Frame) (o : FrameOf s f) where
  abbrev p : Parts
  p = frame_parts s f

  -- number 14 in the order in which it is judged
  pub in_order : builders_trie p ≡ louds_test s f && (dense_test s f && sparse_test s f && counts_valid p)
  unfolding bits_valid
  in_order =
      builders_trie_is p (parts_sized s f o)
      ∙ ap (λ (n : ℕ). first_set p.sb && eqb n f.sparse.nodes && covered p.dc p.dl && (sparse_test s f && dense_nodes_valid true p.dl p.dc p.dp && counts_valid p)) (ones_all (sb_body s f) f.sparse.entries)
      ∙ shuffle (louds_test s f) (covered p.dc p.dl) (sparse_test s f) (dense_nodes_valid true p.dl p.dc p.dp) (counts_valid p)
    where
      shuffle : (a b c d e : Bool) → a && b && (c && d && e) ≡ a && (b && d && c && e)
      shuffle true true true d e = ap (λ (t : Bool). t && e) (swap d)
        where
          swap : (d : Bool) → d ≡ d && true
          swap true = refl
          swap false = refl
      shuffle true true false d e = ap (λ (t : Bool). t && e) (swap d)
        where
          swap : (d : Bool) → false ≡ d && false
          swap true = refl
          swap false = refl
      shuffle true false c d e = refl
      shuffle false b c d e = refl

  -- the counts of an image are so small
  pub counts_few : CountsFew f (child_count s f)
  counts_few = few o.dense o.entries (dense_entries s f o) (rank_le (dl_body s f) (256 * f.dense.nodes)) (rank_le (dp_body s f) f.dense.nodes) (dense_children s f o) (rank_le (dc_body s f) (256 * f.dense.nodes)) (rank_le (sc_body s f) f.sparse.entries)
    where
      few : {a b c d : ℕ} → f.dense.nodes < 4294967296 → f.sparse.entries < 4294967296 → f.totals.entries ≡ a + b → a ≤ 256 * f.dense.nodes → b ≤ f.dense.nodes
          → f.totals.children ≡ c → c ≤ 256 * f.dense.nodes → d ≤ f.sparse.entries → CountsFew f (f.totals.children + d)
      few h l p q r e g k = record { leaves = omega (arith, o.leaves); dense_nodes = h; sparse_nodes = o.sparse; sparse_entries = l; dense_entries = omega arith; children = omega arith }

  -- S-LOUDS fails
  pub louds_fails : louds_test s f ≡ false → builders_trie p ≡ false
  louds_fails h = in_order ∙ ap (λ (t : Bool). t && (dense_test s f && sparse_test s f && counts_valid p)) h

  -- it passes, and the other tests decide
  pub louds_passes : louds_test s f ≡ true → builders_trie p ≡ dense_test s f && sparse_test s f && counts_valid p
  louds_passes h = in_order ∙ ap (λ (t : Bool). t && (dense_test s f && sparse_test s f && counts_valid p)) h

  -- no node
  pub counts_none : node_count f ≡ 0 → counts_valid p ≡ eqb f.leaves 0
  unfolding counts_valid
  counts_none e = rw (eq-eqb (node_count f) 0 e)

  -- the counts by the totals of the frame
  pub by_sums : 0 < node_count f → counts_valid p ≡ sums_test f (child_count s f) && levels_valid s f
  unfolding counts_valid
  by_sums h =
      rw (ne_eqb (node_count f) 0 (λ e. omega arith))
      (same f.leaves f.sparse.entries (node_count f) _ _ _ _ _ _ (ends_valid (branches_to f.dense.nodes p.dc p.sc p.sb) (node_count f) f.dense.levels f.dense.nodes) (levels_valid s f)
      (dense_entries s f o ∙ sym (ap₂ ◌+◌ (ones_all (dl_body s f) (256 * f.dense.nodes)) (ones_all (dp_body s f) f.dense.nodes)))
      (dense_children s f o ∙ sym (ones_all (dc_body s f) (256 * f.dense.nodes)))
      (sym (ones_all (sc_body s f) f.sparse.entries))
      (ends_bytes f.dense.nodes f.sparse.entries (dc_body s f) (sc_body s f) (sb_body s f) (bits_room f.sparse.entries (sb_body s f) (bodies_sized s f o).sb) (node_count f) f.dense.levels f.dense.nodes h))
    where
      same : (l m n x x' c c' r r' : ℕ) (t t' : Bool) → x ≡ x' → c ≡ c' → r ≡ r' → t ≡ t'
          → eqb (x' + m) (l + c' + r') && ltb 0 l && (eqb n (c' + r' + 1) && t) ≡ eqb (x + m) (l + (c + r)) && ltb 0 l && eqb n (c + r + 1) && t'
      same l m n x x' c c' r r' t t' a b d e =
          let g : l + c' + r' ≡ l + (c' + r') = omega arith in
          rw (a, b, d, e, g) (sym (and_assoc (eqb (x' + m) (l + (c' + r')) && ltb 0 l) (eqb n (c' + r' + 1)) t'))

  -- the sums are wrong
  pub sums_fail : 0 < node_count f → sums_test f (child_count s f) ≡ false → counts_valid p ≡ false
  sums_fail h e = by_sums h ∙ ap (λ (t : Bool). t && levels_valid s f) e

  -- the sums are correct, and the levels decide
  pub sums_pass : 0 < node_count f → sums_test f (child_count s f) ≡ true → counts_valid p ≡ levels_valid s f
  sums_pass h e = by_sums h ∙ ap (λ (t : Bool). t && levels_valid s f) e

-- not none is some
pub some_nodes : (n : ℕ) → (n ≡ 0 → ⊥) → 0 < n
some_nodes n h = omega arith
