-- The dense nodes by their rows, as the check goes over them.
use Prim.Native.Nat.{ℕ, zero, suc, ◌+◌, ◌-◌, ◌*◌, ◌/◌, ◌<◌, ◌≤◌}
use Rattle.std.specs.Prelude.{◌≡◌, refl, Bool, true, false, not, ◌&&◌, ◌||◌, take, eqb, ltb}
use Rattle.std.proofs.Common.{sym, ◌∙◌, true≢false, arith, length-drop, take_all, take-take, lt-ltb, le-ltb, ltb-true, ltb-false, eqb-true, eq-eqb, ne_eqb}
use Rattle.std.proofs.Math.Path.{ap}
use Rattle.std.proofs.Math.Bool.{and-false, and_assoc}
use mathlib.Core.List.{[], ◌∷◌, ◌++◌}
use Rattle.std.proofs.Math.Arith.{bin_ind}
use Rattle.std.specs.Int.Bits.{bit_or, or_add_and}
use Rattle.std.proofs.lemmas.Nat.{and_le_l, and_le_r}
use Rattle.std.specs.Int.Count as count
use Rattle.std.proofs.Math.ListN.{length, drop}
use Rattle.std.proofs.Math.Seq.{take-nil, take-append-add, drop-length, drop-nil, drop-append-add}
use Rattle.spec.specs.Bytes.{Bytes, Bits, ones, low_bits, unpack}
use Rattle.spec.specs.Trie.{covered}
use Rattle.bits.specs.Bits.{bit_at, rank, word, part}
use Rattle.bits.proofs.RankLaws.{rank_zero, rank_whole_word}
use Rattle.bits.proofs.UnpackLaws.{length_unpack, rank_unpack}
use Rattle.bits.proofs.ValueLaws.{Small, word_lt}
use Rattle.check_levels.specs.DenseNodes.{dense_valid, dense_nodes_valid, next_node}
use Rattle.check_levels.specs.Ranges.{all_from}
use Rattle.check_levels.specs.Positions.{bits, is_set, length_bits, bits_all, bits_from}

-- the row of dense node i: its 256 bits
abbrev pub row : Bytes → ℕ → Bytes
row s i = part s (32 * i) 32

-- what is asked of a node by its rows: what continues is a label, and the node has the labels that it needs
abbrev pub row_valid : Bool → Bool → Bytes → Bytes → Bool
row_valid root exact labels children = covered (unpack children) (unpack labels) && dense_valid root exact (rank labels 256) (rank children 256)

-- what is asked of dense node i, the first of which is the root
abbrev pub dense_node_valid : Bytes → Bytes → Bytes → ℕ → Bool
dense_node_valid dl dc dp i = row_valid (eqb i 0) (is_set dp i) (row dl i) (row dc i)

-- the bodies of n dense nodes
pub record DenseSized (dl dc dp : Bytes) (n : ℕ) : Type 0 where
  -- 256 bits of labels, and of continuing branches, a node
  pub labels : length dl ≡ 32 * n
  pub children : length dc ≡ 32 * n
  -- one bit a node that tells an exact leaf
  pub exacts : n ≤ 8 * length dp

-- ---- the bits of a row

unpack_drop : (a : ℕ) (s : Bytes) → unpack (drop a s) ≡ drop (8 * a) (unpack s)
unfolding unpack low_bits
unpack_drop zero s = refl
unpack_drop (suc a) [] = sym (drop-nil (8 * suc a))
unpack_drop (suc a) (x ∷ s) =
    let w : 8 * suc a ≡ 8 + 8 * a = omega arith in
    unpack_drop a s ∙ sym (ap (λ (n : ℕ). drop n (low_bits 8 x ++ unpack s)) w ∙ drop-append-add (low_bits 8 x) (unpack s) (8 * a))

unpack_take : (a : ℕ) (s : Bytes) → unpack (take a s) ≡ take (8 * a) (unpack s)
unfolding unpack low_bits
unpack_take zero s = refl
unpack_take (suc a) [] = sym (take-nil (8 * suc a))
unpack_take (suc a) (x ∷ s) =
    let w : 8 * suc a ≡ 8 + 8 * a = omega arith in
    ap (λ (bs : Bits). low_bits 8 x ++ bs) (unpack_take a s) ∙ sym (ap (λ (n : ℕ). take n (low_bits 8 x ++ unpack s)) w ∙ take-append-add (low_bits 8 x) (unpack s) (8 * a))

row_bits : (s : Bytes) (i : ℕ) → take 256 (drop (256 * i) (unpack s)) ≡ unpack (row s i)
row_bits s i =
    let w : 8 * (32 * i) ≡ 256 * i = omega arith in
    sym (unpack_take 32 (drop (32 * i) s) ∙ ap (take 256) (unpack_drop (32 * i) s ∙ ap (λ (n : ℕ). drop n (unpack s)) w))

row_ones : (s : Bytes) (i : ℕ) → ones (take 256 (drop (256 * i) (unpack s))) ≡ rank (row s i) 256
row_ones s i =
    sym (rank_unpack (row s i) 256 ∙ ap (λ (bs : Bits). ones (take 256 bs)) (sym (row_bits s i)) ∙ ap ones (take-take 256 256 (drop (256 * i) (unpack s)) (omega arith)))

-- a bitmap within another, in two parts
covered_parts : (k : ℕ) (xs ys : Bits) → length xs ≡ length ys → covered xs ys ≡ covered (take k xs) (take k ys) && covered (drop k xs) (drop k ys)
unfolding covered
covered_parts zero xs ys h = refl
covered_parts (suc k) [] ys h = refl
covered_parts (suc k) (x ∷ xs) [] h = absurd (omega arith)
covered_parts (suc k) (x ∷ xs) (y ∷ ys) h =
    ap (λ (t : Bool). (not x || y) && t) (covered_parts k xs ys (omega arith)) ∙ sym (and_assoc (not x || y) (covered (take k xs) (take k ys)) (covered (drop k xs) (drop k ys)))

covered_none : (xs : Bits) → covered [] xs ≡ true
unfolding covered
covered_none xs = refl

-- ---- all nodes

module _ (dl dc dp : Bytes) (n : ℕ) (z : DenseSized dl dc dp n) where
  same_length : (i : ℕ) → length (drop (256 * i) (unpack dc)) ≡ length (drop (256 * i) (unpack dl))
  same_length i =
      omega (arith, z.labels, z.children, length_unpack dl, length_unpack dc, length-drop (256 * i) (unpack dl), length-drop (256 * i) (unpack dc))

  from_is : (k i : ℕ) → i + k ≡ n
      → covered (drop (256 * i) (unpack dc)) (drop (256 * i) (unpack dl)) && dense_nodes_valid (eqb i 0) (drop (256 * i) (unpack dl)) (drop (256 * i) (unpack dc)) (drop i (bits dp n))
      ≡ all_from (dense_node_valid dl dc dp) i k
  unfolding dense_nodes_valid all_from
  from_is zero i h = rw (end, no_child, covered_none (drop (256 * i) (unpack dl)))
    where
      end : drop i (bits dp n) ≡ []
      end = let e : i ≡ length (bits dp n) = omega (arith, length_bits dp n z.exacts) in ap (λ (j : ℕ). drop j (bits dp n)) e ∙ drop-length (bits dp n)

      no_child : drop (256 * i) (unpack dc) ≡ []
      no_child = let e : 256 * i ≡ length (unpack dc) = omega (arith, z.children, length_unpack dc) in ap (λ (j : ℕ). drop j (unpack dc)) e ∙ drop-length (unpack dc)
  from_is (suc k) i h =
      rw (bits_from dp n i z.exacts (omega arith), covered_parts 256 (drop (256 * i) (unpack dc)) (drop (256 * i) (unpack dl)) (same_length i), next_node i (unpack dl), next_node i (unpack dc), row_ones dl i, row_ones dc i, row_bits dl i, row_bits dc i)
      (swap (covered (unpack (row dc i)) (unpack (row dl i))) (covered (drop (256 * suc i) (unpack dc)) (drop (256 * suc i) (unpack dl))) (dense_valid (eqb i 0) (is_set dp i) (rank (row dl i) 256) (rank (row dc i) 256)) (rest false)
      ∙ ap (λ (t : Bool). dense_node_valid dl dc dp i && t)
      (ap (λ (t : Bool). covered (drop (256 * suc i) (unpack dc)) (drop (256 * suc i) (unpack dl)) && rest t) (sym (ne_eqb (suc i) 0 (λ e. omega arith))) ∙ from_is k (suc i) (omega arith)))
    where
      rest : Bool → Bool
      rest t = dense_nodes_valid t (drop (256 * suc i) (unpack dl)) (drop (256 * suc i) (unpack dc)) (drop (suc i) (bits dp n))

      swap : (a b c d : Bool) → (a && b) && (c && d) ≡ (a && c) && (b && d)
      swap true true c d = refl
      swap true false c d = sym (and-false c)
      swap false b c d = refl

  -- all dense nodes
  pub dense_all : covered (bits dc (256 * n)) (bits dl (256 * n)) && dense_nodes_valid true (bits dl (256 * n)) (bits dc (256 * n)) (bits dp n) ≡ all_from (dense_node_valid dl dc dp) 0 (n - 0)
  dense_all = rw (bits_all dl (256 * n) (omega (arith, z.labels)), bits_all dc (256 * n) (omega (arith, z.children))) (from_is (n - 0) 0 (omega arith))

-- ---- one node

-- a number has no more ones than it counts, and none only where it is 0
ones_few : (x : ℕ) → count.ones x ≤ x
unfolding count.ones
ones_few = bin_ind (λ (x : ℕ). count.ones x ≤ x) (omega arith) (λ x ih. omega (arith, count.ones_step x))

some_one : (x : ℕ) → 0 < x → 0 < count.ones x
some_one = bin_ind (λ (x : ℕ). 0 < x → 0 < count.ones x) (λ h. absurd (omega arith)) (λ x ih h. half x ih h (ltb 0 (x / 2)) refl)
  where
    half : (x : ℕ) → (0 < x / 2 → 0 < count.ones (x / 2)) → 0 < x → (b : Bool) → ltb 0 (x / 2) ≡ b → 0 < count.ones x
    half x ih h true e = omega (arith, count.ones_step x, ih (ltb-true 0 (x / 2) e))
    half x ih h false e = omega (arith, count.ones_step x, ltb-false 0 (x / 2) e)

ones_many : (x : ℕ) → x < 18446744073709551616 → x ≤ 18446744073709551616 * count.ones x
ones_many x h = go (ltb 0 x) refl
  where
    go : (b : Bool) → ltb 0 x ≡ b → x ≤ 18446744073709551616 * count.ones x
    go true e = omega (arith, some_one x (ltb-true 0 x e))
    go false e = omega (arith, ltb-false 0 x e)

-- a disjunction is not below its numbers, nor above their sum
or_bounds : (a b : ℕ) → (a ≤ bit_or a b) × (b ≤ bit_or a b) × (bit_or a b ≤ a + b)
or_bounds a b =
    let e = or_add_and a b in
    let l = and_le_l a b in
    let r = and_le_r a b in
    (omega arith, omega arith, omega arith)

-- a bit of a row is set exactly if the disjunction of its four words is not 0
pub some_set : (s : Bytes) → Small s → ltb 0 (bit_or (bit_or (bit_or (word s 0) (word s 8)) (word s 16)) (word s 24)) ≡ ltb 0 (rank s 256)
some_set s h = go (ltb 0 all) refl
  where
    all : ℕ
    all = bit_or (bit_or (bit_or (word s 0) (word s 8)) (word s 16)) (word s 24)

    low : ℕ
    low = bit_or (word s 0) (word s 8)

    four : rank s 256 ≡ count.ones (word s 0) + count.ones (word s 8) + count.ones (word s 16) + count.ones (word s 24)
    four =
        let a : rank s 64 ≡ rank s 0 + count.ones (word s 0) = (rank_whole_word s h 0).0 in
        let b : rank s 128 ≡ rank s 64 + count.ones (word s 8) = (rank_whole_word s h 1).0 in
        let c : rank s 192 ≡ rank s 128 + count.ones (word s 16) = (rank_whole_word s h 2).0 in
        let d : rank s 256 ≡ rank s 192 + count.ones (word s 24) = (rank_whole_word s h 3).0 in
        omega (arith, rank_zero s)

    go : (b : Bool) → ltb 0 all ≡ b → b ≡ ltb 0 (rank s 256)
    go true e =
        let x = (or_bounds (word s 0) (word s 8)).2 in
        let y = (or_bounds low (word s 16)).2 in
        let z = (or_bounds (bit_or low (word s 16)) (word s 24)).2 in
        sym (lt-ltb 0 (rank s 256) (omega (arith, four, ltb-true 0 all e, ones_many (word s 0) (word_lt s 0), ones_many (word s 8) (word_lt s 8), ones_many (word s 16) (word_lt s 16), ones_many (word s 24) (word_lt s 24))))
    go false e =
        let x = or_bounds (word s 0) (word s 8) in
        let y = or_bounds low (word s 16) in
        let z = or_bounds (bit_or low (word s 16)) (word s 24) in
        sym (le-ltb 0 (rank s 256) (omega (arith, four, ltb-false 0 all e, x.0, x.1, y.0, y.1, z.0, z.1, ones_few (word s 0), ones_few (word s 8), ones_few (word s 16), ones_few (word s 24))))

-- no bitmap within another has more ones
covered_ones : (xs ys : Bits) → covered xs ys ≡ true → ones xs ≤ ones ys
unfolding covered ones
covered_ones [] ys w = omega arith
covered_ones (true ∷ xs) [] w = absurd (true≢false (sym w))
covered_ones (false ∷ xs) [] w = omega (arith, covered_ones xs [] w)
covered_ones (true ∷ xs) (true ∷ ys) w = omega (arith, covered_ones xs ys w)
covered_ones (true ∷ xs) (false ∷ ys) w = absurd (true≢false (sym w))
covered_ones (false ∷ xs) (true ∷ ys) w = omega (arith, covered_ones xs ys w)
covered_ones (false ∷ xs) (false ∷ ys) w = omega (arith, covered_ones xs ys w)

-- what continues is not among the labels
pub row_stray : (root exact : Bool) (labels children : Bytes) → covered (unpack children) (unpack labels) ≡ false → row_valid root exact labels children ≡ false
row_stray root exact labels children w = rw w

-- there is no label
pub row_none : (root exact : Bool) (labels children : Bytes) → ltb 0 (rank labels 256) ≡ false → row_valid root exact labels children ≡ false
row_none root exact labels children h = rw h (and-false (covered (unpack children) (unpack labels)))

-- what continues is among the labels, and there is one
module _ (labels children : Bytes) (w : covered (unpack children) (unpack labels) ≡ true) (some : ltb 0 (rank labels 256) ≡ true) where
  -- the root is no exact leaf
  pub row_root : (exact : Bool) → row_valid true exact labels children ≡ not exact
  row_root exact = rw (w, some)

  module _ (a : length labels ≡ 32) (b : length children ≡ 32) where
    fewer : rank children 256 ≤ rank labels 256
    fewer =
        omega (
          arith,
          covered_ones (unpack children) (unpack labels) w,
          rank_unpack labels 256,
          rank_unpack children 256,
          ap ones (take_all 256 (unpack labels) (omega (arith, length_unpack labels))),
          ap ones (take_all 256 (unpack children) (omega (arith, length_unpack children))),
        )

    -- an exact leaf, or a node with a branch that continues
    pub row_kept : (exact : Bool) → exact || ltb 0 (rank children 256) ≡ true → row_valid false exact labels children ≡ true
    row_kept true h = rw (w, some)
    row_kept false h = rw (w, some) (sole (eqb (rank labels 256) 1) refl)
      where
        sole : (t : Bool) → eqb (rank labels 256) 1 ≡ t → not t || eqb (rank children 256) 1 ≡ true
        sole true e = eq-eqb (rank children 256) 1 (omega (arith, fewer, eqb-true (rank labels 256) 1 e, ltb-true 0 (rank children 256) h))
        sole false e = refl

  -- another node has several labels
  pub row_leaves : (exact : Bool) → exact || ltb 0 (rank children 256) ≡ false → row_valid false exact labels children ≡ not (eqb (rank labels 256) 1)
  row_leaves true h = absurd (true≢false h)
  row_leaves false h = rw (w, some, ne_eqb (rank children 256) 1 (λ e. absurd (omega (arith, ltb-false 0 (rank children 256) h)))) (or_none (not (eqb (rank labels 256) 1)))
    where
      or_none : (t : Bool) → t || false ≡ t
      or_none true = refl
      or_none false = refl

-- what was judged of the rows of node i
pub row_judged : (dl dc dp : Bytes) (i : ℕ) {p : ℕ} {labels children : Bytes} {valid : Bool} → labels ≡ row dl i → children ≡ row dc i → p ≡ bit_at dp i
    → valid ≡ row_valid (eqb i 0) (eqb p 1) labels children → dense_node_valid dl dc dp i ≡ valid
row_judged dl dc dp i a b q r = sym (r ∙ rw (a, b, q))
