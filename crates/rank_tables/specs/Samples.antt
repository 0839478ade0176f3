-- Samples: document 01's samples of the first bits of a body, by select over its bytes, and the tests of one sample inside a word. Used by the check of the samples and by their writer.
use Rattle.std.specs.Prelude.{ℕ, zero, suc, ◌+◌, ◌*◌, ◌%◌, ◌≤◌, ◌<◌, ◌≡◌, refl, Bool, true, false, ◌&&◌, [], ◌∷◌, length, get_or, take, leb, ltb, eqb}
use Rattle.std.proofs.Common.{sym, ap, ◌∙◌, true≢false, arith, mod-eq_of_lt, add-one, leb-false, ltb-true, ltb-false, eqb-true, take_all}
use Rattle.std.proofs.lemmas.Bool.{eqb-false}
use Rattle.spec.specs.Bytes.{Bytes, Bits, blocks, equal, ones, unpack}
use Rattle.spec.specs.Image.{positions, samples}
use Rattle.theory.proofs.Bits.{length_positions}
use Rattle.bits.specs.Bits.{bit_at, rank, select}
use Rattle.bits.proofs.ValueLaws.{Small}
use Rattle.bits.proofs.RankLaws.{rank_next, rank_up, rank_slow}
use Rattle.bits_select.specs.SelectLaws.{select_is, select_here}
use Rattle.rank_tables.specs.TableEntries.{table_of, table_same, table_entry, table_valid, table_sized, table_wrong, all_below, all_pass, all_fail}
use Rattle.rank_tables.specs.Ranks.{length_first, rank_first}

-- ---- positions of ones

-- the one at j is the one behind those before it
position_at : (i : ℕ) (bs : Bits) (j : ℕ) → ones (take (suc j) bs) ≡ suc (ones (take j bs)) → get_or (positions i bs) (ones (take j bs)) 0 ≡ i + j
unfolding positions ones
position_at i [] zero e = absurd (omega arith)
position_at i [] (suc j) e = absurd (omega arith)
position_at i (true ∷ bs) zero e = omega arith
position_at i (false ∷ bs) zero e = absurd (omega arith)
position_at i (true ∷ bs) (suc j) e =
    let w : 1 + ones (take j bs) ≡ suc (ones (take j bs)) = omega arith in
    ap (λ (k : ℕ). get_or (i ∷ positions (suc i) bs) k 0) w ∙ position_at (suc i) bs j (omega arith) ∙ omega arith
position_at i (false ∷ bs) (suc j) e =
    let w : 0 + ones (take j bs) ≡ ones (take j bs) = omega arith in
    ap (λ (k : ℕ). get_or (positions (suc i) bs) k 0) w ∙ position_at (suc i) bs j (omega arith) ∙ omega arith

-- ---- the m-th one, counted from 0, among the first n bits of a body that has more than m ones there

-- where it stands: below n, with m ones before it, and set
pub record OneAt (s : Bytes) (n m p : ℕ) : Type 0 where
  pub below : p < n
  pub before : rank s p ≡ m
  pub set : bit_at s p ≡ 1

module _ (s : Bytes) (n m : ℕ) where
  -- select finds it
  pub select_one : m < rank s n → OneAt s n m (select s n m)
  select_one h = go (ltb (select s n m) n) refl
    where
      go : (b : Bool) → ltb (select s n m) n ≡ b → OneAt s n m (select s n m)
      go true e =
          let p : ℕ = select s n m in
          let l : p < n = ltb-true (select s n m) n e in
          let f = select_is s n m in
          let g = f.2 l in
          let d = rank_slow s p (p + 1) (omega arith) in
          let x = rank_next s p in
          record { below = l; before = omega (arith, f.1, g, d.1); set = omega (arith, f.1, g, d.1, x) }
      go false e =
          let f = select_is s n m in
          let z : select s n m ≡ n = omega (arith, ltb-false (select s n m) n e, f.0) in
          absurd (omega (arith, f.1, ap (rank s) z))

  -- and it stands nowhere else
  pub one_select : (p : ℕ) → OneAt s n m p → select s n m ≡ p
  one_select p h = select_here s n m p (omega arith) (omega arith) (omega (arith, rank_next s p))

  -- it stands inside the positions from a to below e, with at most m ones before a and more than m before e
  pub select_within : (a e : ℕ) → a ≤ e → e ≤ n → rank s a ≤ m → m < rank s e → (a ≤ select s n m) × (select s n m < e)
  select_within a e h l u v =
      let o = select_one (omega (arith, rank_up s e n l)) in
      (low o (ltb (select s n m) a) refl, high o (ltb (select s n m) e) refl)
    where
      low : OneAt s n m (select s n m) → (b : Bool) → ltb (select s n m) a ≡ b → a ≤ select s n m
      low o false q = ltb-false (select s n m) a q
      low o true q =
          let k : select s n m < a = ltb-true (select s n m) a q in
          absurd (omega (arith, rank_up s (select s n m + 1) a (omega arith), rank_next s (select s n m), o.before, o.set))

      high : OneAt s n m (select s n m) → (b : Bool) → ltb (select s n m) e ≡ b → select s n m < e
      high o true q = ltb-true (select s n m) e q
      high o false q =
          let k = ltb-false (select s n m) e q in
          absurd (omega (arith, rank_up s e (select s n m) (omega arith), o.before))

-- ---- samples

-- The samples of the first n bits of a body: entry t is the position of the set bit number 64 t, counted from 0.
pub samples_are : (n : ℕ) (s : Bytes) → n ≤ 8 * length s → samples (take n (unpack s)) ≡ table_of (λ t. select s n (64 * t)) (blocks 64 (rank s n))
unfolding samples table_of
samples_are n s h =
    ap (λ (k : ℕ). table_of (λ t. get_or (positions 0 (take n (unpack s))) (64 * t) 0) (blocks 64 k)) (length_positions 0 (take n (unpack s)) ∙ all)
    ∙ table_same (λ t. get_or (positions 0 (take n (unpack s))) (64 * t) 0) (λ t. select s n (64 * t)) (blocks 64 (rank s n)) (λ t l. each t (omega arith))
  where
    all : ones (take n (unpack s)) ≡ rank s n
    all = ap ones (sym (take_all n (take n (unpack s)) (omega (arith, length_first n s h)))) ∙ rank_first n n s (omega arith)

    each : (t : ℕ) → 64 * t < rank s n → get_or (positions 0 (take n (unpack s))) (64 * t) 0 ≡ select s n (64 * t)
    each t l =
        let p : ℕ = select s n (64 * t) in
        let o = select_one s n (64 * t) l in
        let f : ones (take p (take n (unpack s))) ≡ 64 * t = rank_first n p s (omega (arith, o.below)) ∙ o.before in
        let g : ones (take (suc p) (take n (unpack s))) ≡ suc (64 * t) = rank_first n (suc p) s (omega (arith, o.below)) ∙ ap (rank s) (sym (add-one p)) ∙ omega (arith, rank_next s p, o.before, o.set) in
        ap (λ (k : ℕ). get_or (positions 0 (take n (unpack s))) k 0) (sym f) ∙ position_at 0 (take n (unpack s)) p (g ∙ ap suc (sym f)) ∙ omega arith

-- ---- a table of samples, entry by entry

-- entry t is there and is the position of the set bit number 64 t, counted from 0, among the first n bits
abbrev pub sampled : Bytes → ℕ → Bytes → ℕ → Bool
sampled s n table t = leb (4 * t + 4) (length table) && eqb (table_entry table t) (select s n (64 * t))

module _ (s : Bytes) (n : ℕ) (table : Bytes) (small : Small table) (short : n < 4294967296) where
  -- 32 bits hold every position
  fits : (t : ℕ) → select s n (64 * t) % 4294967296 ≡ select s n (64 * t)
  fits t = mod-eq_of_lt (omega (arith, (select_is s n (64 * t)).0))

  -- the samples are not those of the table, where one of them is not
  samples_wrong : (t : ℕ) → 64 * t < rank s n → sampled s n table t ≡ false → equal table (table_of (λ t. select s n (64 * t)) (blocks 64 (rank s n))) ≡ false
  samples_wrong t h e = go (leb (4 * t + 4) (length table)) refl (eqb (table_entry table t) (select s n (64 * t))) refl e
    where
      go : (a : Bool) → leb (4 * t + 4) (length table) ≡ a → (b : Bool) → eqb (table_entry table t) (select s n (64 * t)) ≡ b → a && b ≡ false
          → equal table (table_of (λ t. select s n (64 * t)) (blocks 64 (rank s n))) ≡ false
      go false p b q e = table_sized (λ t. select s n (64 * t)) (blocks 64 (rank s n)) table (λ z. absurd (omega (arith, leb-false (4 * t + 4) (length table) p)))
      go true p false q e =
          table_wrong (λ t. select s n (64 * t)) (blocks 64 (rank s n)) table small t (omega arith) (λ z. eqb-false (table_entry table t) (select s n (64 * t)) q (z ∙ fits t))
      go true p true q e = absurd (true≢false e)

  -- the samples are those of the table, where each of them is and there are no others
  samples_valid : (k : ℕ) → k ≡ blocks 64 (rank s n) → ((t : ℕ) → t < k → sampled s n table t ≡ true)
      → eqb (4 * k) (length table) ≡ equal table (table_of (λ t. select s n (64 * t)) (blocks 64 (rank s n)))
  samples_valid k e h = go (eqb (4 * k) (length table)) refl
    where
      each : (a b : Bool) → a && b ≡ true → b ≡ true
      each true b q = q
      each false b q = absurd (true≢false (sym q))

      go : (a : Bool) → eqb (4 * k) (length table) ≡ a → a ≡ equal table (table_of (λ t. select s n (64 * t)) (blocks 64 (rank s n)))
      go true q =
          let l = eqb-true (4 * k) (length table) q in
          sym (table_valid (λ t. select s n (64 * t)) (blocks 64 (rank s n)) table small (omega arith)
          (λ t m. eqb-true (table_entry table t) (select s n (64 * t)) (each (leb (4 * t + 4) (length table)) (eqb (table_entry table t) (select s n (64 * t))) (h t (omega arith))) ∙ sym (fits t)))
      go false q =
          let l = eqb-false (4 * k) (length table) q in
          sym (table_sized (λ t. select s n (64 * t)) (blocks 64 (rank s n)) table (λ z. l (omega arith)))

  -- the samples are those of the table exactly if each of them is and there are no others
  pub samples_agree : (k : ℕ) → k ≡ blocks 64 (rank s n) → all_below (sampled s n table) k && eqb (4 * k) (length table) ≡ equal table (table_of (λ t. select s n (64 * t)) (blocks 64 (rank s n)))
  samples_agree k e = go (all_below (sampled s n table) k) refl
    where
      go : (b : Bool) → all_below (sampled s n table) k ≡ b → b && eqb (4 * k) (length table) ≡ equal table (table_of (λ t. select s n (64 * t)) (blocks 64 (rank s n)))
      go true q = samples_valid k e (all_pass (sampled s n table) k q)
      go false q = let r = all_fail (sampled s n table) k q in sym (samples_wrong r.0 (omega (arith, r.1)) r.2)
