-- The exact leaves among the sparse nodes by words of S-LOUDS: the starts of nodes with several entries, lowest first.
use Rattle.std.specs.Prelude.{ℕ, suc, ◌+◌, ◌-◌, ◌*◌, ◌/◌, ◌%◌, ◌^◌, ◌<◌, ◌≤◌, ◌≡◌, refl, Bool, true, false, ◌&&◌, ◌||◌, not, get_or, eqb, ltb}
use Rattle.std.proofs.Common.{sym, ap, ◌∙◌, true≢false, arith, eqb-true, ltb-true, ltb-false, lt-ltb, le-ltb}
use Rattle.std.proofs.Math.Nat.{zero-div}
use Rattle.std.specs.Int.Bits.{bit_and}
use Rattle.std.proofs.lemmas.Nat.{xor_lt, and_le_l}
use Rattle.std.specs.Int.Count.{count_trailing_zeros}
use Rattle.spec.specs.Bytes.{Bytes, bit}
use Rattle.bits.specs.Bits.{bit_at, word}
use Rattle.bits.proofs.ValueLaws.{Small, word_lt}
use Rattle.check_levels.specs.Positions.{is_set}
use Rattle.check_levels.specs.Ranges.{all_from, from_skip, from_fail, from_step}
use Rattle.check_slots.specs.SparseExact.{sparse_slot, sparse_exact}
use Rattle.check_slots.specs.WordDigits.{digit, trailing_clear, kept_low, kept_high, lowest_less, digits_end, lowest_set, lowest_within, lowest_clear, lone, lone_is}

-- x has the starts of nodes with several entries in word q of S-LOUDS
pub record SeveralStarts (sb : Bytes) (q x : ℕ) : Type 0 where
  pub few : x < 2 ^ 64
  pub is : (j : ℕ) → j < 64 → digit x j ≡ bit (is_set sb (64 * q + j) && not (is_set sb (64 * q + j + 1)))

-- so have the set digits of a word whose next is not set
pub starts_are : (s : Bytes) → Small s → (q w next : ℕ) → w ≡ word s (q * 8) → next ≡ bit_at s (8 * (q * 8 + 8)) → SeveralStarts s q (lone w next)
starts_are s small q w next e h =
    let k : 8 * (q * 8 + 8) ≡ 64 * q + 64 = omega arith in
    let l : w < 2 ^ 64 = rw e (word_lt s (q * 8)) in
    record {
      few = xor_lt 64 w (bit_and w (w / 2 + next * 2 ^ 63)) l (omega (arith, and_le_l w (w / 2 + next * 2 ^ 63)));
      is = λ j m. ap (λ (v : ℕ). digit (lone v next) j) e ∙ lone_is s small q next j (h ∙ ap (bit_at s) k) m;
    }

-- y has some of the entries that x has, and at least those with the label FF
pub record FullKept (sl : Bytes) (q x y : ℕ) : Type 0 where
  pub few : y < 2 ^ 64
  pub some : (j : ℕ) → j < 64 → digit y j ≡ 1 → digit x j ≡ 1
  pub others : (j : ℕ) → j < 64 → digit y j ≡ 0 → digit x j ≡ 1 → get_or sl (64 * q + j) 0 ≡ 255 → ⊥

module _ (sl : Bytes) (q x : ℕ) where
  -- all of them
  pub all_kept : x < 2 ^ 64 → FullKept sl q x x
  all_kept h = record { few = h; some = λ j l d. d; others = λ j l d e f. absurd (omega arith) }

  -- none, where none has the label FF
  pub none_kept : ((j : ℕ) → j < 64 → digit x j ≡ 1 → get_or sl (64 * q + j) 0 ≡ 255 → ⊥) → FullKept sl q x 0
  none_kept h = record { few = omega arith; some = λ j l d. absurd (omega (arith, d, zero-div (2 ^ j))); others = λ j l d. h j l }

  -- one less, the lowest, which has another label
  pub one_less : (y : ℕ) → FullKept sl q x y → (y ≡ 0 → ⊥) → (get_or sl (64 * q + count_trailing_zeros 64 y) 0 ≡ 255 → ⊥) → FullKept sl q x (y - 2 ^ count_trailing_zeros 64 y)
  one_less y k some h = record { few = omega (arith, k.few); some = λ i l d. kept i l d (ltb i (t + 1)) refl; others = λ i l d. lost i l d (ltb i (t + 1)) refl (ltb i t) refl }
    where
      t : ℕ
      t = count_trailing_zeros 64 y

      is : y - 2 ^ t ≡ y / 2 ^ (t + 1) * 2 ^ (t + 1)
      is = (lowest_less y k.few some).1

      kept : (i : ℕ) → i < 64 → digit (y - 2 ^ t) i ≡ 1 → (b : Bool) → ltb i (t + 1) ≡ b → digit x i ≡ 1
      kept i l d true e = absurd (omega (arith, d, ap (λ (n : ℕ). digit n i) is, kept_low y (t + 1) i (ltb-true i (t + 1) e)))
      kept i l d false e = k.some i l (sym (kept_high y (t + 1) i (ltb-false i (t + 1) e)) ∙ ap (λ (n : ℕ). digit n i) (sym is) ∙ d)

      lost : (i : ℕ) → i < 64 → digit (y - 2 ^ t) i ≡ 0 → (b : Bool) → ltb i (t + 1) ≡ b → (c : Bool) → ltb i t ≡ c → digit x i ≡ 1 → get_or sl (64 * q + i) 0 ≡ 255 → ⊥
      lost i l d b e true f g u = k.others i l (trailing_clear 64 y i (ltb-true i t f)) g u
      lost i l d true e false f g u =
          let w : i ≡ t = omega (arith, ltb-true i (t + 1) e, ltb-false i t f) in
          h (rw w at u)
      lost i l d false e false f g u = k.others i l (sym (kept_high y (t + 1) i (ltb-false i (t + 1) e)) ∙ ap (λ (n : ℕ). digit n i) (sym is) ∙ d) g u

-- x has some of the starts, and at least those with the label FF
pub record Candidates (sl sb : Bytes) (q x : ℕ) : Type 0 where
  pub few : x < 2 ^ 64
  pub starts : (j : ℕ) → j < 64 → digit x j ≡ 1 → (is_set sb (64 * q + j) && not (is_set sb (64 * q + j + 1))) ≡ true
  pub others : (j : ℕ) → j < 64 → digit x j ≡ 0 → (is_set sb (64 * q + j) && not (is_set sb (64 * q + j + 1)) && eqb (get_or sl (64 * q + j) 0) 255) ≡ false

-- so have the starts that are kept
pub starts_kept : (sl sb : Bytes) (q x y : ℕ) → SeveralStarts sb q x → FullKept sl q x y → Candidates sl sb q y
starts_kept sl sb q x y s k = record {
  few = k.few;
  starts = λ j l d. set (is_set sb (64 * q + j) && not (is_set sb (64 * q + j + 1))) (sym (s.is j l) ∙ k.some j l d);
  others = λ j l d. other j (is_set sb (64 * q + j)) (not (is_set sb (64 * q + j + 1))) (eqb (get_or sl (64 * q + j) 0) 255) refl (λ e. k.others j l d (s.is j l ∙ ap bit e));
}
  where
    set : (a : Bool) → bit a ≡ 1 → a ≡ true
    set true h = refl
    set false h = absurd (omega arith)

    other : (j : ℕ) (a b t : Bool) → eqb (get_or sl (64 * q + j) 0) 255 ≡ t → ((a && b) ≡ true → get_or sl (64 * q + j) 0 ≡ 255 → ⊥) → (a && b && t) ≡ false
    other j false b t e h = refl
    other j true false t e h = refl
    other j true true false e h = refl
    other j true true true e h = absurd (h refl (eqb-true (get_or sl (64 * q + j) 0) 255 e))

-- the numbers from i to k of those up to n were judged: all pass, or one of them fails
pub record RangeJudged (f : ℕ → Bool) (i k n : ℕ) (r : Bool) : Type 0 where
  pub passed : r ≡ true → all_from f i (n - i) ≡ all_from f k (n - k)
  pub failed : r ≡ false → all_from f i (n - i) ≡ false

module _ (g : ℕ → Bool) (sl sc sb : Bytes) (n d q x : ℕ) (s : Candidates sl sb q x) where
  abbrev F : ℕ → Bool
  F = sparse_exact g sl sc sb n d

  -- what is asked of the entry at a start, where another entry follows
  abbrev pub entry_test : ℕ → Bool
  entry_test p = not (eqb (get_or sl p 0) 255) || g (sparse_slot sc d p)

  no_start : (p : ℕ) (j : ℕ) → p ≡ 64 * q + j → j < 64 → digit x j ≡ 0 → F p ≡ true
  no_start p j e l h =
      let b : suc (64 * q + j) ≡ 64 * q + j + 1 = omega arith in
      rw (e, b) (none (is_set sb (64 * q + j)) (is_set sb (64 * q + j + 1)) (ltb (64 * q + j + 1) n) (eqb (get_or sl (64 * q + j) 0) 255) (g (sparse_slot sc d (64 * q + j))) (s.others j l h))
    where
      none : (a b c t u : Bool) → (a && not b && t) ≡ false → (not (a && (c && not b) && t) || u) ≡ true
      none false b c t u h = refl
      none true true true t u h = refl
      none true true false t u h = refl
      none true false true false u h = refl
      none true false false false u h = refl
      none true false c true u h = absurd (true≢false h)

  a_start : (j : ℕ) → j < 64 → digit x j ≡ 1 → 64 * q + j + 1 < n → F (64 * q + j) ≡ entry_test (64 * q + j)
  a_start j l h k =
      let b : suc (64 * q + j) ≡ 64 * q + j + 1 = omega arith in
      rw (b, lt-ltb (64 * q + j + 1) n k) (one (is_set sb (64 * q + j)) (is_set sb (64 * q + j + 1)) (eqb (get_or sl (64 * q + j) 0) 255) (g (sparse_slot sc d (64 * q + j))) (s.starts j l h))
    where
      one : (a b t u : Bool) → (a && not b) ≡ true → (not (a && (true && not b) && t) || u) ≡ (not t || u)
      one true false t u h = refl
      one true true t u h = absurd (true≢false (sym h))
      one false b t u h = absurd (true≢false (sym h))

  -- there are none
  pub starts_none : x ≡ 0 → all_from F (64 * q) (n - 64 * q) ≡ all_from F (64 * q + 64) (n - (64 * q + 64))
  starts_none z =
      from_skip F (64 * q) (64 * q + 64) n (omega arith)
      (λ p a b c. no_start p (p - 64 * q) (omega arith) (omega arith) (ap (λ (n : ℕ). n / 2 ^ (p - 64 * q) % 2) z ∙ ap (λ (n : ℕ). n % 2) (zero-div (2 ^ (p - 64 * q)))))

  -- the candidates from j on, of which the lowest is to be judged next
  module _ (j y : ℕ) (le : j ≤ 64) (is : y ≡ x / 2 ^ j) where
    -- none is left
    pub starts_end : y ≡ 0 → all_from F (64 * q + j) (n - (64 * q + j)) ≡ all_from F (64 * q + 64) (n - (64 * q + 64))
    starts_end z =
        from_skip F (64 * q + j) (64 * q + 64) n (omega arith)
        (λ p a b c. no_start p (p - 64 * q) (omega arith) (omega arith) (digits_end x j y is z (p - 64 * q) (omega arith)))

    module _ (some : y ≡ 0 → ⊥) where
      abbrev t : ℕ
      t = count_trailing_zeros 64 y

      within : j + t < 64
      within = lowest_within x j y is s.few some

      one : digit x (j + t) ≡ 1
      one = lowest_set x j y is s.few some

      skip : all_from F (64 * q + j) (n - (64 * q + j)) ≡ all_from F (64 * q + (j + t)) (n - (64 * q + (j + t)))
      skip =
          from_skip F (64 * q + j) (64 * q + (j + t)) n (omega arith)
          (λ p a b c. no_start p (p - 64 * q) (omega arith) (omega (arith, within)) (lowest_clear x j y is s.few some (p - 64 * q) (omega arith) (omega arith)))

      -- no entry follows it
      pub start_last : n ≤ 64 * q + (j + t) + 1 → all_from F (64 * q + j) (n - (64 * q + j)) ≡ all_from F (64 * q + 64) (n - (64 * q + 64))
      start_last h =
          skip ∙ from_skip F (64 * q + (j + t)) (64 * q + 64) n (omega (arith, within)) (λ p a b c. last p (omega arith))
        where
          last : (p : ℕ) → n ≤ suc p → F p ≡ true
          last p l = rw (le-ltb (suc p) n l) (none (is_set sb p) (not (is_set sb (suc p))) (eqb (get_or sl p 0) 255) (g (sparse_slot sc d p)))
            where
              none : (a b t u : Bool) → (not (a && (false && b) && t) || u) ≡ true
              none true b t u = refl
              none false b t u = refl

      -- it fails
      pub start_fail : 64 * q + (j + t) + 1 < n → entry_test (64 * q + (j + t)) ≡ false → all_from F (64 * q + j) (n - (64 * q + j)) ≡ false
      start_fail h e = skip ∙ from_fail F (64 * q + (j + t)) n (omega arith) (a_start (j + t) within one h ∙ e)

      -- it passes
      pub start_pass : 64 * q + (j + t) + 1 < n → entry_test (64 * q + (j + t)) ≡ true
          → all_from F (64 * q + j) (n - (64 * q + j)) ≡ all_from F (64 * q + (j + t + 1)) (n - (64 * q + (j + t + 1)))
      start_pass h e =
          let w : 64 * q + (j + t) + 1 ≡ 64 * q + (j + t + 1) = omega arith in
          skip ∙ from_step F (64 * q + (j + t)) n (omega arith) (a_start (j + t) within one h ∙ e) ∙ ap (λ (k : ℕ). all_from F k (n - k)) w
