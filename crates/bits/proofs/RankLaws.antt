-- Rank: by one bit and by the first bits of a word; it never falls, and never rises by more than the positions passed.
use Rattle.std.specs.Prelude.{◌≡◌, refl, ℕ, zero, suc, ◌+◌, ◌*◌, ◌-◌, ◌/◌, ◌%◌, ◌^◌, ◌≤◌, ◌<◌, drop}
use Rattle.std.proofs.Common.{sym, ap, ap₂, ◌∙◌, mod-lt, add_comm, zero-lt-suc, one-mul, mod-eq_of_lt, add-one, arith, lit<, shl_exact, pow_pos}
use Rattle.std.proofs.Math.Nat.{mod-one}
use Rattle.std.specs.Int.Count.{ones}
use Rattle.std.proofs.lemmas.Nat.{ones_cat, ones-le, mod-pow-add}
use Rattle.std.proofs.Math.Pow.{mod-mod-pow}
use Rattle.spec.specs.Bytes.{Bytes}
use Rattle.bits.specs.Bits.{bit_at, rank, value, word}
use Rattle.bits.proofs.ValueLaws.{Small, value_bit, value_drop, word_lt}

-- no ones stand before the first bit
pub rank_zero : (s : Bytes) → rank s 0 ≡ 0
unfolding rank
rank_zero s = refl

-- one bit on
pub rank_next : (s : Bytes) (p : ℕ) → rank s (p + 1) ≡ rank s p + bit_at s p
unfolding rank
rank_next s p = rw add-one

-- no more ones than positions
pub rank_le : (s : Bytes) (k : ℕ) → rank s k ≤ k
unfolding rank
rank_le s zero = omega arith
rank_le s (suc k) = omega (arith, rank_le s k)

-- d positions on, at most d ones more and none less
pub rank_slow : (s : Bytes) (a b : ℕ) → a ≤ b → (rank s a ≤ rank s b) × (rank s b + a ≤ rank s a + b)
unfolding rank
rank_slow s a b h = let e : a + (b - a) ≡ b = omega arith in let r = go (b - a) in (omega (arith, r.0, ap (rank s) e), omega (arith, r.1, ap (rank s) e))
  where
    go : (d : ℕ) → (rank s a ≤ rank s (a + d)) × (rank s (a + d) ≤ rank s a + d)
    go zero = let e : a + 0 ≡ a = omega arith in rw e (omega arith, omega arith)
    go (suc d) = let e : a + suc d ≡ suc (a + d) = omega arith in let ih = go d in rw e (omega (arith, ih.0), omega (arith, ih.1))

-- rank never falls
pub rank_up : (s : Bytes) (a b : ℕ) → a ≤ b → rank s a ≤ rank s b
rank_up s a b h = (rank_slow s a b h).0

-- a digit has itself as its ones
pub ones_bit : (x : ℕ) → x < 2 → ones x ≡ x
unfolding ones
ones_bit zero h = refl
ones_bit (suc zero) h = refl
ones_bit (suc (suc x)) h = absurd (omega arith)

-- the ones of the k + j lowest digits: those of the k lowest, and of the j behind them
pub ones_behind : (x k j : ℕ) → ones (x % 2 ^ (k + j)) ≡ ones (x % 2 ^ k) + ones (x / 2 ^ k % 2 ^ j)
ones_behind x k j =
    ap (λ (n : ℕ). ones (x % 2 ^ n)) (add_comm k j) ∙ ap ones (mod-pow-add x j k)
    ∙ ones_cat k (x / 2 ^ k % 2 ^ j) (x % 2 ^ k) (mod-lt x (pow_pos k)) ∙ add_comm _ _

-- the ones before bit k are those of the number's k lowest digits
pub rank_ones : (s : Bytes) → Small s → (k : ℕ) → rank s k ≡ ones (value s % 2 ^ k)
unfolding rank ones
rank_ones s h zero = sym (ap ones (mod-one (value s)))
rank_ones s h (suc k) =
    let n : ℕ = value s in
    ap₂ (λ (x y : ℕ). x + y) (rank_ones s h k) (sym (value_bit s h k) ∙ sym (ones_bit (n / 2 ^ k % 2) (mod-lt (n / 2 ^ k) (zero-lt-suc 1))))
    ∙ sym (ones_behind n k 1) ∙ ap (λ (m : ℕ). ones (n % 2 ^ m)) (add-one k)

-- j bits on from bit a: the one law for every width
pub rank_step : (s : Bytes) → Small s → (a j : ℕ) → rank s (a + j) ≡ rank s a + ones (value s / 2 ^ a % 2 ^ j)
rank_step s h a j = rank_ones s h (a + j) ∙ ones_behind (value s) a j ∙ ap (λ (m : ℕ). m + ones (value s / 2 ^ a % 2 ^ j)) (sym (rank_ones s h a))

-- the first j bits of word q
pub rank_word : (s : Bytes) → Small s → (q j : ℕ) → j ≤ 64
    → (rank s (64 * q + j) ≡ rank s (64 * q) + ones (word s (q * 8) % 2 ^ j)) × (ones (word s (q * 8) % 2 ^ j) ≤ j)
unfolding word
rank_word s h q j l =
    let e : 64 * q ≡ 8 * (q * 8) = omega arith in
    let w : (64 - j) + j ≡ 64 = omega arith in
    let n : ℕ = value (drop (q * 8) s) in
    let f : value s / 2 ^ (64 * q) % 2 ^ j ≡ n % 2 ^ 64 % 2 ^ j =
    ap (λ (m : ℕ). m % 2 ^ j) (ap (λ (m : ℕ). value s / 2 ^ m) e ∙ value_drop (q * 8) s h)
    ∙ sym (mod-mod-pow n (64 - j) j) ∙ ap (λ (m : ℕ). n % 2 ^ m % 2 ^ j) w in
    (rank_step s h (64 * q) j ∙ ap (λ (m : ℕ). rank s (64 * q) + ones m) f, ones-le j _ (mod-lt _ (pow_pos j)))

-- all bits of word q
pub rank_whole_word : (s : Bytes) → Small s → (q : ℕ) → (rank s (64 * q + 64) ≡ rank s (64 * q) + ones (word s (q * 8))) × (ones (word s (q * 8)) ≤ 64)
rank_whole_word s h q = rw (mod-eq_of_lt (word_lt s (q * 8))) at (rank_word s h q 64 (omega arith))

-- 1 shifted within a machine's w digits
pub one_shl : (w j : ℕ) → j < w → (1 * 2 ^ j) % 2 ^ w ≡ 2 ^ j
one_shl w j h = shl_exact 1 j w (lit< tt) (omega arith) ∙ one-mul (2 ^ j)
