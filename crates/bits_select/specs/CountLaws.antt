-- The ones of all fields of a word, counted at once: those of a field are the sum of those of its halves.
use Rattle.std.specs.Prelude.{◌≡◌, ℕ, zero, suc, ◌+◌, ◌*◌, ◌-◌, ◌/◌, ◌%◌, ◌^◌, ◌<◌}
use Rattle.std.proofs.Common.{sym, ap, ap₂, ◌∙◌, mod-lt, add_comm, mul-zero, mul-suc, add-mul, div-one, lt_of_lt_of_le, zero-lt-suc, arith, pow_pos, pow_mono, shr-shr}
use Rattle.std.specs.Int.Bits.{bit_and}
use Rattle.std.proofs.lemmas.Nat.{and_block, and_mask}
use Rattle.std.specs.Int.Count.{ones}
use Rattle.std.proofs.Math.Pow.{add-lt-pow, split, high, low, mod-mod-pow, ones_lt}
use Rattle.bits.proofs.RankLaws.{ones_bit, ones_behind}

-- each of the c lowest fields of w digits of n is the number of ones in that field of x
pub data Counts (w : ℕ) : ℕ → ℕ → ℕ → Type 0 where
  none : {n x : ℕ} → Counts w zero n x
  more : {c n x : ℕ} → n % 2 ^ w ≡ ones (x % 2 ^ w) → Counts w c (n / 2 ^ w) (x / 2 ^ w) → Counts w (suc c) n x

-- the number whose fields of w digits, 2 c of them, are all ones and all zeros in turn
unfoldable pub every_other : ℕ → ℕ → ℕ
every_other w zero = zero
every_other w (suc c) = every_other w c * 2 ^ (w + w) + (2 ^ w - 1)

-- fields of 2 w digits, each the sum of its halves, by such a mask
abbrev pub paired : ℕ → ℕ → ℕ → ℕ
paired w mask n = bit_and n mask + bit_and (n / 2 ^ w) mask

-- a digit is its own count
pub counts_digits : (c x : ℕ) → Counts 1 c x x
counts_digits zero x = none
counts_digits (suc c) x = more (sym (ones_bit (x % 2) (mod-lt x (zero-lt-suc 1)))) (counts_digits c (x / 2))

-- a field by its number
pub counts_at : (w c n x i : ℕ) → Counts w c n x → i < c → n / 2 ^ (w * i) % 2 ^ w ≡ ones (x / 2 ^ (w * i) % 2 ^ w)
counts_at w zero n x i none l = absurd (omega arith)
counts_at w (suc c) n x zero (more e r) l = rw (mul-zero w, div-one n, div-one x) e
counts_at w (suc c) n x (suc i) (more e r) l =
    let at : (y : ℕ) → y / 2 ^ w / 2 ^ (w * i) ≡ y / 2 ^ (w * suc i) = λ y. shr-shr y w (w * i) ∙ ap (λ (k : ℕ). y / 2 ^ k) (add_comm w (w * i) ∙ sym (mul-suc w i)) in
    rw (← at n, ← at x) (counts_at w c (n / 2 ^ w) (x / 2 ^ w) i r (omega arith))

-- the mask at the lowest field, and behind it
and_field : (w m y : ℕ) → bit_and y (m * 2 ^ (w + w) + (2 ^ w - 1)) ≡ bit_and (y / 2 ^ (w + w)) m * 2 ^ (w + w) + y % 2 ^ w
and_field w m y =
    ap (λ (n : ℕ). bit_and n (m * 2 ^ (w + w) + (2 ^ w - 1))) (sym (split y (w + w)))
    ∙ and_block (w + w) (y / 2 ^ (w + w)) m (y % 2 ^ (w + w)) (2 ^ w - 1) (mod-lt y (pow_pos (w + w))) (lt_of_lt_of_le (ones_lt w) (pow_mono (omega arith)))
    ∙ ap (λ (n : ℕ). bit_and (y / 2 ^ (w + w)) m * 2 ^ (w + w) + n) (and_mask (y % 2 ^ (w + w)) w ∙ mod-mod-pow y w w)

-- the sums of the halves of all fields: that of the lowest, and the others
paired_field : (w m n : ℕ) → paired w (m * 2 ^ (w + w) + (2 ^ w - 1)) n ≡ paired w m (n / 2 ^ (w + w)) * 2 ^ (w + w) + (n % 2 ^ w + n / 2 ^ w % 2 ^ w)
paired_field w m n =
    let b : ℕ = 2 ^ (w + w) in
    let p : ℕ = bit_and (n / b) m in
    let q : ℕ = bit_and (n / b / 2 ^ w) m in
    let e : n / 2 ^ w / b ≡ n / b / 2 ^ w = shr-shr n w (w + w) ∙ ap (λ (k : ℕ). n / 2 ^ k) (add_comm w (w + w)) ∙ sym (shr-shr n (w + w) w) in
    let f = and_field w m (n / 2 ^ w) ∙ ap (λ (k : ℕ). bit_and k m * b + n / 2 ^ w % 2 ^ w) e in
    omega (arith, and_field w m n, f, add-mul p q b)

-- the counts of fields of 2 w digits from those of w digits
pub counts_paired : (w c n x : ℕ) → 0 < w → Counts w (c + c) n x → Counts (w + w) c (paired w (every_other w c) n) x
unfolding every_other
counts_paired w zero n x p h = none
counts_paired w (suc c) n x p h =
    let e : suc c + suc c ≡ suc (suc (c + c)) = omega arith in
    go (rw e at h) (counts_paired w c (n / 2 ^ (w + w)) (x / 2 ^ (w + w)) p)
  where
    go : Counts w (suc (suc (c + c))) n x
        → (Counts w (c + c) (n / 2 ^ (w + w)) (x / 2 ^ (w + w)) → Counts (w + w) c (paired w (every_other w c) (n / 2 ^ (w + w))) (x / 2 ^ (w + w)))
        → Counts (w + w) (suc c) (paired w (every_other w (suc c)) n) x
    go (more a (more b r)) rest =
        let s : ℕ = n % 2 ^ w + n / 2 ^ w % 2 ^ w in
        let t : ℕ = paired w (every_other w c) (n / 2 ^ (w + w)) in
        let f : paired w (every_other w (suc c)) n ≡ t * 2 ^ (w + w) + s = paired_field w (every_other w c) n in
        let l : s < 2 ^ (w + w) = lt_of_lt_of_le (add-lt-pow w (mod-lt n (pow_pos w)) (mod-lt (n / 2 ^ w) (pow_pos w))) (pow_mono (omega arith)) in
        let behind : Counts w (c + c) (n / 2 ^ (w + w)) (x / 2 ^ (w + w)) = rw (← shr-shr n w w, ← shr-shr x w w) r in
        rw f (more {c = c} (low t (w + w) l ∙ ap₂ (λ (u v : ℕ). u + v) a b ∙ sym (ones_behind x w w)) (rw (high t (w + w) l) (rest behind)))

-- the counts of the fields of 2, 4, 8, 16 and 32 bits of a word
pub record CountedFields (x of-2 of-4 of-8 of-16 of-32 : ℕ) : Type 0 where
  pub pairs : Counts 2 32 of-2 x
  pub fours : Counts 4 16 of-4 x
  pub eights : Counts 8 8 of-8 x
  pub sixteens : Counts 16 4 of-16 x
  pub halves : Counts 32 2 of-32 x

-- as they are found: each from those of half the width, by the mask of that width
pub field_counts : (x n2 n4 n8 n16 n32 : ℕ) → n2 ≡ paired 1 (every_other 1 32) x → n4 ≡ paired 2 (every_other 2 16) n2 → n8 ≡ paired 4 (every_other 4 8) n4
    → n16 ≡ paired 8 (every_other 8 4) n8 → n32 ≡ paired 16 (every_other 16 2) n16 → CountedFields x n2 n4 n8 n16 n32
field_counts x n2 n4 n8 n16 n32 a b c d e =
    let two : Counts 2 32 n2 x = rw a (counts_paired 1 32 x x (omega arith) (counts_digits 64 x)) in
    let four : Counts 4 16 n4 x = rw b (counts_paired 2 16 n2 x (omega arith) two) in
    let eight : Counts 8 8 n8 x = rw c (counts_paired 4 8 n4 x (omega arith) four) in
    let sixteen : Counts 16 4 n16 x = rw d (counts_paired 8 4 n8 x (omega arith) eight) in
    record { pairs = two; fours = four; eights = eight; sixteens = sixteen; halves = rw e (counts_paired 16 2 n16 x (omega arith) sixteen) }
