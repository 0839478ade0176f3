-- Select inside a word: the field that holds the one is halved by the counts of all fields, down to a pair of bits, where its position is that of the table.
use Rattle.std.specs.Prelude.{◌≡◌, refl, Bool, true, false, [], ◌∷◌, ℕ, zero, suc, ◌+◌, ◌*◌, ◌-◌, ◌/◌, ◌%◌, ◌^◌, ◌≤◌, ◌<◌, ltb}
use Rattle.std.proofs.Common.{sym, ap, ◌∙◌, mod-eq_of_lt, add-mul, mul-add, mul-suc, add-one, arith, ltb-true, ltb-false, shr-shr}
use Rattle.std.specs.Int.Count.{ones}
use Rattle.std.proofs.Math.Pow.{mod-mod-pow}
use Rattle.bits.specs.Bits.{rank, select_in_byte, value}
use Rattle.bits.proofs.ValueLaws.{Small}
use Rattle.bits.proofs.RankLaws.{ones_behind, rank_ones, rank_up}
use Rattle.bits_select.specs.SelectLaws.{select_is}
use Rattle.bits_select.specs.WordLaws.{ones_none}
use Rattle.bits_select.specs.CountLaws.{Counts, counts_at}

-- the one of x that has m ones below it stands in field `index` of the k fields of w bits, which starts at bit `at`, with `left` ones below it in the field
pub record Narrowed (x m w k at left : ℕ) : Type 0 where
  pub index : ℕ
  pub inside : index < k
  pub aligned : at ≡ w * index
  pub below : ones (x % 2 ^ at) + left ≡ m
  pub held : left < ones (x / 2 ^ at % 2 ^ w)

-- the whole word
pub narrowed_word : (x m : ℕ) → x < 2 ^ 64 → m < ones x → Narrowed x m 64 1 0 m
narrowed_word x m l h =
    let e : x / 2 ^ 0 % 2 ^ 64 ≡ x = omega arith in
    record { index = 0; inside = omega arith; aligned = omega arith; below = omega (arith, ones_none x); held = omega (arith, ap ones e) }

-- of the two halves of a field, with the counts of all fields of w bits
module _ (x m w k at left n : ℕ) (c : Counts w (k + k) n x) (p : Narrowed x m (w + w) k at left) where
  starts : at ≡ w * (p.index + p.index)
  starts = p.aligned ∙ add-mul w w p.index ∙ sym (mul-add w p.index p.index)

  counted : n / 2 ^ at % 2 ^ w ≡ ones (x / 2 ^ at % 2 ^ w)
  counted = rw starts (counts_at w (k + k) n x (p.index + p.index) c (omega (arith, p.inside)))

  -- the first holds the one that has fewer ones below it than that half has
  pub narrowed_low : left < n / 2 ^ at % 2 ^ w → Narrowed x m w (k + k) at left
  narrowed_low l = record { index = p.index + p.index; inside = omega (arith, p.inside); aligned = starts; below = p.below; held = omega (arith, counted) }

  -- else the second does
  pub narrowed_high : n / 2 ^ at % 2 ^ w ≤ left → Narrowed x m w (k + k) (at + w) (left - n / 2 ^ at % 2 ^ w)
  narrowed_high l =
      let i : ℕ = p.index + p.index in
      record {
        index = i + 1;
        inside = omega (arith, p.inside);
        aligned = ap (λ (n : ℕ). n + w) starts ∙ sym (mul-suc w i) ∙ ap (λ (n : ℕ). w * n) (sym (add-one i));
        below = omega (arith, counted, ones_behind x at w, p.below);
        held = omega (arith, counted, p.held, ones_behind (x / 2 ^ at) w w, ap (λ (n : ℕ). ones (n % 2 ^ w)) (shr-shr x at w));
      }

-- the first k bits of a byte
rank_byte : (h : ℕ) → h < 256 → (k : ℕ) → rank (h ∷ []) k ≡ ones (h % 2 ^ k)
unfolding value
rank_byte h l k = let e : value (h ∷ []) ≡ h = omega arith in rank_ones (h ∷ []) small k ∙ ap (λ (n : ℕ). ones (n % 2 ^ k)) e
  where
    small : Small (h ∷ [])
    small zero = l
    small (suc i) = omega arith

-- the position in a pair of bits
two_bits : (h j : ℕ) → h < 4 → j < ones h → (select_in_byte h j < 2) × (ones (h % 2 ^ select_in_byte h j) ≤ j) × (j < ones (h % 2 ^ (select_in_byte h j + 1)))
two_bits h j l g =
    let r = rank_byte h (omega arith) in
    let is = select_is (h ∷ []) 8 j in
    let two : rank (h ∷ []) 2 ≡ ones h = r 2 ∙ ap ones (mod-eq_of_lt l) in
    let below : select_in_byte h j < 2 = go (ltb (select_in_byte h j) 2) refl two is in
    (below, omega (arith, is.1, r (select_in_byte h j)), omega (arith, is.2 (omega arith), r (select_in_byte h j + 1)))
  where
    go : (b : Bool) → ltb (select_in_byte h j) 2 ≡ b → rank (h ∷ []) 2 ≡ ones h
        → (select_in_byte h j ≤ 8) × (rank (h ∷ []) (select_in_byte h j) ≤ j) × (select_in_byte h j < 8 → j < rank (h ∷ []) (select_in_byte h j + 1)) → select_in_byte h j < 2
    go true e two is = ltb-true (select_in_byte h j) 2 e
    go false e two is = absurd (omega (arith, rank_up (h ∷ []) 2 (select_in_byte h j) (ltb-false (select_in_byte h j) 2 e)))

-- the position in the word
pub narrowed_select : (x m at left : ℕ) → Narrowed x m 2 32 at left
    → (ones (x % 2 ^ (at + select_in_byte (x / 2 ^ at % 4) left)) ≤ m) × (m < ones (x % 2 ^ (at + select_in_byte (x / 2 ^ at % 4) left + 1))) × (at + select_in_byte (x / 2 ^ at % 4) left < 64)
narrowed_select x m at left p =
    let h : ℕ = x / 2 ^ at % 4 in
    let t : ℕ = select_in_byte h left in
    let f = two_bits h left (omega arith) p.held in
    let w : 2 - t + t ≡ 2 = omega arith in
    let v : 2 - (t + 1) + (t + 1) ≡ 2 = omega arith in
    let c = sym (mod-mod-pow (x / 2 ^ at) (2 - t) t) ∙ ap (λ (n : ℕ). x / 2 ^ at % 2 ^ n % 2 ^ t) w in
    let d = sym (mod-mod-pow (x / 2 ^ at) (2 - (t + 1)) (t + 1)) ∙ ap (λ (n : ℕ). x / 2 ^ at % 2 ^ n % 2 ^ (t + 1)) v in
    let s : at + t + 1 ≡ at + (t + 1) = omega arith in
    let b = p.below in
    (omega (arith, ones_behind x at t, ap ones c, f.1), omega (arith, ones_behind x at (t + 1), ap ones d, f.2, ap (λ (n : ℕ). ones (x % 2 ^ n)) s), omega (arith, p.inside, p.aligned))

-- a field of one bit is the one
pub narrowed_bit : (x m at left : ℕ) → Narrowed x m 1 64 at left → (ones (x % 2 ^ at) ≤ m) × (m < ones (x % 2 ^ (at + 1))) × (at < 64)
narrowed_bit x m at left p = (omega (arith, p.below), omega (arith, p.below, p.held, ones_behind x at 1), omega (arith, p.inside, p.aligned))
