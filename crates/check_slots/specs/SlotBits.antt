-- Zero bits in a row by counts of ones: a slot, and slots in a row.
use Rattle.std.specs.Prelude.{ℕ, zero, suc, ◌+◌, ◌-◌, ◌*◌, ◌<◌, ◌≤◌, ◌≡◌, refl, Bool, true, false, ◌&&◌, [], ◌∷◌, length, take, drop, eqb}
use Rattle.std.proofs.Common.{sym, ap, ap₂, ◌∙◌, arith, suc-mul, mul-le-mul, mul-le-mul_right, length-take, drop_of_length-le, drop-drop, eqb-true, eq-eqb, ne_eqb}
use Rattle.std.proofs.Math.Seq.{take-nil}
use Rattle.std.proofs.lemmas.Bool.{eqb-false}
use Rattle.spec.specs.Bytes.{Bytes, Bits, ones, clear, unpack}
use Rattle.bits.specs.Bits.{rank}
use Rattle.bits.proofs.RankLaws.{rank_up}
use Rattle.check_levels.specs.DenseNodes.{ones_take_parts}
use Rattle.check_levels.specs.ListParts.{drop_take}
use Rattle.check_levels.specs.Positions.{bits, ones_bits}
use Rattle.check_levels.specs.Ranges.{all_from, from_none, from_first}
use Rattle.check_slots.specs.NodeSlots.{clear_none, clear_short, slot_clear}

-- no bit from bit a to bit b is set
abbrev pub bits_clear : Bytes → ℕ → ℕ → Bool
bits_clear s a b = eqb (rank s a) (rank s b)

-- so many slots of so many bits fit the bytes, and are few
pub record SlotsSized (sv : Bytes) (leaves width : ℕ) : Type 0 where
  -- at most 65,535 leaves
  pub few_leaves : leaves ≤ 65535
  -- at most 32 bits a slot
  pub narrow : width ≤ 32
  -- the bytes hold them all
  pub room : leaves * width ≤ 8 * length sv

-- a number is zero where two differ by it and are equal
pub eqb_apart : (x a b : ℕ) → x + a ≡ b → eqb x 0 ≡ eqb a b
eqb_apart x a b h = go (eqb x 0) refl
  where
    go : (t : Bool) → eqb x 0 ≡ t → t ≡ eqb a b
    go true e = sym (eq-eqb a b (omega (arith, eqb-true x 0 e)))
    go false e = sym (ne_eqb a b (λ q. eqb-false x 0 e (omega arith)))

clear_ones : (bs : Bits) → clear bs ≡ eqb (ones bs) 0
unfolding clear ones
clear_ones [] = refl
clear_ones (true ∷ bs) = sym (ne_eqb (1 + ones bs) 0 (λ q. omega arith))
clear_ones (false ∷ bs) = let e : 0 + ones bs ≡ ones bs = omega arith in rw e (clear_ones bs)

-- k bits from bit a on
clear_bits : (s : Bytes) (n a k : ℕ) → a + k ≤ n → clear (take k (drop a (bits s n))) ≡ bits_clear s a (a + k)
clear_bits s n a k h =
    clear_ones (take k (drop a (bits s n)))
    ∙ eqb_apart (ones (take k (drop a (bits s n)))) (rank s a) (rank s (a + k))
    (omega (arith, ones_take_parts a k (bits s n), ones_bits s n a (omega arith), ones_bits s n (a + k) h))

module _ (s : Bytes) (n w : ℕ) where
  -- slot v of w bits, behind its first m
  pub slot_bits : (m v : ℕ) → m ≤ w → v * w + w ≤ n → slot_clear m w (bits s n) v ≡ bits_clear s (v * w + m) (v * w + w)
  slot_bits m v h l =
      let e : m + (w - m) ≡ w = omega arith in
      let f : v * w + m + (w - m) ≡ v * w + w = omega arith in
      ap (λ (k : ℕ). clear (drop m (take k (drop (v * w) (bits s n))))) (sym e)
      ∙ ap clear (drop_take m (w - m) (drop (v * w) (bits s n)) ∙ ap (take (w - m)) (drop-drop m (v * w) (bits s n)))
      ∙ clear_bits s n (v * w + m) (w - m) (omega arith)
      ∙ ap (bits_clear s (v * w + m)) f

  -- a slot of at most so many bits has nothing behind them
  pub slot_within : (m v : ℕ) → w ≤ m → slot_clear m w (bits s n) v ≡ true
  slot_within m v h = clear_short w m (drop (v * w) (bits s n)) h

-- bits in a row in two parts
pub bits_parts : (s : Bytes) (a b c : ℕ) → a ≤ b → b ≤ c → bits_clear s a b && bits_clear s b c ≡ bits_clear s a c
bits_parts s a b c h l = go (eqb (rank s a) (rank s b)) refl
  where
    go : (t : Bool) → eqb (rank s a) (rank s b) ≡ t → t && bits_clear s b c ≡ bits_clear s a c
    go true e = ap (λ (k : ℕ). eqb k (rank s c)) (sym (eqb-true (rank s a) (rank s b) e))
    go false e = sym (ne_eqb (rank s a) (rank s c) (λ q. eqb-false (rank s a) (rank s b) e (omega (arith, rank_up s a b h, rank_up s b c l))))

-- slots in a row are bits in a row
pub slots_bits : (s : Bytes) (n w k v : ℕ) → (v + k) * w ≤ n → all_from (slot_clear 0 w (bits s n)) v k ≡ bits_clear s (v * w) ((v + k) * w)
slots_bits s n w zero v h = let e : v + 0 ≡ v = omega arith in from_none (slot_clear 0 w (bits s n)) v ∙ sym (rw e (eq-eqb (rank s (v * w)) (rank s (v * w)) refl))
slots_bits s n w (suc k) v h =
    let a : v + suc k ≡ suc v + k = omega arith in
    let b : suc v * w ≡ v * w + w = suc-mul v w in
    let c : suc v * w ≤ (suc v + k) * w = up (suc v) k in
    let d : (suc v + k) * w ≤ n = rw a at h in
    let e : v * w + 0 ≡ v * w = omega arith in
    from_first (slot_clear 0 w (bits s n)) v k
    ∙ ap₂ ◌&&◌ (slot_bits s n w 0 v (omega arith) (omega arith) ∙ ap₂ (bits_clear s) e (sym b)) (slots_bits s n w k (suc v) d)
    ∙ bits_parts s (v * w) (suc v * w) ((suc v + k) * w) (omega arith) c
    ∙ ap (λ (z : ℕ). bits_clear s (v * w) (z * w)) (sym a)
  where
    up : (a k : ℕ) → a * w ≤ (a + k) * w
    up a zero = let e : a + 0 ≡ a = omega arith in rw e (omega arith)
    up a (suc k) = let e : a + suc k ≡ suc (a + k) = omega arith in rw e (omega (arith, up a k, suc-mul (a + k) w))

-- a slot among so many ends within their bits, which are few
pub slot_fits : (leaves w v : ℕ) → v < leaves → leaves ≤ 65535 → w ≤ 32 → (v * w + w ≤ leaves * w) × (leaves * w ≤ 2097120)
slot_fits leaves w v h l k =
    let e : suc v * w ≡ v * w + w = suc-mul v w in
    (omega (arith, mul-le-mul_right {m = suc v} {n = leaves} w h), omega (arith, mul-le-mul {n₁ = leaves} {m₁ = w} {n₂ = 65535} {m₂ = 32} l k))

-- so are those from one to another, among so many
pub slots_in_row : (s : Bytes) (leaves w a b : ℕ) → a ≤ b → b ≤ leaves → bits_clear s (a * w) (b * w) ≡ all_from (slot_clear 0 w (bits s (leaves * w))) a (b - a)
slots_in_row s leaves w a b h l =
    let e : a + (b - a) ≡ b = omega arith in
    sym (slots_bits s (leaves * w) w (b - a) a (rw e (mul-le-mul_right {m = b} {n = leaves} w l)) ∙ ap (λ (k : ℕ). bits_clear s (a * w) (k * w)) e)

-- behind the last slot stand no bits
pub slot_past : (s : Bytes) (leaves w m v : ℕ) → leaves ≤ v → slot_clear m w (bits s (leaves * w)) v ≡ true
slot_past s leaves w m v h =
    ap (λ (b : Bits). clear (drop m (take w b))) (drop_of_length-le (bits s (leaves * w)) {i = v * w} (omega (arith, length-take (leaves * w) (unpack s), mul-le-mul_right {m = leaves} {n = v} w h)))
    ∙ ap (λ (b : Bits). clear (drop m b)) (take-nil {A = Bool} w) ∙ clear_none m

module _ (s : Bytes) (leaves w v : ℕ) (h : v < leaves) (l : leaves ≤ 65535) (k : w ≤ 32) where
  -- a whole slot
  pub slot_whole : bits_clear s (v * w) (v * w + w) ≡ slot_clear 0 w (bits s (leaves * w)) v
  slot_whole =
      let e : v * w ≡ v * w + 0 = omega arith in
      ap (λ (a : ℕ). bits_clear s a (v * w + w)) e ∙ sym (slot_bits s (leaves * w) w 0 v (omega arith) (slot_fits leaves w v h l k).0)

  -- what stands behind its first m bits
  pub slot_behind : (m : ℕ) → m < w → bits_clear s (v * w + m) (v * w + w) ≡ slot_clear m w (bits s (leaves * w)) v
  slot_behind m g = sym (slot_bits s (leaves * w) w m v (omega arith) (slot_fits leaves w v h l k).0)
