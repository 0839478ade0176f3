-- A part of a byte string: its bytes and bits, and the ranks in it.
use Rattle.std.specs.Prelude.{◌≡◌, Bool, true, false, length, get_or, drop, ltb}
use Rattle.std.proofs.Math.Path.{refl, ap₂}
use Rattle.std.proofs.Common.{ap, ◌∙◌, arith, length-take, get_or-take, get_or-drop, ltb-true, ltb-false}
use Prim.Native.Nat.{ℕ, zero, suc, ◌+◌, ◌*◌, ◌-◌, ◌/◌, ◌≤◌, ◌<◌}
use Rattle.std.proofs.Math.ListN.{get_or-eq_default}
use Rattle.spec.specs.Bytes.{Bytes, blocks}
use Rattle.bits.specs.Bits.{rank, part}
use Rattle.bits.proofs.ValueLaws.{Small}

module _ (s : Bytes) (at k : ℕ) where
  -- its bytes are those from the offset on
  pub byte_part : (i : ℕ) → i < k → get_or (part s at k) i 0 ≡ get_or s (at + i) 0
  byte_part i h = get_or-take k (drop at s) i 0 h ∙ get_or-drop at s i 0

  -- each is below 256
  pub small_part : Small s → Small (part s at k)
  small_part h i = go (ltb i k) refl
    where
      go : (b : Bool) → ltb i k ≡ b → get_or (part s at k) i 0 < 256
      go true e = rw (byte_part i (ltb-true i k e)) (h (at + i))
      go false e =
          let l : length (part s at k) ≤ i = omega (arith, ltb-false i k e, length-take k (drop at s)) in
          rw (get_or-eq_default (part s at k) 0 l) (omega arith)

  -- the ones before one of its bits are those from the offset on
  pub rank_part : (i : ℕ) → i ≤ 8 * k → rank (part s at k) i ≡ rank (drop at s) i
  unfolding rank
  rank_part zero h = refl
  rank_part (suc i) h = ap₂ ◌+◌ (rank_part i (omega arith)) (rw (get_or-take k (drop at s) (i / 8) 0 (omega arith)))

-- the length of a part by its ends
pub by_end : (at k : ℕ) → at + k - at ≡ k
by_end at k = omega arith

-- as many bytes as n bits need hold n bits
pub bits_room : (n : ℕ) (s : Bytes) → length s ≡ blocks 8 n → n ≤ 8 * length s
bits_room n s h = omega arith

-- a part that was lent, by a length that is known
pub lent_part : (s : Bytes) (at : ℕ) {r : Bytes} {k n : ℕ} → r ≡ part s at k → k ≡ n → r ≡ part s at n
lent_part s at e h = e ∙ ap (λ (j : ℕ). part s at j) h
