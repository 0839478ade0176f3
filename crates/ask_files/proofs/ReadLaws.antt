-- A question read part by part: its first key, its upper bound, its letter, its mark.
use mathlib.Core.Path.{◌≡◌, sym, ap, ◌∙◌}
use mathlib.Core.Logic.{◌⊎◌}
use Prim.Native.Nat.{ℕ, ◌+◌, ◌-◌, ◌≤◌}
use native.Mathlib.Omega.{arith}
use lib.ListN.{length, get_or, drop}
use Rattle.spec.specs.Bytes.{Bytes}
use Rattle.spec.specs.Questions.{got}
use Rattle.bits.specs.Bits.{key}
use Rattle.keys.specs.Order.{order}
use Rattle.std.specs.declared.cmp.Ordering.TheVariants.{Less, Equal, Greater}
use Rattle.keys.proofs.OrderLaws.{order_is_below, order_not_below}
use Rattle.ask_files.specs.KeyAt.{KeyAt, key_whole}
use Rattle.ask_files.specs.QuestionAt.{OneKey, TwoKeys, NoKeys, one_bad, one_got, two_bad, two_bad_upper, two_turned, two_got, question_marked}
use Rattle.ask_files.specs.Questions.{part, ReadsKey, ReadsUpper, ReadsBounds, ReadsQuestion}
use Rattle.std.specs.Prelude.{Result, Ok, Err}
use Rattle.image.specs.declared.refusals.Refusal.{Refusal}
use Rattle.image.specs.declared.refusals.Refusal.TheVariants.{BoundsReversed, QuestionMalformed}

-- ---- what each reading says

-- a whole key of n bytes
pub key_end : (s : Bytes) (at n : ℕ) → KeyAt s at → n ≡ get_or s at 0 → ReadsKey s at (Ok (at + 1 + n))
key_end s at n k size =
    let e : n ≡ at + 1 + n - (at + 1) = omega arith in (
      omega arith,
      omega (arith, k.fits),
      key_whole s at k ∙ ap (λ (m : ℕ). got (key s (at + 1) m) (drop (at + 1 + m) s)) (sym size) ∙ ap (λ (m : ℕ). got (key s (at + 1) m) (drop (at + 1 + n) s)) e,
    )

module _ (s : Bytes) (a m : ℕ) where
  -- the upper bound's own number
  pub upper_refused : (r : Refusal) → ReadsKey s m (Err r) → ReadsUpper s a m (Err r)
  upper_refused r k c t h = two_bad_upper c t h k

  module _ (e : ℕ) (k : ReadsKey s m (Ok e)) where
    -- 23, lower bound above upper
    pub upper_turned : order (part s (m + 1) e) (part s a m) ≡ Less → ReadsUpper s a m (Err BoundsReversed)
    upper_turned o c t h = two_turned c t h k.2 (order_is_below (part s (m + 1) e) (part s a m) o)

    -- bounds the right way round
    pub upper_end : (order (part s (m + 1) e) (part s a m) ≡ Equal) ⊎ (order (part s (m + 1) e) (part s a m) ≡ Greater) → ReadsUpper s a m (Ok e)
    upper_end o = (k.0, k.1, λ c t h. two_got c t h k.2 (order_not_below (part s (m + 1) e) (part s a m) o))

module _ (s : Bytes) (at : ℕ) where
  -- the lower bound's own number
  pub bounds_refused : (r : Refusal) → ReadsKey s at (Err r) → ReadsBounds s at (Err r)
  bounds_refused r k c = two_bad c (drop at s) k

  -- the upper bound decides
  pub bounds_read : (m : ℕ) → ReadsKey s at (Ok m) → (r : Result ℕ Refusal) → ReadsUpper s (at + 1) m r → ReadsBounds s at r
  bounds_read m k (Err r) u = λ c. u c (drop at s) k.2
  bounds_read m k (Ok e) u = (part s (at + 1) m, part s (m + 1) e, omega (arith, k.0, u.0), u.1, λ c. u.2 c (drop at s) k.2)

  module _ (two : 2 ≤ length s - at) (mark : get_or s at 0 ≡ 81) where
    -- a letter that asks for one key
    pub one_key_read : OneKey (get_or s (at + 1) 0) → (r : Result ℕ Refusal) → ReadsKey s (at + 2) r → ReadsQuestion s at r
    one_key_read l (Err r) k = question_marked s at two mark ∙ l.1 (drop (at + 2) s) ∙ one_bad l.0 (drop (at + 2) s) k
    one_key_read l (Ok e) k =
        (l.0 (part s (at + 2 + 1) e), omega (arith, k.0), k.1, question_marked s at two mark ∙ l.1 (drop (at + 2) s) ∙ one_got l.0 (drop (at + 2) s) k.2)

    -- a letter that asks for two bounds
    pub two_keys_read : TwoKeys (get_or s (at + 1) 0) → (r : Result ℕ Refusal) → ReadsBounds s (at + 2) r → ReadsQuestion s at r
    two_keys_read l (Err r) k = question_marked s at two mark ∙ l.1 (drop (at + 2) s) ∙ k l.0
    two_keys_read l (Ok e) k = (l.0 k.0 k.1, omega (arith, k.2), k.3, question_marked s at two mark ∙ l.1 (drop (at + 2) s) ∙ k.4 l.0)

    -- 21, a wrong letter
    pub wrong_letter : NoKeys (get_or s (at + 1) 0) → ReadsQuestion s at (Err QuestionMalformed)
    wrong_letter l = question_marked s at two mark ∙ l (drop (at + 2) s)
