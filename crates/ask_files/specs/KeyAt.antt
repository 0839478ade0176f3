-- A key of a question file by position: its length byte and the key behind it. The judge of question files and the reader of a question rest on it.
use Prim.Native.Nat.{ℕ, suc, ◌+◌, ◌-◌, ◌≤◌, ◌<◌}
use Rattle.std.specs.Prelude.{◌≡◌, refl, Bool, true, false, ltb}
use Rattle.std.proofs.Common.{sym, ◌∙◌, drop_of_length-le, drop-cons}
use Rattle.std.proofs.Math.Path.{ap}
use native.Mathlib.Omega.{arith}
use borrow.Author.Tests.{lt-ltb, le-ltb, ltb-true, ltb-false}
use Rattle.std.proofs.Math.ListN.{length, get_or, drop, length-drop}
use Rattle.std.proofs.Math.Seq.{drop-drop}
use Rattle.spec.specs.Bytes.{Bytes}
use Rattle.spec.specs.Questions.{Front, bad, got, read_key}
use Rattle.bits.specs.Bits.{key}

-- a length byte of at most 64 at `at`, and as many bytes behind it
pub record KeyAt (s : Bytes) (at : ℕ) : Type 0 where
  pub inside : at < length s
  pub small : get_or s at 0 ≤ 64
  pub fits : at + 1 + get_or s at 0 ≤ length s

-- what is read is no refusal
pub no_got : {A B : Type 0} {r : ℕ} {a : B} {t : Bytes} → ◌≡◌ {A = Front B} (bad r) (got a t) → A
no_got h = let z : ◌≡◌ {A = ℕ} 0 1 = cc in absurd (omega arith)

module _ (s : Bytes) (at : ℕ) where
  -- 21, no length byte
  pub key_none : length s ≤ at → read_key (drop at s) ≡ bad 21
  unfolding read_key
  key_none h = ap read_key (drop_of_length-le s h)

  module _ (inside : at < length s) where
    -- 22, a length over 64
    pub key_long : 64 < get_or s at 0 → read_key (drop at s) ≡ bad 22
    unfolding read_key
    key_long h = ap read_key (drop-cons s at 0 inside) ∙ rw (lt-ltb 64 (get_or s at 0) h, read_key)

    module _ (small : get_or s at 0 ≤ 64) where
      -- 21, key bytes missing
      pub key_missing : length s - (at + 1) < get_or s at 0 → read_key (drop at s) ≡ bad 21
      unfolding read_key
      key_missing h =
          let m : length (drop (suc at) s) < get_or s at 0 = omega (arith, length-drop (suc at) s) in
          ap read_key (drop-cons s at 0 inside) ∙ rw (le-ltb 64 (get_or s at 0) small, lt-ltb (length (drop (suc at) s)) (get_or s at 0) m, read_key)

  -- a whole key
  pub key_whole : KeyAt s at → read_key (drop at s) ≡ got (key s (at + 1) (get_or s at 0)) (drop (at + 1 + get_or s at 0) s)
  unfolding read_key
  key_whole k =
      let m : get_or s at 0 ≤ length (drop (suc at) s) = omega (arith, length-drop (suc at) s, k.fits) in
      let e : suc at ≡ at + 1 = omega arith in
      let d : drop (suc at) s ≡ drop (at + 1) s = ap (λ (i : ℕ). drop i s) e in
      ap read_key (drop-cons s at 0 k.inside)
      ∙ rw (le-ltb 64 (get_or s at 0) k.small, le-ltb (length (drop (suc at) s)) (get_or s at 0) m, d, drop-drop (get_or s at 0) (at + 1) s, read_key)

-- what a key that is read says of the bytes
pub record KeyRead (s : Bytes) (at : ℕ) (k t : Bytes) : Type 0 where
  pub whole : KeyAt s at
  pub key_is : k ≡ key s (at + 1) (get_or s at 0)
  pub rest_is : t ≡ drop (at + 1 + get_or s at 0) s

-- a key is read where a whole one stands
pub key_read : (s : Bytes) (at : ℕ) (k t : Bytes) → read_key (drop at s) ≡ got k t → KeyRead s at k t
key_read s at k t h = one (ltb at (length s)) refl
  where
    three : at < length s → get_or s at 0 ≤ 64 → (b : Bool) → ltb (length s - (at + 1)) (get_or s at 0) ≡ b → KeyRead s at k t
    three inside small true q = no_got (sym (key_missing s at inside small (ltb-true _ _ q)) ∙ h)
    three inside small false q =
        let l : get_or s at 0 ≤ length s - (at + 1) = ltb-false _ _ q in
        let w : KeyAt s at = record { inside = inside; small = small; fits = omega arith } in
        let e = sym (key_whole s at w) ∙ h in
        record { whole = w; key_is = cc; rest_is = cc }

    two : at < length s → (b : Bool) → ltb 64 (get_or s at 0) ≡ b → KeyRead s at k t
    two inside true q = no_got (sym (key_long s at inside (ltb-true _ _ q)) ∙ h)
    two inside false q = three inside (ltb-false _ _ q) (ltb (length s - (at + 1)) (get_or s at 0)) refl

    one : (b : Bool) → ltb at (length s) ≡ b → KeyRead s at k t
    one true q = two (ltb-true _ _ q) (ltb 64 (get_or s at 0)) refl
    one false q = no_got (sym (key_none s at (ltb-false _ _ q)) ∙ h)
