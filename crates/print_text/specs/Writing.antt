-- Text written into a buffer at an offset, piece behind piece.
use Rattle.std.specs.Prelude.{◌≡◌, refl, [], ◌∷◌, ◌++◌, ℕ, ◌+◌, ◌≤◌, ◌<◌, length, take, drop, set}
use Rattle.std.proofs.Common.{ap, ap₂, subst, ◌∙◌, arith, length-append, length-set, take_at}
use Rattle.std.proofs.lemmas.List.Edits.{sets-eq}
use Rattle.spec.specs.Bytes.{Bytes}
use Rattle.bits.specs.Bits.{overlaid}
use Rattle.bits.proofs.Overlaying.{length_overlaid, overlaid_overlaid}

-- `after` is `out` with xs from `at` on, and r is the offset behind xs, at its end at most
pub record Written (out : Bytes) (at : ℕ) (xs after : Bytes) (r : ℕ) : Type 0 where
  pub text : after ≡ overlaid out at xs
  pub next : r ≡ at + length xs
  pub within : r ≤ length after

-- nothing is written
pub written_none : (out : Bytes) (at : ℕ) → at ≤ length out → Written out at [] out at
written_none out at h = record { text = sets-eq [] out at (omega arith); next = omega arith; within = h }

-- bytes are written
pub written_overlaid : (out : Bytes) (at : ℕ) (xs after : Bytes) → at + length xs ≤ length out → after ≡ overlaid out at xs → Written out at xs after (at + length xs)
written_overlaid out at xs after h e = record { text = e; next = refl; within = omega (arith, ap length e, length_overlaid out at xs h) }

-- one byte is stored
pub written_byte : (out : Bytes) (at x : ℕ) → at < length out → Written out at (x ∷ []) (set out at x) (at + 1)
written_byte out at x h = record { text = sets-eq (x ∷ []) out at (omega arith); next = refl; within = simp length-set (omega arith) }

-- one piece behind another
pub written_append : {out mid after xs ys : Bytes} {at m r : ℕ} → at + length xs ≤ length out → Written out at xs mid m → Written mid m ys after r → Written out at (xs ++ ys) after r
written_append {out} {mid} {after} {xs} {ys} {at} h f g =
    record {
      text = g.text ∙ ap₂ (λ (o : Bytes) (k : ℕ). overlaid o k ys) f.text f.next ∙ overlaid_overlaid out xs ys at (at + length xs) refl h;
      next = omega (arith, length-append xs ys);
      within = g.within;
    }

-- the same text, said otherwise
pub written_as : {out after xs ys : Bytes} {at r : ℕ} → Written out at xs after r → xs ≡ ys → Written out at ys after r
written_as {out} {after} {xs} {ys} {at} {r} f e = subst (λ (z : Bytes). Written out at z after r) e f

-- what is written at the front of a buffer stands at its front
pub written_front : {out after xs : Bytes} {r : ℕ} → Written out 0 xs after r → take r after ≡ xs
written_front {out} {after} {xs} {r} w =
    let e : length xs ≡ r = omega arith in
    ap (take r) w.text ∙ take_at xs (drop (0 + length xs) out) r e
