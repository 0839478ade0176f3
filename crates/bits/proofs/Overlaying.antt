-- Bytes laid over a byte string from an offset on, one piece behind the other, in a part that was lent, and beside what stays: laws for every function that writes into a buffer.
use Rattle.std.specs.Prelude.{ℕ, zero, suc, ◌+◌, ◌-◌, ◌≤◌, ◌<◌, ◌≡◌, refl, [], ◌∷◌, ◌++◌, length, get_or, take, drop, set, replicate}
use Rattle.std.proofs.Common.{sym, ap, ap₂, ◌∙◌, append_assoc, append-nil, arith, add-one, add-zero, drop_of_length-le, length-append, length-drop, take_at, take_all, take-take, drop-drop, length-take-le, take-add, drop-cons}
use borrow.Rule.Slice.PartMut.{put_mid, mid_of, post_of}
use Rattle.std.proofs.lemmas.List.{length-replicate, take-append-le, set_at}
use Rattle.std.proofs.Math.Seq.{drop-append-add}
use Rattle.spec.specs.Bytes.{Bytes, le32}
use Rattle.bits.specs.Bits.{overlaid}

-- overlaying keeps the length
pub length_overlaid : (out : Bytes) (at : ℕ) (xs : Bytes) → at + length xs ≤ length out → length (overlaid out at xs) ≡ length out
length_overlaid out at xs h =
    omega (arith, length-append (take at out ++ xs) (drop (at + length xs) out), length-append (take at out) xs, length-take-le at out (omega arith), length-drop (at + length xs) out)

-- a piece overlaid behind a piece that was overlaid
pub overlaid_overlaid : (out xs ys : Bytes) (at k : ℕ) → k ≡ at + length xs → k ≤ length out → overlaid (overlaid out at xs) k ys ≡ overlaid out at (xs ++ ys)
overlaid_overlaid out xs ys at k e h =
    let p : Bytes = take at out ++ xs in
    let lp : length p ≡ k = length-append (take at out) xs ∙ ap (λ (n : ℕ). n + length xs) (length-take-le at out (omega arith)) ∙ sym e in
    let t : take k (p ++ drop (at + length xs) out) ≡ p = take_at p _ k lp in
    let w : at + length xs + length ys ≡ at + length (xs ++ ys) = omega (arith, length-append xs ys) in
    let d : drop (k + length ys) (p ++ drop (at + length xs) out) ≡ drop (at + length (xs ++ ys)) out =
    ap (λ (n : ℕ). drop (n + length ys) (p ++ drop (at + length xs) out)) (sym lp) ∙ drop-append-add p (drop (at + length xs) out) (length ys)
    ∙ drop-drop (length ys) (at + length xs) out ∙ ap (λ (n : ℕ). drop n out) w in
    ap₂ (λ (a b : Bytes). a ++ ys ++ b) t d ∙ ap (λ (a : Bytes). a ++ drop (at + length (xs ++ ys)) out) (append_assoc (take at out) xs ys)

-- a piece overlaid behind what was overlaid already
pub overlaid_behind : (out o p xs ys : Bytes) (at k : ℕ) → k ≡ at + length xs → k + length ys ≤ length out → o ≡ overlaid out at xs → p ≡ overlaid o k ys → p ≡ overlaid out at (xs ++ ys)
overlaid_behind out o p xs ys at k e h f g = g ∙ ap (λ (z : Bytes). overlaid z k ys) f ∙ overlaid_overlaid out xs ys at k e (omega arith)

-- nothing overlaid
pub overlaid_nil : (out : Bytes) (at : ℕ) → out ≡ overlaid out at []
overlaid_nil out at = sym (ap₂ ◌++◌ (append-nil (take at out)) (ap (λ (n : ℕ). drop n out) (add-zero at)) ∙ joined at out)
  where
    joined : (at : ℕ) (out : Bytes) → take at out ++ drop at out ≡ out
    joined zero out = refl
    joined (suc at) [] = refl
    joined (suc at) (x ∷ out) = ap (λ (z : Bytes). x ∷ z) (joined at out)

-- what stands before the offset is kept
pub take_overlaid : (out xs : Bytes) (m at : ℕ) → m ≤ at → at ≤ length out → take m (overlaid out at xs) ≡ take m out
take_overlaid out xs m at h l =
    ap (take m) (append_assoc (take at out) xs (drop (at + length xs) out)) ∙ take-append-le m (take at out) (xs ++ drop (at + length xs) out) (omega (arith, length-take-le at out l)) ∙ take-take m at out h

-- a number has four bytes
pub length_le32 : (v : ℕ) → length (le32 v) ≡ 4
unfolding le32
length_le32 v = refl

-- ---- a part that was lent

-- a part from k to the end, lent, with xs overlaid in it, and back
pub lent_overlaid : (o xs : Bytes) (k j : ℕ) → k + j + length xs ≤ length o → put_mid k (length o - k) o (overlaid (mid_of k (length o - k) o) j xs) ≡ overlaid o (k + j) xs
lent_overlaid o xs k j h =
    let e : mid_of k (length o - k) o ≡ drop k o = take_all (length o - k) (drop k o) (omega (arith, length-drop k o)) in
    let g : length (drop k o) ≤ length o - k = omega (arith, length-drop k o) in
    let p : post_of k (length o - k) o ≡ [] = drop_of_length-le (drop k o) g in
    let w : k + (j + length xs) ≡ k + j + length xs = omega arith in
    ap₂ (λ (x y : Bytes). take k o ++ (overlaid x j xs ++ y)) e p ∙ ap (λ (x : Bytes). take k o ++ x) (append-nil (overlaid (drop k o) j xs))
    ∙ ap (λ (x : Bytes). take k o ++ (take j (drop k o) ++ xs ++ x)) (drop-drop (j + length xs) k o ∙ ap (λ (n : ℕ). drop n o) w)
    ∙ sym (append_assoc (take k o) (take j (drop k o) ++ xs) (drop (k + j + length xs) o)) ∙ ap (λ (x : Bytes). x ++ drop (k + j + length xs) o) (sym (append_assoc (take k o) (take j (drop k o)) xs) ∙ ap (λ (x : Bytes). x ++ xs) (sym (take-add k j o)))

-- a part from k to the end, lent, with a body of n bytes at its front, and back
pub lent_front : (o ys body : Bytes) (k n : ℕ) → n ≡ length body → k + n ≤ length o → ys ≡ body ++ drop n (mid_of k (length o - k) o) → put_mid k (length o - k) o ys ≡ overlaid o k body
lent_front o ys body k n e h f =
    let u : n ≡ 0 + length body = omega arith in
    let v : k + 0 ≡ k = omega arith in
    ap (put_mid k (length o - k) o) (f ∙ ap (λ (i : ℕ). body ++ drop i (mid_of k (length o - k) o)) u) ∙ lent_overlaid o body k 0 (omega arith) ∙ ap (λ (i : ℕ). overlaid o i body) v

-- ---- cleared bytes

-- one zero more
zeros_more : (i : ℕ) (ys : Bytes) → replicate i 0 ++ 0 ∷ ys ≡ replicate (suc i) 0 ++ ys
zeros_more zero ys = refl
zeros_more (suc i) ys = ap (λ (z : Bytes). 0 ∷ z) (zeros_more i ys)

-- one byte more is cleared
pub cleared_more : (was out : Bytes) (i : ℕ) → i < length was → out ≡ replicate i 0 ++ drop i was → set out i 0 ≡ replicate (i + 1) 0 ++ drop (i + 1) was
cleared_more was out i h e =
    ap (λ (z : Bytes). set z i 0) (e ∙ ap (λ (z : Bytes). replicate i 0 ++ z) (drop-cons was i 0 h)) ∙ set_at (replicate i 0) (get_or was i 0) (drop (suc i) was) 0 i (length-replicate i 0)
    ∙ zeros_more i (drop (suc i) was) ∙ ap (λ (n : ℕ). replicate n 0 ++ drop n was) (sym (add-one i))
