-- The lines of leaves, part behind part.
use Rattle.std.specs.Prelude.{ℕ, zero, suc, ◌+◌, ◌-◌, ◌≤◌, ◌<◌, ◌≡◌, List, [], ◌∷◌, ◌++◌, length, take, drop, get_or}
use Rattle.std.proofs.Common.{sym, ap, ap₂, ◌∙◌, arith, length-drop, take-append-drop, drop-drop, length-take-le}
use Rattle.std.proofs.Math.Option.{some}
use Rattle.std.proofs.Math.ListN.{get_elem?}
use Rattle.spec.specs.Bytes.{Bytes}
use Rattle.spec.specs.Leaves.{Leaf}
use Rattle.spec.specs.Print.{line, lines}
use Rattle.print_text.specs.Texts.{lines_none, lines_append, lines_more}

-- the lines of the leaves from number i on, up to but without number k
abbrev pub lines_between : List Leaf → ℕ → ℕ → Bytes
lines_between ls i k = lines i (take (k - i) (drop i ls))

-- a leaf that is found at a place
pub leaf_found : (ls : List Leaf) (i : ℕ) (l : Leaf) → get_elem? ls i ≡ some l → (i < length ls) × (get_or ls i l ≡ l)
leaf_found [] i l e = let z : ◌≡◌ {A = ℕ} 0 1 = cc in absurd (omega arith)
leaf_found (x ∷ ls) zero l e = (omega arith, cc)
leaf_found (x ∷ ls) (suc i) l e = let r = leaf_found ls i l e in (omega arith, r.1)

-- no leaves, no lines
pub between_none : (ls : List Leaf) (i : ℕ) → lines_between ls i i ≡ []
between_none ls i =
    let e : i - i ≡ 0 = omega arith in
    ap (λ (n : ℕ). lines i (take n (drop i ls))) e ∙ lines_none i

-- the line of one leaf more
pub between_more : (ls : List Leaf) (i k : ℕ) (l : Leaf) → i ≤ k → get_elem? ls k ≡ some l → lines_between ls i (k + 1) ≡ lines_between ls i k ++ line k l
between_more ls i k l h e =
    let r = leaf_found ls k l e in
    let n : k + 1 - i ≡ suc (k - i) = omega arith in
    let m : i + (k - i) ≡ k = omega arith in
    ap (λ (j : ℕ). lines i (take j (drop i ls))) n ∙ lines_more ls l i (k - i) (omega (arith, r.0))
    ∙ ap (λ (j : ℕ). lines_between ls i k ++ line j (get_or ls j l)) m ∙ ap (λ (x : Leaf). lines_between ls i k ++ line k x) r.1

-- the lines up to number k, and then those from there on
pub between_rest : (ls : List Leaf) (i k : ℕ) → i ≤ k → k ≤ length ls → lines_between ls i k ++ lines k (drop k ls) ≡ lines i (drop i ls)
between_rest ls i k h n =
    let m : i + (k - i) ≡ k = omega arith in
    let t : length (take (k - i) (drop i ls)) ≡ k - i = length-take-le (k - i) (drop i ls) (omega (arith, length-drop i ls)) in
    let d : drop (k - i) (drop i ls) ≡ drop k ls = drop-drop (k - i) i ls ∙ ap (λ (j : ℕ). drop j ls) m in
    let a : i + length (take (k - i) (drop i ls)) ≡ k = omega arith in
    ap₂ (λ (j : ℕ) (xs : List Leaf). lines_between ls i k ++ lines j xs) (sym a) (sym d)
    ∙ sym (lines_append i (take (k - i) (drop i ls)) (drop (k - i) (drop i ls))) ∙ ap (lines i) (take-append-drop (k - i) (drop i ls))
