-- The four bytes of v modulo 2^32 are those of v.
use Rattle.std.proofs.Common.{◌≡◌, refl, sym, ap, ap₂, ◌∙◌, arith, ℕ, ◌+◌, ◌-◌, ◌/◌, ◌%◌, List, ◌∷◌, ◌++◌, take, drop, drop-drop, append_assoc}
use Rattle.spec.specs.Bytes.{le32}
use Rattle.bits.proofs.numbers.write32.Goals as goal

pub returns : goal.returns
unfolding le32
returns c =
    let a = c.args in
    let v : ℕ = a.v in
    let b₀ : v % 4294967296 % 256 ≡ v % 256 = omega arith in
    let b₁ : v % 4294967296 / 256 % 256 ≡ v / 256 % 256 = omega arith in
    let b₂ : v % 4294967296 / 65536 % 256 ≡ v / 65536 % 256 = omega arith in
    let b₃ : v % 4294967296 / 16777216 % 256 ≡ v / 16777216 % 256 = omega arith in
    let bytes : c.to_le_bytes.result ≡ le32 v = c.to_le_bytes.ensures ∙ ap₂ ◌∷◌ b₀ (ap₂ ◌∷◌ b₁ (ap₂ ◌∷◌ b₂ (ap₂ ◌∷◌ b₃ refl))) in
    let four : a.at + 4 - a.at ≡ 4 = omega arith in
    ap₂ (λ (k : ℕ) (xs : List ℕ). take a.at a.s.now ++ (xs ++ drop k (drop a.at a.s.now))) four (c.copy_from_slice.ensures.after ∙ bytes)
    ∙ sym (append_assoc (take a.at a.s.now) (le32 v) (drop 4 (drop a.at a.s.now)))
    ∙ ap (λ (xs : List ℕ). take a.at a.s.now ++ le32 v ++ xs) (drop-drop 4 a.at a.s.now)
