-- The product of two numbers modulo 2^64, from the products of their halves of 32 bits.
use Rattle.std.specs.Prelude.{◌≡◌, ℕ, ◌+◌, ◌*◌, ◌/◌, ◌%◌, ◌^◌}
use Rattle.std.proofs.Common.{sym, ap, ap₂, ◌∙◌, arith}
use Rattle.std.proofs.Math.Nat.{mod-add-mod, add-mod-mod, add-mul-mod_self_left}

-- three terms added one after the other, each sum modulo m
three_terms : (m a b c s r : ℕ) → s ≡ (a + b % m) % m → r ≡ (s + c % m) % m → r ≡ (a + b + c) % m
three_terms m a b c s r e f = f ∙ add-mod-mod s c m ∙ ap (λ (n : ℕ). (n + c) % m) (e ∙ add-mod-mod a b m) ∙ mod-add-mod (a + b) m c

-- the product of the high halves is a multiple of 2^64
four_products : (a b l h : ℕ) → (a * 2 ^ 32 + b) * (h * 2 ^ 32 + l) ≡ b * l + a * l * 2 ^ 32 + b * h * 2 ^ 32 + 2 ^ 64 * (a * h)
four_products a b l h = omega arith

-- x times p, whose halves are l and h, from the three other products
pub product_of_halves : (x p l h s r : ℕ) → s ≡ (x % 2 ^ 32 * l + x / 2 ^ 32 * l * 2 ^ 32 % 2 ^ 64) % 2 ^ 64 → r ≡ (s + x % 2 ^ 32 * h * 2 ^ 32 % 2 ^ 64) % 2 ^ 64 → p ≡ h * 2 ^ 32 + l → r ≡ x * p % 2 ^ 64
product_of_halves x p l h s r e f g =
    let a : ℕ = x / 2 ^ 32 in
    let b : ℕ = x % 2 ^ 32 in
    let k : x ≡ a * 2 ^ 32 + b = omega arith in
    let sum : ℕ = b * l + a * l * 2 ^ 32 + b * h * 2 ^ 32 in
    three_terms (2 ^ 64) (b * l) (a * l * 2 ^ 32) (b * h * 2 ^ 32) s r e f ∙ sym (add-mul-mod_self_left sum (2 ^ 64) (a * h))
    ∙ ap (λ (n : ℕ). n % 2 ^ 64) (sym (ap₂ ◌*◌ k g ∙ four_products a b l h))
