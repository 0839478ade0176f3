-- A body of bits in bytes: bytes that were zero, with bits set at the positions of the ones, are the packed bits. Used by the bodies of bits.
use Rattle.std.specs.Prelude.{ℕ, zero, suc, ◌+◌, ◌-◌, ◌*◌, ◌<◌, ◌≡◌, refl, false, List, [], ◌∷◌, ◌++◌, length, get_or, take, drop, replicate}
use Rattle.std.proofs.Common.{sym, ap, ap₂, ◌∙◌, append_assoc, arith, length-drop, take-append-drop}
use Rattle.std.proofs.lemmas.List.{replicate-append-replicate}
use Rattle.spec.specs.Bytes.{Bytes, Bits, blocks, low_first, pack, low_bits, unpack}
use Rattle.spec.specs.Image.{has, positions}
use Rattle.spec.specs.Check.{no_spare}
use Rattle.build_laws.specs.SetBits.{set_bits, set_zeros}
use Rattle.theory.proofs.Lists.{bytes_append}
use Rattle.theory.specs.Terms.{IsBytes}
use Rattle.theory.proofs.Bits.{low_first_bits, unpack_pack as bits-pack, length_unpack, length_pack, clear_is_replicate}
use Rattle.theory.proofs.ImageBytes.{bytes_pack}

-- bytes whose every member is below 256
pub small_of : (s : Bytes) → ((i : ℕ) → get_or s i 0 < 256) → IsBytes s
small_of [] f = tt
small_of (x ∷ s) f = (f 0, small_of s (λ i. f (suc i)))

-- the bits of two lists of bytes
pub unpack_append : (a b : Bytes) → unpack (a ++ b) ≡ unpack a ++ unpack b
unfolding unpack
unpack_append [] b = refl
unpack_append (x ∷ a) b = ap (λ (z : Bits). low_bits 8 x ++ z) (unpack_append a b) ∙ sym (append_assoc (low_bits 8 x) (unpack a) (unpack b))

-- the bits of zeros
pub unpack_zeros : (m : ℕ) → unpack (replicate m 0) ≡ replicate (8 * m) false
unfolding unpack low_bits
unpack_zeros zero = refl
unpack_zeros (suc m) =
    let w : 8 * suc m ≡ suc (suc (suc (suc (suc (suc (suc (suc (8 * m)))))))) = omega arith in
    rw w (ap (λ (z : Bits). false ∷ false ∷ false ∷ false ∷ false ∷ false ∷ false ∷ false ∷ z) (unpack_zeros m))

-- bytes are given by their bits
pub unpack_same : (a b : Bytes) → IsBytes a → IsBytes b → unpack a ≡ unpack b → a ≡ b
unfolding unpack low_bits
unpack_same [] [] p q e = refl
unpack_same [] (y ∷ b) p q e = let w = ap length e in absurd (omega (arith, w))
unpack_same (x ∷ a) [] p q e = let w = ap length e in absurd (omega (arith, w))
unpack_same (x ∷ a) (y ∷ b) p q e =
    ap₂ ◌∷◌ (sym (low_first_bits 8 x p.0) ∙ ap (λ (z : Bits). low_first (take 8 z)) e ∙ low_first_bits 8 y q.0) (unpack_same a b p.1 q.1 (ap (drop 8) e))

-- packed bits, and zeros up to the byte's end
pub unpack_pack : (bs : Bits) → unpack (pack bs) ≡ bs ++ replicate (8 * blocks 8 (length bs) - length bs) false
unfolding no_spare
unpack_pack bs =
    let t = bits-pack bs in
    let w : length (drop (length bs) (unpack (pack bs))) ≡ 8 * blocks 8 (length bs) - length bs =
    length-drop (length bs) (unpack (pack bs)) ∙ ap (λ (k : ℕ). k - length bs) (length_unpack (pack bs) ∙ ap (λ (k : ℕ). 8 * k) (length_pack bs)) in
    sym (take-append-drop (length bs) (unpack (pack bs))) ∙ ap₂ ◌++◌ t.0 (clear_is_replicate (drop (length bs) (unpack (pack bs))) t.1 ∙ ap (λ (k : ℕ). replicate k false) w)

begun : (n : ℕ) → n + (8 * blocks 8 n - n) ≡ 8 * blocks 8 n
begun n = omega arith

-- Bytes that were zero, as many as bs begins, with bits set at just the positions of the ones of bs, are bs packed; what lies behind is as it was.
pub filled_body : (bs : Bits) (is : List ℕ) (o rest : Bytes) → IsBytes o → IsBytes rest → ((j : ℕ) → has is j ≡ has (positions 0 bs) j)
    → unpack o ≡ set_bits is (unpack (replicate (blocks 8 (length bs)) 0 ++ rest)) → o ≡ pack bs ++ rest
filled_body bs is o rest p q f e =
    let m : ℕ = blocks 8 (length bs) in
    let z : ℕ = 8 * m - length bs in
    let zeros : unpack (replicate m 0 ++ rest) ≡ replicate (length bs) false ++ (replicate z false ++ unpack rest) =
    unpack_append (replicate m 0) rest ∙ ap (λ (b : Bits). b ++ unpack rest) (unpack_zeros m ∙ ap (λ (k : ℕ). replicate k false) (sym (begun (length bs))) ∙ sym (replicate-append-replicate (length bs) z false))
    ∙ append_assoc (replicate (length bs) false) (replicate z false) (unpack rest) in
    unpack_same o (pack bs ++ rest) p (bytes_append (pack bs) rest (bytes_pack bs) q)
    (e ∙ ap (set_bits is) zeros ∙ set_zeros is bs (replicate z false ++ unpack rest) f
    ∙ sym (unpack_append (pack bs) rest ∙ ap (λ (b : Bits). b ++ unpack rest) (unpack_pack bs) ∙ append_assoc bs (replicate z false) (unpack rest)))
