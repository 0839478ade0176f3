-- The rest of the hash by a power of two is the number of its low bits.
use mathlib.Core.Path.{◌≡◌, sym, ap, ◌∙◌}
use Prim.Native.Nat.{ℕ, ◌%◌, ◌^◌}
use native.Mathlib.Omega.{arith}
use native.Mathlib.Nat.{mod-one}
use Rattle.spec.specs.Bytes.{Bytes, low_first}
use Rattle.spec.specs.Fnv.{hash}
use Rattle.spec.specs.Leaves.{hash_bits}
use Rattle.bits.proofs.RankLaws.{one_shl}
use Rattle.image.specs.SuffixNumbers.{hash_number}
use Rattle.image.proofs.suffix.hash_number.Goals as goal

pub returns-then-h-eq0 : goal.returns-then-h-eq0
returns-then-h-eq0 c =
    let a = c.args in
    let k : Bytes = a.key.now in
    let z : 0 ≡ a.h = omega (arith, c.if-h-eq0.true) in
    sym (hash_number 0 k ∙ mod-one (hash k)) ∙ ap (λ (h : ℕ). low_first (hash_bits h k)) z

pub returns : goal.returns
returns c =
    let a = c.args in
    let k : Bytes = a.key.now in
    rw (one_shl 64 a.h (omega arith)) (ap (λ (x : ℕ). x % 2 ^ a.h) c.hash.ensures ∙ sym (hash_number a.h k))
