-- The hash of a key, one byte after the other.
use Rattle.std.specs.Prelude.{◌≡◌, ℕ, ◌+◌, ◌<◌, length, drop, slice_index}
use Rattle.std.proofs.Common.{ap, add-one, drop-cons}
use Rattle.std.proofs.Math.Seq.{drop-length}
use Rattle.spec.specs.Bytes.{Bytes}
use Rattle.spec.specs.Fnv.{hash_step, hash_from}

-- the byte at i is taken next
pub hash_next : (x : ℕ) (k : Bytes) (i : ℕ) → i < length k → hash_from x (drop i k) ≡ hash_from (hash_step x (slice_index k i)) (drop (i + 1) k)
unfolding hash_from
hash_next x k i h = rw (add-one i) (ap (hash_from x) (drop-cons k i 0 h))

-- no byte is left
pub hash_end : (x : ℕ) (k : Bytes) → hash_from x (drop (length k) k) ≡ x
unfolding hash_from
hash_end x k = ap (hash_from x) (drop-length k)
