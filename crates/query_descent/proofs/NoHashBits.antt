-- A leaf without hash bits has those of every key.
use Rattle.std.proofs.Common.{◌≡◌, ℕ, ◌<◌, true, sym, arith}
use Rattle.spec.specs.Bytes.{Bytes, same_bits}
use Rattle.spec.specs.Leaves.{hash_bits}
use Rattle.image.specs.declared.AcceptedImage.{AcceptedImage}
use Rattle.nav_nodes.specs.Accepted.{hash_slot}
use Rattle.nav_nodes.specs.FromCheck.{accepted}
use Rattle.query_descent.specs.SuffixBits.{hash_none}
use Rattle.query_descent.specs.SuffixBytes.{hash_length}

pub no_hash_bits : (image : AcceptedImage) (v : ℕ) (k : Bytes) → v < image.frame.leaves → image.frame.hash_width ≡ 0
    → true ≡ same_bits (hash_bits image.frame.hash_width k) (hash_slot image.bytes.now image.frame v)
no_hash_bits image v k l z =
    let f = image.frame in
    let s = image.bytes.now in
    sym (hash_none (hash_slot s f v) f.hash_width k (omega (arith, hash_length s f (accepted image) v l, z)) z)
