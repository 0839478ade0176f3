-- A leaf whose slot has no bits has the suffix of every key.
use Rattle.std.proofs.Common.{◌≡◌, ℕ, ◌<◌, true, ◌&&◌, drop, sym, ap₂, arith}
use Rattle.spec.specs.Bytes.{Bytes}
use Rattle.image.specs.declared.AcceptedImage.{AcceptedImage}
use Rattle.nav_nodes.specs.Accepted.{nodes, hash_slot, real_slot}
use Rattle.nav_nodes.specs.FromCheck.{accepted}
use Rattle.nav_nodes.specs.Slots.{slot_of}
use Rattle.query_descent.specs.SuffixBits.{suffix_none, hash_none}
use Rattle.query_descent.specs.SuffixBytes.{real_length, hash_length}
use Rattle.query_point.specs.Rules.{slot_has}

pub no_suffix_bits : (image : AcceptedImage) (v : ℕ) (k : Bytes) (d : ℕ) → v < image.frame.leaves → image.frame.width ≡ 0
    → true ≡ slot_has image.frame.hash_width k (slot_of image.frame.width (nodes image.bytes.now image.frame) v) (drop d k)
no_suffix_bits image v k d l z =
    let s = image.bytes.now in
    let f = image.frame in
    let a = accepted image in
    let n = real_length s f a v l in
    let h = hash_length s f a v l in
    sym (ap₂ ◌&&◌ (suffix_none (real_slot s f v) (drop d k) (omega (arith, n, z, a.width_is))) (hash_none (hash_slot s f v) f.hash_width k (omega (arith, h, z, a.width_is)) (omega (arith, z, a.width_is))))
