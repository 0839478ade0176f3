-- The state and the bytes that are left have the hash of the whole key.
use Rattle.std.proofs.Common.{◌≡◌, drop}
use Rattle.spec.specs.Fnv.{hash_from, hash}
use Rattle.fnv.proofs.hash.Given as goal

abbrev pub invariant-loop-byte : goal.invariant-loop-byte
invariant-loop-byte l = hash_from l.fnv.state (drop l.byte-index l.key) ≡ hash l.key
