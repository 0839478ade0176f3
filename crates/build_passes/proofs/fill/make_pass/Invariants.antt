-- What the keys left do gives what all keys do, and there is room for it.
use Prim.Native.Nat.{◌-◌}
use lib.ListN.{length}
use Rattle.spec.specs.Keys.{keys_of}
use Rattle.build_laws.specs.BytePass.{byte_state}
use Rattle.build_laws.specs.Passes.{pass_keys}
use Rattle.build_passes.specs.ListPass.{Filling}
use Rattle.build_passes.proofs.fill.make_pass.Given as goal

abbrev pub invariant-loop-at : goal.invariant-loop-at
invariant-loop-at g l = let p = g.W.KeyWriter.pass l.writer in Filling p l.s (length l.initial.out) l.at l.first (byte_state l.out l.cur) (pass_keys p 0 (keys_of l.s) (byte_state l.initial.out l.initial.cur))

abbrev pub decreases-loop-at : goal.decreases-loop-at
decreases-loop-at g l = length l.s - l.at
