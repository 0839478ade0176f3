-- What the keys left do gives what all keys do, and there is room for it.
use Prim.Native.Nat.{ℕ, ◌+◌}
use mathlib.Core.Path.{subst, sym}
use lib.ListN.{length}
use Rattle.spec.specs.Keys.{keys_of}
use Rattle.build_laws.specs.BytePass.{ByteState, byte_state}
use Rattle.build_laws.specs.Passes.{key_bytes, pass_keys, KeyRoomOf}
use Rattle.build_passes.specs.ListPass.{Filling, fill_key, fill_reads, fill_done, fill_start}
use native.Mathlib.Omega.{arith}
use Rattle.build_passes.proofs.fill.make_pass.Goals as goal

pub loop-at-init : goal.loop-at-init
loop-at-init g c =
    let a = c.args in
    fill_start (g.W.KeyWriter.pass a.writer.now) a.s.now (length a.out.now) (byte_state a.out.now a.cur.now) c.requires.accepted_list c.told-cur c.requires.pass_room

pub read_key-k-requires : goal.read_key-k-requires
read_key-k-requires g c =
    let a = c.args in
    let l = c.loop-at in
    fill_reads (g.W.KeyWriter.pass a.writer.now) a.s.now (length a.out.now) l.at l.first (byte_state l.out l.cur) _ c.loop-at-test.true l.invariant

pub write-requires : goal.write-requires
write-requires g c =
    let a = c.args in
    let l = c.loop-at in
    let k = c.read_key-k.result in
    let t = fill_key (g.W.KeyWriter.pass a.writer.now) a.s.now (length a.out.now) l.at l.first (byte_state l.out l.cur) _ k c.read_key-k.ensures c.loop-at-test.true l.invariant in
    (t.listed, subst (λ (i : ℕ). KeyRoomOf (g.W.KeyWriter.pass a.writer.now) k (key_bytes a.s.now k) i l.cur) (sym l.auto.out) t.room)

pub overflow_add-first : goal.overflow_add-first
overflow_add-first g c =
    let l = c.loop-at in
    let t = fill_key (g.W.KeyWriter.pass c.args.writer.now) c.args.s.now (length c.args.out.now) l.at l.first (byte_state l.out l.cur) _ c.read_key-k.result c.read_key-k.ensures c.loop-at-test.true l.invariant in
    omega (arith, t.listed.numbers.behind, t.listed.numbers.size)

pub loop-at-preserved : goal.loop-at-preserved
loop-at-preserved g c =
    let a = c.args in
    let l = c.loop-at in
    let k = c.read_key-k.result in
    let p = g.W.KeyWriter.pass a.writer.now in
    let final = pass_keys p 0 (keys_of a.s.now) (byte_state a.out.now a.cur.now) in
    let t = fill_key p a.s.now (length a.out.now) l.at l.first (byte_state l.out l.cur) final k c.read_key-k.ensures c.loop-at-test.true l.invariant in
    subst (λ (z : ByteState). Filling p a.s.now (length a.out.now) (k.at + k.len) (k.next + 1) z final) (sym c.write.ensures) t.behind

pub returns : goal.returns
returns g c =
    let a = c.args in
    let l = c.loop-at in
    fill_done (g.W.KeyWriter.pass a.writer.now) a.s.now (length a.out.now) l.at l.first (byte_state l.out l.cur) _ c.loop-at-test.false l.invariant
