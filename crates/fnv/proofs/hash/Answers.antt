-- The state and the bytes that are left have the hash of the whole key.
use Rattle.std.proofs.Common.{◌≡◌, ℕ, ◌+◌, length, drop, sym, ap, ◌∙◌, arith}
use Rattle.spec.specs.Bytes.{Bytes}
use Rattle.spec.specs.Fnv.{hash_from, hash}
use Rattle.fnv.specs.HashLaws.{hash_next, hash_end}
use Rattle.fnv.proofs.hash.Goals as goal

pub loop-byte-init : goal.loop-byte-init
unfolding hash
loop-byte-init c =
    ap (λ (x : ℕ). hash_from x c.args.key.now) c.start-fnv.ensures

pub loop-byte-preserved : goal.loop-byte-preserved
loop-byte-preserved c =
    let key : Bytes = c.args.key.now in
    let l = c.loop-byte in
    let i = l.byte-index in
    ap (λ (x : ℕ). hash_from x (drop (i + 1) key)) c.step-fnv.ensures ∙ sym (hash_next l.fnv.state key i (omega arith)) ∙ l.invariant

pub returns : goal.returns
returns c =
    let key : Bytes = c.args.key.now in
    let l = c.loop-byte in
    let e : l.byte-index ≡ length key = omega arith in
    sym (hash_end l.fnv.state key) ∙ ap (λ (i : ℕ). hash_from l.fnv.state (drop i key)) (sym e) ∙ l.invariant
