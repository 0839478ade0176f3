-- The first nodes of the levels passed stand at the front, and the sum is that of their nodes.
use Prim.Native.Nat.{ℕ, ◌+◌}
use mathlib.Core.Path.{refl, sym, ap, ◌∙◌}
use lib.ListN.{length, get_or}
use Rattle.bits.specs.Bits.{overlaid}
use Rattle.bits.proofs.Overlaying.{overlaid_nil, overlaid_behind}
use Rattle.build_laws.specs.Cursors.{sums, sums_none}
use Rattle.build_passes.specs.CounterSums.{sums_in, sums_le}
use Rattle.build_records.specs.LevelRecord.{start_bytes, starts_below, starts_none, starts_more, starts_longer, starts_le, start_length}
use Rattle.build_laws.specs.Limits.{counters}
use native.Mathlib.Omega.{arith}
use Rattle.build_records.proofs.levels.fill_starts.Goals as goal

pub loop-d-init : goal.loop-d-init
loop-d-init c =
    let a = c.args in
    (omega arith, sym (sums_none a.nodes.now 0), sym (ap length (starts_none a.nodes.now)), refl, overlaid_nil a.out.now 0 ∙ ap (overlaid a.out.now 0) (sym (starts_none a.nodes.now)))

pub overflow_add-next : goal.overflow_add-next
overflow_add-next c =
    let nodes = c.args.nodes.now in
    let l = c.loop-d in
    omega (arith, c.requires.0, l.invariant.1, sums_in nodes 0 l.d (omega arith), sums_le nodes 0 (l.d + 1) counters (omega arith))

pub write_start-requires : goal.write_start-requires
write_start-requires c =
    let nodes = c.args.nodes.now in
    let l = c.loop-d in
    omega (arith, c.requires.1, l.invariant.2, l.invariant.3, starts_longer nodes l.d, starts_le nodes (l.d + 1) 64 (omega arith))

pub overflow_add-at : goal.overflow_add-at
overflow_add-at c =
    let nodes = c.args.nodes.now in
    let l = c.loop-d in
    omega (arith, c.start_size-at.ensures, l.invariant.2, c.requires.1, starts_longer nodes l.d, starts_le nodes (l.d + 1) 64 (omega arith))

pub loop-d-preserved : goal.loop-d-preserved
loop-d-preserved c =
    let a = c.args in
    let nodes = a.nodes.now in
    let l = c.loop-d in
    let w = get_or nodes l.d 0 in
    let start = c.write_start in
    let more = starts_longer nodes l.d in
    let room = starts_le nodes (l.d + 1) 64 (omega arith) in (
      omega arith,
      omega (arith, l.invariant.1, sums_in nodes 0 l.d (omega arith)),
      omega (arith, c.start_size-at.ensures, l.invariant.2, more),
      omega (arith, start.auto.out, l.invariant.3),
      overlaid_behind a.out.now l.out _ (starts_below nodes l.d) (start_bytes w (sums nodes 0 l.d)) 0 l.at (omega (arith, l.invariant.2)) (omega (arith, c.requires.1, l.invariant.2, more, room, start_length w (sums nodes 0 l.d))) l.invariant.4
          (start.ensures ∙ ap (λ (n : ℕ). overlaid l.out l.at (start_bytes w n)) (l.invariant.1))
          ∙ ap (overlaid a.out.now 0) (sym (starts_more nodes l.d)),
    )
