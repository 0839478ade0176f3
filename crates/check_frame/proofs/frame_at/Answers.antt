-- Each start is the one that the header gives, and fits a number.
use mathlib.Core.Path.{refl}
use native.Mathlib.Omega.{arith}
use Rattle.check_frame.specs.FrameLaws.{starts_small, gap_small}
use Rattle.check_frame.proofs.frame_at.Goals as goal

pub overflow_add-width : goal.overflow_add-width
overflow_add-width c =
    let s = c.requires in omega (arith, s.real_range, s.hash_range)

pub overflow_add-result : goal.overflow_add-result
overflow_add-result c =
    rw c.record_starts-starts.ensures (omega (arith, starts_small c.args.h c.requires 0))

pub overflow_add-result-2 : goal.overflow_add-result-2
overflow_add-result-2 c =
    rw c.record_starts-starts.ensures (omega (arith, starts_small c.args.h c.requires 1))

pub overflow_add-result-3 : goal.overflow_add-result-3
overflow_add-result-3 c =
    rw c.record_starts-starts.ensures (omega (arith, starts_small c.args.h c.requires 2))

pub overflow_add-result-4 : goal.overflow_add-result-4
overflow_add-result-4 c =
    rw c.record_starts-starts.ensures (omega (arith, starts_small c.args.h c.requires 3))

pub overflow_add-result-5 : goal.overflow_add-result-5
overflow_add-result-5 c =
    rw c.record_starts-starts.ensures (omega (arith, starts_small c.args.h c.requires 4))

pub overflow_add-result-6 : goal.overflow_add-result-6
overflow_add-result-6 c =
    rw c.record_starts-starts.ensures (omega (arith, starts_small c.args.h c.requires 5))

pub overflow_add-result-7 : goal.overflow_add-result-7
overflow_add-result-7 c =
    rw c.record_starts-starts.ensures (omega (arith, starts_small c.args.h c.requires 6))

pub overflow_add-result-8 : goal.overflow_add-result-8
overflow_add-result-8 c =
    rw c.record_starts-starts.ensures (omega (arith, starts_small c.args.h c.requires 7))

pub overflow_add-result-9 : goal.overflow_add-result-9
overflow_add-result-9 c =
    rw c.record_starts-starts.ensures (omega (arith, starts_small c.args.h c.requires 8))

pub overflow_add-result-10 : goal.overflow_add-result-10
overflow_add-result-10 c =
    rw c.record_starts-starts.ensures (omega (arith, starts_small c.args.h c.requires 9))

pub overflow_add-result-11 : goal.overflow_add-result-11
overflow_add-result-11 c =
    rw c.record_starts-starts.ensures (omega (arith, starts_small c.args.h c.requires 10))

pub overflow_add-result-12 : goal.overflow_add-result-12
overflow_add-result-12 c =
    rw c.record_starts-starts.ensures (omega (arith, starts_small c.args.h c.requires 11))

pub overflow_add-result-13 : goal.overflow_add-result-13
overflow_add-result-13 c =
    rw c.record_starts-starts.ensures (omega (arith, starts_small c.args.h c.requires 12, gap_small c.args.h.version, c.level_gap.ensures))

pub returns : goal.returns
returns c =
    rw (c.record_starts-starts.ensures, c.level_gap.ensures) refl
