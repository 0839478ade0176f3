-- The starts, or none where the labels say that none of them is an exact leaf's.
use native.Mathlib.Omega.{arith}
use Rattle.check_slots.specs.SparseWords.{all_kept, none_kept, starts_kept}
use Rattle.check_slots.proofs.node_starts.candidates.Goals as goal

pub returns-then-starts-eq0 : goal.returns-then-starts-eq0
returns-then-starts-eq0 c =
    let a = c.args in
    let s = c.several-starts in
    rw c.if-starts-eq0.true at (starts_kept a.sl.now a.sb.now a.q s.result s.result s.ensures (all_kept a.sl.now a.q s.result s.ensures.few))

pub returns-then-none_full : goal.returns-then-none_full
returns-then-none_full c =
    let a = c.args in
    let s = c.several-starts in
    starts_kept a.sl.now a.sb.now a.q s.result _ s.ensures (none_kept a.sl.now a.q s.result (λ j l d e. omega (arith, c.none_full.ensures c.if-none_full.true j l)))

pub returns : goal.returns
returns c =
    let a = c.args in
    let s = c.several-starts in
    starts_kept a.sl.now a.sb.now a.q s.result _ s.ensures c.from_full.ensures
