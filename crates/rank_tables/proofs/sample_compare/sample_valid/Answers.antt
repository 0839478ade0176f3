-- Each test of the entry says that it is not the position sought, and the last one, its bit, that it is.
use Prim.Native.Nat.{ℕ, ◌+◌, ◌*◌, min}
use mathlib.Core.Path.{ap, ◌∙◌}
use native.Mathlib.Omega.{arith}
use lib.Dec.{eqb}
use Rattle.bits.proofs.RankLaws.{rank_le}
use Rattle.rank_tables.specs.Tables.{sample_early, sample_late, sample_past, sample_other, sample_bit}
use Rattle.rank_tables.proofs.sample_compare.sample_valid.Goals as goal

pub overflow_mul-t : goal.overflow_mul-t
overflow_mul-t c =
    let a = c.args in let h = c.requires in omega (arith, h.high, h.short, rank_le a.s.now (min (64 * a.q + 64) a.n))

pub overflow_add-t : goal.overflow_add-t
overflow_add-t c =
    let a = c.args in let h = c.requires in omega (arith, h.high, h.short, rank_le a.s.now (min (64 * a.q + 64) a.n))

pub returns-then-p-q : goal.returns-then-p-q
returns-then-p-q c =
    let pre = c.requires in
    let read32 = c.read32-p in
    let a = c.args in
    sample_early a.s.now a.n a.q a.before a.t (pre) a.table.now read32.result read32.ensures.0 c.if-p-q.true

pub returns-then-j-ge64 : goal.returns-then-j-ge64
returns-then-j-ge64 c =
    let pre = c.requires in
    let read32 = c.read32-p in
    let a = c.args in
    sample_late a.s.now a.n a.q a.before a.t (pre) a.table.now read32.result read32.ensures.0 c.if-p-q.false c.if-j-ge64.true

pub returns-then-n-p : goal.returns-then-n-p
returns-then-n-p c =
    let pre = c.requires in
    let read32 = c.read32-p in
    let a = c.args in
    sample_past a.s.now a.n a.q a.before a.t (pre) a.table.now read32.result read32.ensures.0 c.if-n-p.true

pub overflow_mul-t-3 : goal.overflow_mul-t-3
overflow_mul-t-3 c =
    let a = c.args in let h = c.requires in omega (arith, h.high, h.short, rank_le a.s.now (min (64 * a.q + 64) a.n))

pub returns-then-ones_before-t : goal.returns-then-ones_before-t
returns-then-ones_before-t c =
    let pre = c.requires in
    let read32 = c.read32-p in
    let if2 = c.if-p-q in
    let ones-before = c.ones_before in
    let a = c.args in
    sample_other a.s.now a.n a.q a.before a.t (pre) a.table.now read32.result read32.ensures.0 ones-before.result if2.false ones-before.ensures.0 c.if-ones_before-t.true

pub returns : goal.returns
returns c =
    let pre = c.requires in
    let if1 = c.if-table-t in
    let read32 = c.read32-p in
    let if2 = c.if-p-q in
    let if4 = c.if-n-p in
    let ones-before = c.ones_before in
    let a = c.args in
    ap (λ (x : ℕ). eqb x 1) c.bit_at.ensures
    ∙ sample_bit a.s.now a.n a.q a.before a.t (pre) a.table.now read32.result read32.ensures.0 ones-before.result if2.false ones-before.ensures.0 if1.false if4.false c.if-ones_before-t.false
