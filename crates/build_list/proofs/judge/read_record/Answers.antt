-- A whole record, by all that was tested.
use Rattle.build_list.specs.RecordLaws.{read_whole}
use native.Mathlib.Omega.{arith}
use Rattle.build_list.proofs.judge.read_record.Goals as goal

pub returns : goal.returns
returns c =
    let a = c.args in
    let n = c.from-n in
    read_whole a.s.now a.at a.done (omega arith) c.if-done-eq-MAX_KEYS.false c.if-s-at-lt-BEFORE_KEY.false c.if-s-at-ne75.false c.if-s-at-ne89.false n.result n.ensures c.if-n-eq0.false (omega arith) (omega arith) c.if-s-at.false
