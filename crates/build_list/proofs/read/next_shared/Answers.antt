-- By cases of a record behind.
use Rattle.build_laws.specs.KeyLaws.{behind_none, behind_some}
use Rattle.build_list.proofs.read.next_shared.Goals as goal

pub returns-then-end-s : goal.returns-then-end-s
returns-then-end-s c =
    let a = c.args in
    behind_some a.s.now a.a a.n _ _ c.if-end-s.true c.from.ensures c.shared_fronts.ensures

pub returns : goal.returns
returns c =
    let a = c.args in
    behind_none a.s.now a.a a.n c.if-end-s.false
