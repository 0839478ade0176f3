use mathlib.Core.Path.{sym, ◌∙◌}
use native.Mathlib.Omega.{arith}
use Rattle.keys.proofs.PrefixLaws.{fronts_shared}
use Rattle.keys.proofs.compare.shared_fronts.Goals as goal

pub returns-then-first-lt8 : goal.returns-then-first-lt8
returns-then-first-lt8 c =
    let a = c.args in
    sym (fronts_shared a.n a.m a.p.now a.q.now ∙ omega arith)
