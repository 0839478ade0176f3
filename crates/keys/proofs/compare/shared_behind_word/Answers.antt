use mathlib.Core.Path.{sym, ◌∙◌}
use native.Mathlib.Omega.{arith}
use Rattle.keys.proofs.PrefixLaws.{fronts_shared}
use Rattle.keys.proofs.compare.shared_behind_word.Goals as goal

pub returns-then-i-lt-WINDOW : goal.returns-then-i-lt-WINDOW
returns-then-i-lt-WINDOW c =
    let a = c.args in
    sym (fronts_shared a.n a.m a.p.now a.q.now ∙ omega arith)
