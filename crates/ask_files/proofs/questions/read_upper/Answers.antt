-- The upper bound is read, and the order of the two bounds decides.
use mathlib.Core.Path.{sym, ◌∙◌}
use mathlib.Core.Logic.{inl, inr}
use Rattle.std.proofs.lemmas.Result.{err_from_is_err_and}
use Rattle.ask_files.proofs.ReadLaws.{upper_refused, upper_turned, upper_end}
use Rattle.ask_files.proofs.questions.read_upper.Goals as goal

pub returns-in_err-end : goal.returns-in_err-end
returns-in_err-end c =
    let a = c.args in
    let p = err_from_is_err_and c.from_residual.result c.from_residual.ensures.1 in
    rw (p.1, p.2) (upper_refused a.s.now a.lower a.middle _ c.in_err-end.ensures)

pub returns-in-Less : goal.returns-in-Less
returns-in-Less c =
    let a = c.args in
    upper_turned a.s.now a.lower a.middle c.in_ok-end.end c.in_ok-end.ensures (sym c.compare.ensures ∙ c.in-Less.is)

pub returns-in-Equal : goal.returns-in-Equal
returns-in-Equal c =
    let a = c.args in
    upper_end a.s.now a.lower a.middle c.in_ok-end.end c.in_ok-end.ensures (elim c.in-Equal.is [ inl h ↦ inl (sym c.compare.ensures ∙ h) | inr h ↦ inr (sym c.compare.ensures ∙ h) ])
