use Rattle.query_seek.proofs.NextLaws.{overlaid_front}
use Rattle.query_seek.proofs.SeekLaws.{greater_above, greater_not_above}
use Rattle.bits.proofs.Overlaying.{length_overlaid}
use lib.ListN.{length, take}
use native.Mathlib.Omega.{arith}
use mathlib.Core.Path.{sym, ap, ◌∙◌}
use Rattle.query_seek.proofs.seek.greater_key.Goals as goal

pub returns-in_default : goal.returns-in_default
returns-in_default c =
    let a = c.args in
    let p = c.requires in
    (greater_not_above a.start.now (take a.n a.key.now) (λ e. c.in_default.not-Greater (c.compare.ensures ∙ e)), p.2, p.1)

pub returns-in-Greater : goal.returns-in-Greater
returns-in-Greater c =
    let a = c.args in
    let p = c.requires in
    let written = c.write_start.ensures in (
      ap (take (length a.start.now)) written ∙ overlaid_front a.key.now a.start.now ∙ greater_above a.start.now (take a.n a.key.now) (sym c.compare.ensures ∙ c.in-Greater.is),
      p.0,
      ap length written ∙ length_overlaid a.key.now 0 a.start.now (omega (arith, p.0, p.1)) ∙ p.1,
    )
