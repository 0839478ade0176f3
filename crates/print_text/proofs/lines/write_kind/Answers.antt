use mathlib.Core.Path.{sym, ap}
use mathlib.Core.Bool.{Bool}
use mathlib.Core.List.{[], ◌∷◌}
use Rattle.spec.specs.Bytes.{letter}
use Rattle.print_text.specs.Writing.{written_as}
use Rattle.print_text.specs.Texts.{kind_letter}
use Rattle.print_text.proofs.lines.write_kind.Goals as goal

pub returns-then-exact : goal.returns-then-exact
returns-then-exact c =
    written_as c.write_text.ensures (ap (λ (e : Bool). letter " " ∷ kind_letter e ∷ letter " " ∷ []) (sym c.if-exact.true))

pub returns : goal.returns
returns c =
    written_as c.write_text-2.ensures (ap (λ (e : Bool). letter " " ∷ kind_letter e ∷ letter " " ∷ []) (sym c.if-exact.false))
