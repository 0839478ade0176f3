use mathlib.Core.Path.{sym, ap, ◌∙◌}
use mathlib.Core.Bool.{Bool, cond}
use Prim.Native.Nat.{◌+◌, ◌-◌}
use borrow.Author.Tests.{lt-ltb, le-ltb}
use Rattle.spec.specs.Bytes.{letter}
use Rattle.print_text.specs.Texts.{hex_digit_is}
use Rattle.print_text.proofs.digits.hex_digit.Goals as goal

pub returns-then-x-lt10 : goal.returns-then-x-lt10
returns-then-x-lt10 c =
    ap (λ (b : Bool). cond b (letter "0" + c.args.x) (letter "A" + (c.args.x - 10))) (sym (lt-ltb c.args.x 10 c.if-x-lt10.true)) ∙ sym (hex_digit_is c.args.x)

pub returns : goal.returns
returns c =
    ap (λ (b : Bool). cond b (letter "0" + c.args.x) (letter "A" + (c.args.x - 10))) (sym (le-ltb c.args.x 10 c.if-x-lt10.false)) ∙ sym (hex_digit_is c.args.x)
