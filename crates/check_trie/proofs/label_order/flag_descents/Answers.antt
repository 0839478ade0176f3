-- The loop: the labels passed are flagged.
use mathlib.Core.Path.{◌∙◌}
use native.Mathlib.Omega.{arith}
use lib.ListN.{length-set}
use Rattle.check_trie.specs.FlagLaws.{flagged_more}
use Rattle.check_trie.proofs.label_order.flag_descents.Goals as goal

pub loop-i-init : goal.loop-i-init
loop-i-init c =
    (omega arith, c.requires.1, λ i h. absurd (omega arith))

pub loop-i-preserved : goal.loop-i-preserved
loop-i-preserved c =
    let l = c.loop-i in
    let a = c.args in
    (omega arith, length-set l.flags l.i c.descent_flag.result ∙ l.invariant.1, flagged_more a.sl.now l.flags a.at l.i c.descent_flag.result (omega (arith, l.invariant.1)) l.invariant.2 c.descent_flag.ensures)

pub returns : goal.returns
returns c =
    let l = c.loop-i in
    (l.invariant.1, λ i h. l.invariant.2 i (omega arith))
