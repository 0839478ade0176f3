-- Each turn counts on to the next block and writes its entry in the part lent from the table's start.
use native.Mathlib.Omega.{arith}
use native.Mathlib.Nat.{mul-suc, mul_assoc}
use native.Mathlib.Numerals.{add-one}
use mathlib.Core.Path.{◌≡◌, sym, ap, ◌∙◌}
use mathlib.Core.List.{List}
use Prim.Native.Nat.{ℕ, ◌+◌, ◌*◌, ◌-◌}
use Rattle.bits.specs.Bits.{rank, part}
use Rattle.bits.proofs.RankLaws.{rank_zero}
use Rattle.rank_tables.specs.Filling.{filled_none, filled_more}
use Rattle.rank_tables.proofs.rank_write.fill_ranks.Goals as goal

-- the next block starts so many words further
step : (words b : ℕ) → words * (b + 1) ≡ words * b + words
step words b = ap (λ (n : ℕ). words * n) (add-one b) ∙ mul-suc words b

pub loop-b-init : goal.loop-b-init
loop-b-init c =
    (filled_none _ _ _ _ _, omega arith, sym (rank_zero _))

pub loop-b-preserved : goal.loop-b-preserved
loop-b-preserved c =
    let write32 = c.write32 in
    let a = c.args in
    let l = c.loop-b in
    let from : ℕ = a.body.at in
    let m : ℕ = from + a.body.len - from in
    let counted = c.rank_from-r in
    let e : counted.result ≡ rank (part a.out.now from m) (64 * (a.words * l.b)) = counted.ensures ∙ ap (λ (s : List ℕ). rank s (64 * (a.words * l.b))) l.invariant.0.kept in (
      filled_more a.out.now from m a.table _ l.b l.out _ _ (omega (arith, c.requires.behind)) (omega (arith, c.requires.room)) l.invariant.0 (e ∙ ap (rank (part a.out.now from m)) (sym (mul_assoc 64 a.words l.b))) write32.ensures,
      omega (arith, step a.words l.b),
      e,
    )
