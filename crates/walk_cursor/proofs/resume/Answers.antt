-- An open leaf has a label; its number is one behind.
use mathlib.Core.Path.{◌≡◌, refl, sym, ap, ◌∙◌}
use Prim.Native.Nat.{ℕ, ◌+◌}
use Rattle.std.proofs.Common.{arith, rules}
use Rattle.walk_cursor.proofs.resume.Goals as goal

pub returns-in_default : goal.returns-in_default
returns-in_default c =
    let a = c.args in
    record { exact_end = λ e. (refl, refl); open_end = λ v e. absurd (c.in_default.not-Open v e) }

pub overflow_sub-depth : goal.overflow_sub-depth
overflow_sub-depth c =
    omega (arith, (c.requires _ c.in-Open.is).0)

pub bounds-labels-depth : goal.bounds-labels-depth
bounds-labels-depth c =
    let h = c.requires _ c.in-Open.is in omega (arith, h.0, h.1)

pub returns : goal.returns
returns c =
    let a = c.args in
    let told = c.in-Open.is in
    record { exact_end = λ e. let t = sym told ∙ e in let z : ◌≡◌ {A = ℕ} 0 1 = cc in absurd (omega arith); open_end = λ v e. (refl, ap (λ (x : ℕ). x + 1) c.from.ensures, search rules) }
