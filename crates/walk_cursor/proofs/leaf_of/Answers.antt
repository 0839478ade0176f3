-- An open leaf with the bits of its slot, or an exact one.
use mathlib.Core.Path.{◌≡◌, refl, sym, ap, ◌∙◌}
use Prim.Native.Nat.{ℕ}
use native.Mathlib.Omega.{arith}
use Rattle.image.specs.declared.ValuePos.{ValuePos}
use Rattle.nav_nodes.specs.Accepted.{nodes}
use Rattle.nav_nodes.specs.Slots.{slot_of}
use Rattle.walk_cursor.proofs.leaf_of.Goals as goal

pub returns-in_default : goal.returns-in_default
returns-in_default c =
    let a = c.args in
    record { cut_is = refl; len_is = refl; width_is = refl; exact_end = λ e. (refl, refl); open_end = λ v e. absurd (c.in_default.not-Open v e) }

pub suffix-requires : goal.suffix-requires
suffix-requires c =
    c.requires _ c.in-Open.is

pub returns : goal.returns
returns c =
    let a = c.args in
    let told = c.in-Open.is in
    record {
      cut_is = refl;
      len_is = refl;
      width_is = refl;
      exact_end = λ e. let t = sym told ∙ e in let z : ◌≡◌ {A = ℕ} 0 1 = cc in absurd (omega arith);
      open_end = λ v e. let t = sym told ∙ e in let same : c.in-Open.slot ≡ v = cc in (refl, c.suffix.ensures ∙ ap (λ (x : ValuePos). slot_of a.image.now.frame.width (nodes a.image.now.bytes.now a.image.now.frame) x.0) same);
    }
