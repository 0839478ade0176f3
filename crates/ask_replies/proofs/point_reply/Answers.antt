-- The rule's number goes to the front of the buffer, and what the rule says is the reply's number.
use Prim.Native.Nat.{ℕ, ◌<◌}
use mathlib.Core.Path.{◌≡◌, refl, sym, ap, ◌∙◌}
use mathlib.Core.List.{[], ◌∷◌}
use native.Mathlib.Omega.{arith}
use lib.ListN.{length, take, set, length-set}
use Rattle.spec.specs.Bytes.{Bytes}
use Rattle.spec.specs.Nodes.{read_leaves}
use Rattle.spec.specs.Rules.{rule_number, rule_says}
use Rattle.nav_nodes.specs.FromCheck.{accepted}
use Rattle.ask_files.proofs.AnswerLaws.{point_answered}
use Rattle.ask_replies.proofs.point_reply.Goals as goal

-- the byte that is written to the front
front : (s : Bytes) (x : ℕ) → 0 < length s → take 1 (set s 0 x) ≡ x ∷ []
front [] x h = absurd (omega arith)
front (y ∷ s) x h = refl

pub returns : goal.returns
returns c =
    let k = c.args.key.now in
    let v = c.args.image.now in
    let w = accepted v in (
      record { small = omega arith; buffer = length-set k 0 c.number.result ∙ c.requires.1 },
      point_answered v.frame.hash_width (read_leaves v.bytes.now) w.realizable w.well_sized c.args.point.now c.requires.0 _ (set k 0 c.number.result) refl (c.from.ensures ∙ sym c.says.ensures ∙ ap rule_says c.descend-rule.ensures) refl
          (front k c.number.result (omega (arith, c.requires.1)) ∙ ap (λ (x : ℕ). x ∷ []) (c.number.ensures ∙ ap rule_number c.descend-rule.ensures)),
    )
