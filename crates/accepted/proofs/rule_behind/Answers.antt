-- The frame has the hash bits that the header says.
use mathlib.Core.Path.{sym, ap, ◌∙◌}
use Prim.Native.Nat.{ℕ}
use Rattle.spec.specs.Bytes.{Bytes}
use Rattle.spec.specs.Frame.{read_settings}
use Rattle.spec.specs.Nodes.{read_leaves}
use Rattle.spec.specs.Rules.{rule}
use Rattle.nav_nodes.specs.FromCheck.{accepted}
use Rattle.accepted.proofs.rule_behind.Goals as goal

pub returns : goal.returns
returns c =
    let v = c.accepted_image.result in
    c.descend.ensures ∙ ap (λ (h : ℕ). rule h (read_leaves v.bytes.now) c.args.key.now) (sym (accepted v).hash_is)
    ∙ ap (λ (s : Bytes). rule (read_settings s).hash_width (read_leaves s) c.args.key.now) c.accepted_image.ensures.bytes
