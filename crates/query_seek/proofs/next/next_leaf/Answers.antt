use Rattle.query_seek.specs.LeafKeys.{no_key}
use Rattle.query_descent.specs.Seeks.{next_nowhere}
use Rattle.nav_nodes.specs.FromCheck.{accepted}
use Rattle.query_seek.proofs.NextLaws.{overlaid_front}
use Rattle.bits.proofs.Overlaying.{length_overlaid}
use lib.ListN.{length, take}
use mathlib.Core.Path.{refl, ap, ◌∙◌}
use native.Mathlib.Omega.{arith}
use Rattle.query_seek.proofs.next.next_leaf.Goals as goal

pub returns-then-image-eq0 : goal.returns-then-image-eq0
returns-then-image-eq0 c =
    let v = c.args.image.now in
    record {
      leaf = record { key_is = rw (next_nowhere v.bytes.now v.frame (accepted v) c.if-image-eq0.true c.args.start.now) (no_key v.bytes.now v.frame c.args.key.now); key_size = c.requires.1 };
      bound = λ q. absurd (q refl);
    }

pub leaf_of_way-requires : goal.leaf_of_way-requires
leaf_of_way-requires c =
    let v = c.args.image.now in
    let written = c.write_start.ensures in
    record {
      accepted = accepted v;
      short = c.requires.0;
      key_size = ap length written ∙ length_overlaid c.args.key.now 0 c.args.start.now (omega (arith, c.requires.0, c.requires.1)) ∙ c.requires.1;
      begins = ap (take (length c.args.start.now)) written ∙ overlaid_front c.args.key.now c.args.start.now;
      ended = c.follow_key-way.ensures;
    }
