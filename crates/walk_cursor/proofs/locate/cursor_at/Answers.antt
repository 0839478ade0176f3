-- Done, or the path that leads to the leaf, with nothing known of the entries.
use Prim.Native.Nat.{ℕ}
use mathlib.Core.Path.{refl, sym, ap, ◌∙◌}
use lib.ListN.{length, length-map, length-replicate}
use Rattle.nav_nodes.specs.FromCheck.{accepted}
use Rattle.walk_path.specs.LevelLaws.{kept_unknown}
use Rattle.walk_cursor.specs.Places.{stands_done}
use Rattle.walk_cursor.proofs.locate.cursor_at.Goals as goal

pub returns-then-place-image : goal.returns-then-place-image
returns-then-place-image c =
    let a = c.args in
    stands_done a.image.now.bytes.now a.image.now.frame (accepted a.image.now) a.place c.at_no_leaf.result c.at_no_leaf.ensures c.if-place-image.true

pub returns : goal.returns
returns c =
    let a = c.args in
    let d = c.descend_to-found.ensures in
    let e = c.descend_to-found.result in
    let ns = c.node_numbers-nodes.result in
    let same = c.node_numbers-nodes.ensures in
    record {
      stands = record {
        within = c.requires;
        ends = rw same d.ends;
        leaves_are = rw same d.leaves_are;
        kept = kept_unknown a.image.now.bytes.now a.image.now.frame ns e.path.labels (record { depth = e.depth; stop = e.stop });
        room = record { nodes_room = sym (length-map ns (λ (n : ℕ). record { 0 = n })) ∙ ap length same ∙ d.nodes_room; entries_room = length-replicate {A = ℕ} 128 0; labels_room = d.labels_room };
      };
      place_is = refl;
    }
