-- S-LOUDS lies within the image, and its first bit and its ones are those of the list of its bits.
use mathlib.Core.Path.{◌≡◌, sym, ap, ap₂, ◌∙◌}
use mathlib.Core.Bool.{◌&&◌}
use Prim.Native.Nat.{ℕ}
use lib.Dec.{eqb}
use Rattle.spec.specs.Bytes.{Bytes}
use Rattle.bits.proofs.PartLaws.{bits_room, lent_part}
use Rattle.image.specs.FrameOf.{within}
use Rattle.check_levels.specs.Bodies.{sb_body, bodies_sized}
use Rattle.check_levels.specs.BodyTests.{first_bit}
use Rattle.check_trie.proofs.trie.louds_valid.Goals as goal

pub part-sb-requires : goal.part-sb-requires
part-sb-requires c =
    let a = c.args in
    rw c.bytes_for.ensures (within a.image.now.bytes.now a.image.now.frame c.args.image.now.framed).sb

pub first_set-requires : goal.first_set-requires
first_set-requires c =
    let a = c.args in
    let s : Bytes = a.image.now.bytes.now in
    let sb : c.part-sb.result.now ≡ sb_body s a.image.now.frame = lent_part s a.image.now.frame.sb c.part-sb.ensures c.bytes_for.ensures in
    rw sb (bits_room a.image.now.frame.sparse.entries (sb_body s a.image.now.frame) (bodies_sized s a.image.now.frame c.args.image.now.framed).sb)

pub returns : goal.returns
returns c =
    let part = c.part-sb in
    let a = c.args in
    let s : Bytes = a.image.now.bytes.now in
    let sb : part.result.now ≡ sb_body s a.image.now.frame = lent_part s a.image.now.frame.sb part.ensures c.bytes_for.ensures in
    let r = bits_room a.image.now.frame.sparse.entries (sb_body s a.image.now.frame) (bodies_sized s a.image.now.frame a.image.now.framed).sb in
    ap₂ ◌&&◌ ((rw sb at c.first_set.ensures) ∙ sym (first_bit (sb_body s a.image.now.frame) a.image.now.frame.sparse.entries r)) (ap (λ (k : ℕ). eqb k a.image.now.frame.sparse.nodes) c.requires)
