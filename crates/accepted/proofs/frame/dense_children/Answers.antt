-- The rank of the last word, and the ones in it.
use mathlib.Core.Path.{refl, ap}
use native.Mathlib.Omega.{arith}
use lib.ListN.{drop}
use Rattle.spec.specs.Bytes.{Bytes}
use Rattle.bits.specs.Bits.{rank}
use Rattle.image.specs.Records.{tail_part}
use Rattle.accepted.specs.Uncounted.{some_node, few, children_at, last_word}
use Rattle.accepted.proofs.frame.dense_children.Goals as goal

pub returns-then-n-eq0 : goal.returns-then-n-eq0
unfolding rank
returns-then-n-eq0 c =
    rw c.if-n-eq0.true

pub overflow_mul-last : goal.overflow_mul-last
overflow_mul-last c =
    omega (arith, (few c.args.image.now c.args.f c.requires).0)

pub slice_bounds-read32-count : goal.slice_bounds-read32-count
slice_bounds-read32-count c =
    omega (arith, (children_at c.args.image.now c.args.f c.requires).1)

pub slice_bounds-read32-start : goal.slice_bounds-read32-start
slice_bounds-read32-start c =
    (children_at c.args.image.now c.args.f c.requires).1

pub overflow_mul-last-2 : goal.overflow_mul-last-2
overflow_mul-last-2 c =
    omega (arith, (few c.args.image.now c.args.f c.requires).0)

pub read32-before-requires : goal.read32-before-requires
read32-before-requires c =
    rw (tail_part c.args.image.now c.args.f.rc) (last_word c.args.image.now c.args.f c.requires _ (some_node c.if-n-eq0.false) refl).0.0

pub slice_bounds-ones_word-count : goal.slice_bounds-ones_word-count
slice_bounds-ones_word-count c =
    omega (arith, (children_at c.args.image.now c.args.f c.requires).0)

pub slice_bounds-ones_word-start : goal.slice_bounds-ones_word-start
slice_bounds-ones_word-start c =
    (children_at c.args.image.now c.args.f c.requires).0

pub ones_word-requires : goal.ones_word-requires
ones_word-requires c =
    rw (tail_part c.args.image.now c.args.f.dc) (last_word c.args.image.now c.args.f c.requires _ (some_node c.if-n-eq0.false) refl).1

pub returns : goal.returns
returns c =
    let s : Bytes = c.args.image.now in
    let f = c.args.f in
    let w = last_word s f c.requires _ (some_node c.if-n-eq0.false) refl in
    let r = rw (tail_part s f.rc) at c.read32-before.ensures.0 in
    let o = rw (tail_part s f.dc) at c.ones_word.ensures.0 in
    omega (arith, r, w.0.1, o, ap (rank (drop f.dc s)) w.2)
