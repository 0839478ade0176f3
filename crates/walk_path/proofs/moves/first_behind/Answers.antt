-- On the way down no leaf is passed; the measure is what is left of the 64 levels.
use native.Mathlib.Omega.{arith}
use Rattle.nav_branches.proofs.BranchTests.{ends_leaf}
use Rattle.walk_path.specs.LevelLaws.{numbered_at}
use Rattle.walk_path.specs.DownLaws.{goes_first, goes_named, goes_position, goes_small, down_leaf, down_deep, down_node, down_behind, down_last, down_exact, down_next}
use Rattle.walk_path.proofs.moves.first_behind.Goals as goal

pub entry_on-requires : goal.entry_on-requires
entry_on-requires c =
    omega (arith, c.requires.branch.deep)

pub child_at-c-requires : goal.child_at-c-requires
child_at-c-requires c =
    let a = c.args in
    let h = c.requires.branch in
    (record { accepted = c.requires.accepted; within = rw (numbered_at a.trail.now.nodes a.from.depth) at (h.branch_is.there h.there).at_is.within }, rw c.entry_on.ensures (λ z. (c.requires.sparse z, c.requires.child_is z)))

pub loop-stop-init : goal.loop-stop-init
loop-stop-init c =
    let a = c.args in
    goes_first a.image.now.bytes.now a.image.now.frame a.trail.now.nodes a.trail.now.entries a.trail.now.labels a.from c.requires c.child_at-c.result.0 c.child_at-c.ensures

pub overflow_cast-trail : goal.overflow_cast-trail
overflow_cast-trail c =
    let l = c.loop-stop in
    let a = c.args in
    omega (arith, (goes_named a.image.now.bytes.now a.image.now.frame c.requires.accepted a.trail.now.nodes a.trail.now.labels a.from.depth a.from.branch.label l.trail.nodes l.trail.entries l.trail.labels l.d l.b l.c.0 l.invariant).label_byte)

pub entry_behind-requires : goal.entry_behind-requires
entry_behind-requires c =
    let l = c.loop-stop in
    let a = c.args in
    goes_small a.image.now.bytes.now a.image.now.frame c.requires.accepted a.trail.now.nodes a.trail.now.labels a.from.depth a.from.branch.label l.trail.nodes l.trail.entries l.trail.labels l.d l.b l.c.0 l.invariant

pub keep_entry-requires : goal.keep_entry-requires
keep_entry-requires c =
    omega (arith, c.loop-stop.invariant.descends.branch.deep)

pub overflow_add-d : goal.overflow_add-d
overflow_add-d c =
    omega (arith, c.loop-stop.invariant.descends.branch.deep)

pub slot_at-requires : goal.slot_at-requires
slot_at-requires c =
    let l = c.loop-stop in
    let a = c.args in
    (goes_position a.image.now.bytes.now a.image.now.frame c.requires.accepted a.trail.now.nodes a.trail.now.labels a.from.depth a.from.branch.label l.trail.nodes l.trail.entries l.trail.labels l.d l.b l.c.0 l.invariant, l.invariant.child_is)

pub returns-in_default : goal.returns-in_default
returns-in_default c =
    let l = c.loop-stop in
    let a = c.args in
    rw c.keep_entry.ensures
    (down_leaf a.image.now.bytes.now a.image.now.frame c.requires.accepted a.trail.now.nodes a.trail.now.labels a.from.depth a.from.branch.label l.trail.nodes l.trail.entries l.trail.labels l.d l.b l.c.0 l.invariant c.entry_behind.result c.entry_behind.ensures
    c.slot_at.result c.slot_at.ensures (ends_leaf l.b.kind c.in_default.not-Child l.invariant.descends.branch.there))

pub entry_on-requires-in-loop-stop : goal.entry_on-requires-in-loop-stop
entry_on-requires-in-loop-stop c =
    let l = c.loop-stop in
    let a = c.args in
    omega (arith, down_deep a.image.now.bytes.now a.image.now.frame c.requires.accepted a.trail.now.nodes a.trail.now.labels a.from.depth a.from.branch.label l.trail.nodes l.trail.entries l.trail.labels l.d l.b l.c.0 l.invariant c.entry_behind.result c.entry_behind.ensures c.in-Child.is)

pub enter-next-requires : goal.enter-next-requires
enter-next-requires c =
    let l = c.loop-stop in
    let a = c.args in
    let e = c.entry_behind.result in
    let w = c.entry_behind.ensures in
    let k = c.in-Child.is in (
      down_behind a.image.now.bytes.now a.image.now.frame c.requires.accepted a.trail.now.nodes a.trail.now.labels a.from.depth a.from.branch.label l.trail.nodes l.trail.entries l.trail.labels l.d l.b l.c.0 l.invariant e w k,
      down_node a.image.now.bytes.now a.image.now.frame c.requires.accepted a.trail.now.nodes a.trail.now.labels a.from.depth a.from.branch.label l.trail.nodes l.trail.entries l.trail.labels l.d l.b l.c.0 l.invariant e w k,
      rw (c.entry_on-in-loop-stop.ensures, c.keep_entry.ensures) (down_last a.image.now.bytes.now a.image.now.frame c.requires.accepted a.trail.now.nodes a.trail.now.labels a.from.depth a.from.branch.label l.trail.nodes l.trail.entries l.trail.labels l.d l.b l.c.0 l.invariant e w k),
    )

pub keep_entry-requires-in-loop-stop : goal.keep_entry-requires-in-loop-stop
keep_entry-requires-in-loop-stop c =
    let l = c.loop-stop in
    let a = c.args in
    omega (arith, down_deep a.image.now.bytes.now a.image.now.frame c.requires.accepted a.trail.now.nodes a.trail.now.labels a.from.depth a.from.branch.label l.trail.nodes l.trail.entries l.trail.labels l.d l.b l.c.0 l.invariant c.entry_behind.result c.entry_behind.ensures c.in-Child.is)

pub returns-then-first : goal.returns-then-first
returns-then-first c =
    let l = c.loop-stop in
    let a = c.args in
    rw (c.keep_entry-in-loop-stop.ensures, c.keep_entry.ensures)
    (down_exact a.image.now.bytes.now a.image.now.frame c.requires.accepted a.trail.now.nodes a.trail.now.labels a.from.depth a.from.branch.label l.trail.nodes l.trail.entries l.trail.labels l.d l.b l.c.0 l.invariant c.entry_behind.result c.entry_behind.ensures
    c.in-Child.is c.enter-next.result c.enter-next.ensures c.if-first.true)

pub loop-stop-smaller : goal.loop-stop-smaller
loop-stop-smaller c =
    omega (arith, c.loop-stop.invariant.descends.branch.deep)

pub loop-stop-preserved : goal.loop-stop-preserved
loop-stop-preserved c =
    let l = c.loop-stop in
    let a = c.args in
    rw (c.keep_entry-in-loop-stop.ensures, c.keep_entry.ensures)
    (down_next a.image.now.bytes.now a.image.now.frame c.requires.accepted a.trail.now.nodes a.trail.now.labels a.from.depth a.from.branch.label l.trail.nodes l.trail.entries l.trail.labels l.d l.b l.c.0 l.invariant c.entry_behind.result c.entry_behind.ensures
    c.in-Child.is c.enter-next.result c.enter-next.ensures c.if-first.false)

pub bounds-trail-d-in-loop-stop-3 : goal.bounds-trail-d-in-loop-stop-3
bounds-trail-d-in-loop-stop-3 c =
    let l = c.loop-stop in
    let a = c.args in
    down_deep a.image.now.bytes.now a.image.now.frame c.requires.accepted a.trail.now.nodes a.trail.now.labels a.from.depth a.from.branch.label l.trail.nodes l.trail.entries l.trail.labels l.d l.b l.c.0 l.invariant c.entry_behind.result c.entry_behind.ensures c.in-Child.is

pub bounds-trail-d-in-loop-stop-4 : goal.bounds-trail-d-in-loop-stop-4
bounds-trail-d-in-loop-stop-4 c =
    let l = c.loop-stop in
    let a = c.args in
    down_deep a.image.now.bytes.now a.image.now.frame c.requires.accepted a.trail.now.nodes a.trail.now.labels a.from.depth a.from.branch.label l.trail.nodes l.trail.entries l.trail.labels l.d l.b l.c.0 l.invariant c.entry_behind.result c.entry_behind.ensures c.in-Child.is
