-- No leaf is passed on the way up: a node without a branch left is left for the one above it.
use Prim.Native.Nat.{ℕ, ◌+◌, ◌-◌, ◌<◌, ◌≤◌}
use mathlib.Core.Path.{◌≡◌, refl, sym, ap, ◌∙◌}
use Rattle.std.proofs.Common.{arith, rules}
use lib.ListN.{get_or}
use Rattle.nav_nodes.specs.declared.BranchKind.TheVariants.{Absent}
use Rattle.nav_nodes.specs.Accepted.{nodes}
use Rattle.nav_nodes.specs.FoundBranch.{node_count}
use Rattle.nav_nodes.specs.NextLabel.{there_not, not_there}
use Rattle.nav_branches.specs.Paths.{node_on, onward}
use Rattle.nav_branches.specs.PathSteps.{BranchFrom, node_in, branch_found, branch_onward, none_onward, higher_onward}
use Rattle.walk_path.specs.Levels.{numbered}
use Rattle.walk_path.specs.LevelLaws.{numbered_at, levels_up}
use Rattle.walk_path.proofs.moves.climb.Goals as goal
use Rattle.walk_path.proofs.moves.climb.Goals.{then-is_there-via-then-is_there, then-is_there-via-else-is_there+then-d-eq0}

pub loop-branch-init : goal.loop-branch-init
loop-branch-init c =
    (omega arith, c.requires.searchable.label_range, refl, c.requires.levels)

pub next_at-branch-requires : goal.next_at-branch-requires
next_at-branch-requires c =
    let inside : (d : ℕ) → d ≤ c.args.r.depth → get_or c.args.trail.now.nodes d 0 < node_count c.args.image.now.frame = λ d h. let a = c.args in
    let p = c.requires.searchable in
    rw (numbered_at a.trail.now.nodes d) at (node_in a.image.now.bytes.now a.image.now.frame p.accepted (64 - d) (node_on (numbered a.trail.now.nodes) d) (p.on d h)) in
    let l = c.loop-branch in
    (record { accepted = c.requires.searchable.accepted; inside = inside l.d l.invariant.0 }, l.invariant.1, l.invariant.3.here.next)

pub returns-then-is_there : goal.returns-then-is_there
returns-then-is_there c =
    let found : BranchFrom c.args.image.now.bytes.now c.args.image.now.frame (node_on (numbered c.args.trail.now.nodes) c.loop-branch.d) c.loop-branch.y c.next_at-branch.result = rw (numbered_at c.args.trail.now.nodes c.loop-branch.d) c.next_at-branch.ensures in
    let l = c.loop-branch in
    let a = c.args in
    let p = c.requires.searchable in
    let x = c.next_at-branch.result in
    let deep : l.d < 64 = omega (arith, l.invariant.0, p.deep) in
    let at-root : x.kind ≡ Absent → l.d ≡ 0 = λ e. elim c.then-is_there.branch [
      | then-is_there-via-then-is_there w ↦ absurd (there_not x.kind (sym c.is_there.ensures ∙ w.if-is_there.true) e)
      | then-is_there-via-else-is_there+then-d-eq0 w ↦ w.if-d-eq0.true
    ] in
    record {
      higher = record {
        above = l.invariant.0;
        none = λ e. l.invariant.2 ∙ none_onward a.image.now.bytes.now a.image.now.frame (numbered a.trail.now.nodes) a.trail.now.labels l.d l.y x found e (at-root e);
        found = λ e. record {
          leaves_are = l.invariant.2 ∙ branch_onward a.image.now.bytes.now a.image.now.frame (numbered a.trail.now.nodes) a.trail.now.labels l.d l.y x found deep (p.on l.d l.invariant.0) e;
          branch = branch_found a.image.now.bytes.now a.image.now.frame (numbered a.trail.now.nodes) a.trail.now.labels l.d l.y x found deep (p.on l.d l.invariant.0) e;
        };
      };
      rows = l.invariant.3.rows;
      sparse = l.invariant.3.here.next.sparse;
      child_is = l.invariant.3.here.child_is;
    }

pub overflow_sub-d : goal.overflow_sub-d
overflow_sub-d c =
    omega (arith, c.if-d-eq0.false)

pub loop-branch-smaller : goal.loop-branch-smaller
loop-branch-smaller c =
    omega (arith, c.if-d-eq0.false)

pub loop-branch-preserved : goal.loop-branch-preserved
loop-branch-preserved c =
    let inside : (d : ℕ) → d ≤ c.args.r.depth → get_or c.args.trail.now.nodes d 0 < node_count c.args.image.now.frame = λ d h. let a = c.args in
    let p = c.requires.searchable in
    rw (numbered_at a.trail.now.nodes d) at (node_in a.image.now.bytes.now a.image.now.frame p.accepted (64 - d) (node_on (numbered a.trail.now.nodes) d) (p.on d h)) in
    let found : BranchFrom c.args.image.now.bytes.now c.args.image.now.frame (node_on (numbered c.args.trail.now.nodes) c.loop-branch.d) c.loop-branch.y c.next_at-branch.result = rw (numbered_at c.args.trail.now.nodes c.loop-branch.d) c.next_at-branch.ensures in
    let a = c.args in
    let l = c.loop-branch in
    let gone = not_there c.next_at-branch.result.kind (sym c.is_there.ensures ∙ c.if-is_there.false) in
    let below = c.if-d-eq0.false in (
      omega (arith, l.invariant.0),
      search rules,
      l.invariant.2 ∙ higher_onward a.image.now.bytes.now a.image.now.frame (numbered a.trail.now.nodes) a.trail.now.labels l.d l.y c.next_at-branch.result found gone below ∙ ap (λ (x : ℕ). onward (nodes a.image.now.bytes.now a.image.now.frame) (numbered a.trail.now.nodes) a.trail.now.labels (l.d - 1) (x + 1)) (sym c.from-y.ensures),
      rw c.from-y.ensures (levels_up a.image.now.bytes.now a.image.now.frame c.requires.searchable.accepted a.trail.now.nodes a.trail.now.entries a.trail.now.labels l.d l.y l.invariant.3 (inside l.d l.invariant.0) c.next_at-branch.result c.next_at-branch.ensures gone below),
    )
