-- The loop: the level is level `depth`; behind the last node there is no further level.
use mathlib.Core.Path.{◌≡◌, refl, sym, ap, ◌∙◌}
use Prim.Native.Nat.{ℕ, suc, ◌+◌, ◌-◌, ◌≤◌, ◌<◌}
use native.Mathlib.Omega.{arith}
use mir.Val.{Fits}
use mir.Syntax.{w64}
use Rattle.check_slots.specs.LevelStarts.{level_start}
use Rattle.check_slots.specs.LastLevels.{first_level, no_level, next_behind, level_first, level_below}
use Rattle.check_slots.proofs.last_levels.find_level.Goals as goal

nodes_fit : {d n : ℕ} → d < 4294967296 → n < 4294967296 → Fits w64 (d + n)
nodes_fit h l = record { fits = omega arith }

inside : {d n : ℕ} → d < n → n < 64 → d < 64
inside h l = omega arith

weaken : {d n : ℕ} → d < n → d ≤ n
weaken h = omega arith

rejoin : {d n : ℕ} → d ≤ n → d + (n - d) ≡ n
rejoin h = omega arith

more : {d e : ℕ} → d ≤ e → d ≤ e + 1
more h = omega arith

next : {d n : ℕ} → d < n → d + 1 ≤ n
next h = omega arith

pub overflow_add-nodes : goal.overflow_add-nodes
overflow_add-nodes c =
    let o = c.requires.0.frame in nodes_fit o.dense o.sparse

pub loop-depth-init : goal.loop-depth-init
loop-depth-init c =
    let a = c.args in
    let p = c.requires in
    (omega arith, p.2, first_level a.image.now.bytes.now a.image.now.frame p.0 p.1 _ refl refl refl)

pub returns-then-nodes-level : goal.returns-then-nodes-level
returns-then-nodes-level c =
    let a = c.args in
    let p = c.requires in
    let l = c.loop-depth in
    let i = l.invariant.2 in
    let e : l.depth + (a.number - l.depth) ≡ a.number = rejoin l.invariant.1 in
    record { level = i.level; start = i.start ∙ sym (no_level a.image.now.bytes.now a.image.now.frame p.0 p.1 (a.number - l.depth) l.depth (rw i.start at c.if-nodes-level.true)) ∙ ap (level_start a.image.now.bytes.now a.image.now.frame) e }

pub level_below-level-requires : goal.level_below-level-requires
level_below-level-requires c =
    let a = c.args in
    let p = c.requires in
    let l = c.loop-depth in
    let t = inside c.loop-depth-test.true p.3 in (
      p.0,
      p.1,
      next_behind a.image.now.bytes.now a.image.now.frame p.0 p.1 l.depth t l.level l.invariant.2 c.if-nodes-level.false,
      level_first a.image.now.bytes.now a.image.now.frame p.0 p.1 l.depth l.invariant.0 (weaken t) l.level l.invariant.2,
    )

pub overflow_add-depth : goal.overflow_add-depth
overflow_add-depth c =
    depth_fits c.loop-depth-test.true c.requires.3
  where
    depth_fits : {d n : ℕ} → d < n → n < 64 → Fits w64 (d + 1)
    depth_fits h l = record { fits = omega arith }

pub loop-depth-smaller : goal.loop-depth-smaller
loop-depth-smaller c =
    closer c.loop-depth-test.true
  where
    closer : {d n : ℕ} → d < n → n - (d + 1) < n - d
    closer h = omega arith

pub loop-depth-preserved : goal.loop-depth-preserved
loop-depth-preserved c =
    let a = c.args in
    let p = c.requires in
    let l = c.loop-depth in
    let t = c.loop-depth-test.true in
    let r = c.level_below-level in
    let e : suc l.depth ≡ l.depth + 1 = omega arith in
    (more l.invariant.0, next t, rw e at (level_below a.image.now.bytes.now a.image.now.frame p.0 p.1 l.depth (inside t p.3) l.level l.invariant.2 c.if-nodes-level.false r.result r.ensures.0 r.ensures.1))

pub returns : goal.returns
returns c =
    let l = c.loop-depth in
    let e : l.depth ≡ c.args.number = at_end l.invariant.1 c.loop-depth-test.false in
    rw e at l.invariant.2
  where
    at_end : {d n : ℕ} → d ≤ n → n ≤ d → d ≡ n
    at_end h l = omega arith
