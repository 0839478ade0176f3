-- The invariant: the bytes passed lead to the bound's node. Each byte is one step of the laws in `Seeking`.
use Rattle.query_descent.specs.Seeking.{Following, BytePassed, higher_same, higher_new, following_root, following_child, followed_none, followed_leaf, followed_end, leaf_slot, sum_small}
use lib.ListN.{length, get_or, drop}
use Prim.Native.Nat.{ℕ, ◌+◌, ◌<◌, ◌≤◌}
use mathlib.Core.Path.{refl}
use native.Mathlib.Omega.{arith}
use mathlib.Core.Path.{◌≡◌, sym, ◌∙◌}
use mathlib.Core.Bool.{Bool, true, false}
use mathlib.Core.Logic.{◌⊎◌, ⊎_elim, inl, inr}
use Rattle.spec.specs.Bytes.{Bytes}
use Rattle.image.specs.declared.Frame.{Frame}
use Rattle.image.specs.declared.NodeNum.{NodeNum}
use Rattle.image.specs.declared.ValuePos.{ValuePos}
use Rattle.nav_nodes.specs.declared.Found.{Found}
use Rattle.nav_nodes.specs.FoundBranch.{FoundBranch, BehindBranch}
use Rattle.nav_nodes.specs.NextLabel.{first_kind, is_there}
use Rattle.nav_nodes.specs.Positions.{branches, branch_index}
use Rattle.query_descent.specs.declared.HigherLabel.{HigherLabel}
use Rattle.std.specs.Prelude.{Option, Some}
use Rattle.nav_nodes.specs.FromCheck.{accepted}
use Rattle.query_seek.proofs.way.follow_key.Goals as goal
use Rattle.query_seek.proofs.way.follow_key.Goals.{After-child_and_slot-behind, then-has_higher, else-has_higher}

-- The byte is passed: what the node has at it, whether it has a label above it, and the last higher label after it.
byte_passed : {s : Bytes} {f : Frame} {start : Bytes} {before after : Option HigherLabel} {m child : NodeNum} {d sum y : ℕ} {b : Found} {slot : ValuePos} {above : Bool} → Following s f start before m.0 d sum → d < length start → length start ≤ 64 → y ≡ get_or start d 0 → FoundBranch s f m.0 y b
    → BehindBranch s f m.0 b.at.0 child.0 slot.0 → above ≡ is_there (first_kind (drop (branch_index s f m.0 (y + 1)) (branches s f m.0))) → (((above ≡ true) × (after ≡ Some (record { node = m; depth = d; found = b }))) ⊎ ((above ≡ false) × (after ≡ before))) → BytePassed s f start before m.0 d sum b child slot after
byte_passed {s} {f} {start} {before} {after} {m} {child} {d} {sum} {y} {b} {slot} {above} from more short e found behind higher came =
    let here : FoundBranch s f m.0 (get_or start d 0) b = rw e at found in
    let higher_is : above ≡ is_there (first_kind (drop (branch_index s f m.0 (get_or start d 0 + 1)) (branches s f m.0))) = rw e at higher in
    let deep : d < 64 = omega arith in
    record {
      from = from;
      more = more;
      short = short;
      found = here;
      behind = behind;
      passed = ⊎_elim
          (λ t. rw t.1 (higher_new s f start m d before deep from.level from.higher_in here (sym higher_is ∙ t.0)))
          (λ t. rw t.1 (higher_same s f start m d before deep from.level from.higher_in (sym higher_is ∙ t.0)))
          came;
    }

-- the byte of a pass of the loop
passed : (c : After-child_and_slot-behind) → BytePassed c.args.image.now.bytes.now c.args.image.now.frame c.args.start.now c.loop-level.higher c.loop-level.level.node.0 c.loop-level.level.depth c.loop-level.level.sum c.find-found.result c.child_and_slot-behind.result.child c.child_and_slot-behind.result.slot c.if-has_higher.higher
passed c =
    byte_passed c.loop-level.invariant c.loop-level-test.true c.requires.1 c.from-y.ensures c.find-found.ensures c.child_and_slot-behind.ensures c.has_higher.ensures
    (elim c.if-has_higher.branch [ then-has_higher w ↦ inl (w.if-has_higher.true, w.higher-is) | else-has_higher w ↦ inr (w.if-has_higher.false, w.higher-is) ])

pub loop-level-init : goal.loop-level-init
loop-level-init c =
    let v = c.args.image.now in
    following_root v.bytes.now v.frame (accepted v) c.args.start.now c.requires.0

pub find-found-requires : goal.find-found-requires
find-found-requires c =
    (record { accepted = accepted c.args.image.now; inside = c.loop-level.invariant.leads.node_in }, omega arith)

pub has_higher-requires : goal.has_higher-requires
has_higher-requires c =
    (record { accepted = accepted c.args.image.now; inside = c.loop-level.invariant.leads.node_in }, omega arith, c.find-found.ensures)

pub child_and_slot-behind-requires : goal.child_and_slot-behind-requires
child_and_slot-behind-requires c =
    record { accepted = accepted c.args.image.now; within = c.find-found.ensures.at_is.within }

pub overflow_add-level-in-loop-level : goal.overflow_add-level-in-loop-level
overflow_add-level-in-loop-level c =
    omega (arith, sum_small (accepted c.args.image.now) (passed (goal.at.overflow_add-level-in-loop-level c).After-child_and_slot-behind))

pub returns-in-Absent : goal.returns-in-Absent
returns-in-Absent c =
    followed_none (accepted c.args.image.now) (passed (goal.at.returns-in-Absent c).After-child_and_slot-behind) c.in-Absent.is

pub end_at_leaf-bound-requires : goal.end_at_leaf-bound-requires
end_at_leaf-bound-requires c =
    let a = accepted c.args.image.now in
    let p = passed (goal.at.end_at_leaf-bound-requires c).After-child_and_slot-behind in
    record { accepted = a; slot_in = leaf_slot a p c.in-Leaf.is; depth_in = omega (arith, p.more); short = c.requires.1; small = sum_small a p }

pub returns-in-Leaf : goal.returns-in-Leaf
returns-in-Leaf c =
    let e = c.end_at_leaf-bound.ensures in
    rw (e.end_is, e.node_is, e.depth_is, e.sum_is) (followed_leaf (accepted c.args.image.now) (passed (goal.at.returns-in-Leaf c).After-child_and_slot-behind) c.in-Leaf.is _ refl)

pub loop-level-preserved : goal.loop-level-preserved
loop-level-preserved c =
    following_child (accepted c.args.image.now) (passed (goal.at.loop-level-preserved c).After-child_and_slot-behind) c.in-Child.is

pub returns : goal.returns
returns c =
    let v = c.args.image.now in
    followed_end v.bytes.now v.frame (accepted v) c.args.start.now c.loop-level.invariant (omega (arith, c.loop-level-test.false))
