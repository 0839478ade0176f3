-- The leaves behind the cursor's are those from the next higher branch of its path on.
use Prim.Native.Nat.{ℕ}
use mathlib.Core.Path.{◌≡◌, refl, sym, ◌∙◌}
use Rattle.nav_nodes.specs.declared.BranchKind.TheVariants.{Absent}
use Rattle.nav_nodes.specs.NextLabel.{there_not, not_there}
use Rattle.walk_cursor.specs.Stands.{AtLeaf, cursor_of}
use Rattle.walk_cursor.specs.Places.{Resumes, resumes, stands_last, stands_next}
use Rattle.walk_cursor.proofs.advance.Goals as goal

pub resume-from-requires : goal.resume-from-requires
resume-from-requires c =
    λ v e. let o = c.requires.at.stands.ends in ((o.open_end v e).0, o.depth)

pub climb-higher-requires : goal.climb-higher-requires
climb-higher-requires c =
    let resumed : (place : ℕ) → AtLeaf c.args.image.now.bytes.now c.args.image.now.frame (cursor_of c.args.trail.now c.args.end place)
    → Resumes c.args.image.now.bytes.now c.args.image.now.frame (cursor_of c.args.trail.now c.args.end place) c.resume-from.result.depth c.resume-from.result.from = λ place w. let a = c.args in resumes a.image.now.bytes.now a.image.now.frame (cursor_of a.trail.now a.end place) w c.resume-from.result c.resume-from.ensures in
    let p = c.requires in
    let r = resumed p.place p.at in
    record { searchable = r.searchable; levels = r.levels }

pub first_behind-requires : goal.first_behind-requires
first_behind-requires c =
    let branch_left : c.climb-higher.result.branch.kind ≡ Absent → ⊥ = there_not c.climb-higher.result.branch.kind (sym c.is_there.ensures ∙ c.if-is_there.true) in
    let k = c.climb-higher.ensures in
    record { accepted = c.requires.at.accepted; room = c.requires.at.stands.room; branch = (k.higher.found branch_left).branch; rows = k.rows; sparse = k.sparse; child_is = k.child_is }

pub returns-then-is_there : goal.returns-then-is_there
returns-then-is_there c =
    let resumed : (place : ℕ) → AtLeaf c.args.image.now.bytes.now c.args.image.now.frame (cursor_of c.args.trail.now c.args.end place)
    → Resumes c.args.image.now.bytes.now c.args.image.now.frame (cursor_of c.args.trail.now c.args.end place) c.resume-from.result.depth c.resume-from.result.from = λ place w. let a = c.args in resumes a.image.now.bytes.now a.image.now.frame (cursor_of a.trail.now a.end place) w c.resume-from.result c.resume-from.ensures in
    let branch_left : c.climb-higher.result.branch.kind ≡ Absent → ⊥ = there_not c.climb-higher.result.branch.kind (sym c.is_there.ensures ∙ c.if-is_there.true) in
    let a = c.args in
    let k = c.climb-higher in
    record {
      stands = λ place w.
          let r = c.resume-from.result in
          stands_next a.image.now.bytes.now a.image.now.frame (cursor_of a.trail.now a.end place) w r.depth r.from (resumed place w) k.result k.ensures.higher branch_left _ c.first_behind.result c.first_behind.ensures;
    }

pub returns : goal.returns
returns c =
    let resumed : (place : ℕ) → AtLeaf c.args.image.now.bytes.now c.args.image.now.frame (cursor_of c.args.trail.now c.args.end place)
    → Resumes c.args.image.now.bytes.now c.args.image.now.frame (cursor_of c.args.trail.now c.args.end place) c.resume-from.result.depth c.resume-from.result.from = λ place w. let a = c.args in resumes a.image.now.bytes.now a.image.now.frame (cursor_of a.trail.now a.end place) w c.resume-from.result c.resume-from.ensures in
    let a = c.args in
    let k = c.climb-higher in
    let none = not_there k.result.branch.kind (sym c.is_there.ensures ∙ c.if-is_there.false) in
    record {
      stands = λ place w.
          let r = c.resume-from.result in
          stands_last a.image.now.bytes.now a.image.now.frame (cursor_of a.trail.now a.end place) w r.depth r.from (resumed place w) k.result k.ensures.higher none _ (record { stop_is = refl; depth_is = refl; place_is = refl; room = w.stands.room });
    }
