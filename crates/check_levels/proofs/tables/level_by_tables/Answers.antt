-- The node's first entry and the entries that continue before it, by the tables.
use mathlib.Core.Path.{◌≡◌, refl, ap}
use Prim.Native.Nat.{ℕ, ◌+◌, ◌-◌, ◌*◌, ◌≤◌, ◌<◌}
use native.Mathlib.Omega.{arith}
use mir.Val.{Fits}
use mir.Syntax.{w64}
use Rattle.bits.proofs.RankLaws.{rank_le}
use Rattle.bits_select.specs.SelectLaws.{select_found}
use Rattle.check_levels.specs.Bodies.{dc_body, sc_body, sb_body, dense_children}
use Rattle.check_levels.specs.Levels.{sparse_level}
use Rattle.check_levels.proofs.tables.level_by_tables.Goals as goal

-- the node is one of the sparse ones
before_end : {r i d n : ℕ} → r ≡ n → d ≤ i → i < d + n → i - d < r
before_end e h l = omega arith

-- the continuing branches are few
sum_fits : {c r d k e n : ℕ} → c ≡ r → r ≤ 256 * d → d < 4294967296 → k ≤ e → e < n → n < 4294967296 → Fits w64 (c + k)
sum_fits a b h l m g = record { fits = omega arith }

below : {x y : ℕ} → x < y → x ≤ y
below h = omega arith

pub children_before-requires : goal.children_before-requires
children_before-requires c =
    let a = c.args in
    let s = a.image.now.bytes.now in
    let m = a.node.0 - a.image.now.frame.dense.nodes in
    let v = c.requires.0.louds in
    (c.requires.0, rw c.first_entry-entry.ensures (select_found (sb_body s a.image.now.frame) a.image.now.frame.sparse.entries m (before_end v.count c.requires.1 c.requires.2)).0)

pub overflow_add-branches : goal.overflow_add-branches
overflow_add-branches c =
    let a = c.args in
    let s = a.image.now.bytes.now in
    let v = c.requires.0.louds in
    let m = a.node.0 - a.image.now.frame.dense.nodes in
    let e : c.first_entry-entry.result.0 < a.image.now.frame.sparse.entries = rw c.first_entry-entry.ensures (select_found (sb_body s a.image.now.frame) a.image.now.frame.sparse.entries m (before_end v.count c.requires.1 c.requires.2)).0 in
    sum_fits (dense_children s a.image.now.frame v.frame) (rank_le (dc_body s a.image.now.frame) (256 * a.image.now.frame.dense.nodes)) v.frame.dense (rw c.children_before.ensures (rank_le (sc_body s a.image.now.frame) c.first_entry-entry.result.0)) e v.frame.entries

pub returns : goal.returns
returns c =
    let a = c.args in
    (sparse_level a.image.now.bytes.now a.image.now.frame c.requires.0.louds _ c.requires.1 (below c.requires.2) c.first_entry-entry.ensures (ap (λ (k : ℕ). a.image.now.frame.totals.children + k) c.children_before.ensures), refl)
