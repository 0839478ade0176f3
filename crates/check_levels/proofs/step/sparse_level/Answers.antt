-- The node's first entry is found from the level's, and the entries that continue before it are counted on from those before the level.
use mathlib.Core.Path.{◌≡◌, refl, ap, ◌∙◌}
use Prim.Native.Nat.{ℕ, ◌+◌, ◌-◌, ◌*◌, ◌≤◌, ◌<◌}
use native.Mathlib.Omega.{arith}
use mir.Val.{Fits}
use mir.Syntax.{w64}
use Rattle.spec.specs.Bytes.{Bytes}
use Rattle.bits.proofs.PartLaws.{bits_room, lent_part}
use Rattle.bits.proofs.RankLaws.{rank_le}
use Rattle.image.specs.FrameOf.{within}
use Rattle.check_levels.specs.Bodies.{dc_body, sc_body, sb_body, bodies_sized, dense_children}
use Rattle.check_levels.specs.Levels.{entry_within, level_nodes, level_children, entry_up, sparse_level}
use Rattle.check_levels.proofs.step.sparse_level.Goals as goal

-- a difference that grows with its first number
less : {a b : ℕ} (d : ℕ) → a ≤ b → a - d ≤ b - d
less d h = omega arith

-- a position within the entries is one of the body
room : {p n m : ℕ} → p ≤ n → n ≤ m → p ≤ m
room h l = omega arith

-- the continuing branches are few
sum_fits : {c r d k e n : ℕ} → c ≡ r → r ≤ 256 * d → d < 4294967296 → k ≤ e → e ≤ n → n < 4294967296 → Fits w64 (c + k)
sum_fits a b h l m g = record { fits = omega arith }

pub part-sc-requires : goal.part-sc-requires
part-sc-requires c =
    let a = c.args in
    rw c.bytes_for.ensures (within a.image.now.bytes.now a.image.now.frame c.requires.0.frame).sc

pub part-sb-requires : goal.part-sb-requires
part-sb-requires c =
    let a = c.args in
    rw c.bytes_for-2.ensures (within a.image.now.bytes.now a.image.now.frame c.requires.0.frame).sb

pub select_from-entry-requires : goal.select_from-entry-requires
select_from-entry-requires c =
    let part2 = c.part-sb in
    let excess = c.saturating_sub-starts in
    let a = c.args in
    let p = c.requires in
    let s : Bytes = a.image.now.bytes.now in
    let sb : part2.result.now ≡ sb_body s a.image.now.frame = lent_part s a.image.now.frame.sb part2.ensures c.bytes_for-2.ensures in
    rw sb (
      bits_room a.image.now.frame.sparse.entries (sb_body s a.image.now.frame) (bodies_sized s a.image.now.frame p.0.frame).sb,
      entry_within s a.image.now.frame p.0 a.from p.1,
      excess.ensures ∙ level_nodes s a.image.now.frame p.0 a.from p.1,
      rw excess.ensures (less a.image.now.frame.dense.nodes p.2.from),
    )

pub rank_on-requires : goal.rank_on-requires
rank_on-requires c =
    let part = c.part-sc in
    let part2 = c.part-sb in
    let a = c.args in
    let p = c.requires in
    let s : Bytes = a.image.now.bytes.now in
    let sc : part.result.now ≡ sc_body s a.image.now.frame = lent_part s a.image.now.frame.sc part.ensures c.bytes_for.ensures in
    let sb : part2.result.now ≡ sb_body s a.image.now.frame = lent_part s a.image.now.frame.sb part2.ensures c.bytes_for-2.ensures in
    let e = rw sb at c.select_from-entry.ensures in
    rw sc (
      room e.1 (bits_room a.image.now.frame.sparse.entries (sc_body s a.image.now.frame) (bodies_sized s a.image.now.frame p.0.frame).sc),
      rw e.0 (entry_up s a.image.now.frame p.0 a.from p.1 a.node.0 p.2.from),
      c.saturating_sub-children.ensures ∙ level_children s a.image.now.frame p.0 a.from p.1,
    )

pub overflow_add-branches : goal.overflow_add-branches
overflow_add-branches c =
    let part = c.part-sc in
    let select-from = c.select_from-entry in
    let a = c.args in
    let p = c.requires in
    let s : Bytes = a.image.now.bytes.now in
    let sc : part.result.now ≡ sc_body s a.image.now.frame = lent_part s a.image.now.frame.sc part.ensures c.bytes_for.ensures in
    let r = rw sc at c.rank_on.ensures in
    sum_fits (dense_children s a.image.now.frame p.0.frame) (rank_le (dc_body s a.image.now.frame) (256 * a.image.now.frame.dense.nodes)) p.0.frame.dense (rw r (rank_le (sc_body s a.image.now.frame) select-from.result)) select-from.ensures.1 p.0.frame.entries

pub returns : goal.returns
returns c =
    let part = c.part-sc in
    let part2 = c.part-sb in
    let a = c.args in
    let p = c.requires in
    let s : Bytes = a.image.now.bytes.now in
    let sc : part.result.now ≡ sc_body s a.image.now.frame = lent_part s a.image.now.frame.sc part.ensures c.bytes_for.ensures in
    let sb : part2.result.now ≡ sb_body s a.image.now.frame = lent_part s a.image.now.frame.sb part2.ensures c.bytes_for-2.ensures in
    let e = rw sb at c.select_from-entry.ensures in
    let r = rw sc at c.rank_on.ensures in
    (sparse_level s a.image.now.frame p.0 _ (below p.3) p.2.to e.0 (ap (λ (k : ℕ). a.image.now.frame.totals.children + k) r), refl)
  where
    below : {x y : ℕ} → x < y → x ≤ y
    below h = omega arith
