-- The levels are a chain where their nodes have one entry each.
use Prim.Native.Nat.{ℕ, ◌+◌, ◌*◌, ◌≤◌}
use mathlib.Core.Path.{refl, sym, ap, ◌∙◌}
use native.Mathlib.Omega.{arith}
use Rattle.image.specs.declared.AcceptedImage.{AcceptedImage}
use Rattle.nav_nodes.specs.FromCheck.{accepted}
use Rattle.nav_nodes.specs.FoundBranch.{node_count}
use Rattle.query_sums.specs.declared.chains.Level.{Level}
use Rattle.query_sums.specs.LevelTable.{entries_before, entries_few, nodes_few}
use Rattle.query_descent.specs.Followed.{node_length}
use Rattle.query_sums.specs.Chains.{EqualLevels, levels_within, equal_next, chain_found}
use Rattle.query_sums.proofs.chains.sole_entries.Goals as goal

module _ (v : AcceptedImage) (l : Level) where
  -- the levels end within the nodes, whose number is short
  within : (k : ℕ) → EqualLevels v.bytes.now v.frame l.number l.start l.width k → (l.start + k * l.width + l.width ≤ node_count v.frame) × (node_count v.frame ≤ 4294967296)
  within k q = let a = accepted v in (levels_within v.bytes.now v.frame a l.number l.start l.width k q, omega (arith, nodes_few v.bytes.now v.frame a, node_length v.bytes.now v.frame a))

  -- the entries before the level leave its nodes out
  room : EqualLevels v.bytes.now v.frame l.number l.start l.width 0 → l.start + l.width ≤ entries_before v.bytes.now v.frame l.start + 1
  room o = omega (arith, equal_next v.bytes.now v.frame (accepted v) l.number l.start l.width o)

  -- there are few
  few : entries_before v.bytes.now v.frame l.start ≤ 8589934592
  few = entries_few v.bytes.now v.frame (accepted v) l.start

pub entries_before-entries-requires : goal.entries_before-entries-requires
entries_before-entries-requires c =
    omega (arith, within c.args.image.now c.args.level 0 c.requires.0)

pub overflow_mul-k : goal.overflow_mul-k
overflow_mul-k c =
    omega (arith, within c.args.image.now c.args.level c.args.k c.requires.1)

pub overflow_add-start : goal.overflow_add-start
overflow_add-start c =
    omega (arith, within c.args.image.now c.args.level c.args.k c.requires.1)

pub entries_before-behind-requires : goal.entries_before-behind-requires
entries_before-behind-requires c =
    omega (arith, within c.args.image.now c.args.level c.args.k c.requires.1)

pub overflow_mul-k-2 : goal.overflow_mul-k-2
overflow_mul-k-2 c =
    omega (arith, within c.args.image.now c.args.level c.args.k c.requires.1)

pub overflow_add-entries : goal.overflow_add-entries
overflow_add-entries c =
    omega (arith, within c.args.image.now c.args.level c.args.k c.requires.1, c.entries_before-entries.ensures, few c.args.image.now c.args.level)

pub overflow_add-result : goal.overflow_add-result
overflow_add-result c =
    omega (arith, c.entries_before-entries.ensures, few c.args.image.now c.args.level)

pub overflow_add-result-2 : goal.overflow_add-result-2
overflow_add-result-2 c =
    omega (arith, within c.args.image.now c.args.level c.args.k c.requires.1)

pub overflow_sub-result : goal.overflow_sub-result
overflow_sub-result c =
    omega (arith, c.entries_before-entries.ensures, room c.args.image.now c.args.level c.requires.0)

pub returns : goal.returns
returns c =
    let v = c.args.image.now in
    let l = c.args.level in
    let k = c.args.k in
    let e = c.entries_before-entries.ensures in
    chain_found v.bytes.now v.frame (accepted v) l.number l.start l.width k _ c.requires.0 c.requires.1 (sym c.entries_before-behind.ensures ∙ c.if-behind-entries.false ∙ ap (λ (n : ℕ). n + k * l.width) e) refl refl refl (omega (arith, e, room v l c.requires.0))
