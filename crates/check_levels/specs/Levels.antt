-- The levels of an image by their first nodes: what number 14 judges and number 16 finds, level by level.
use Rattle.std.specs.Prelude.{ℕ, ◌+◌, ◌-◌, ◌*◌, ◌≤◌, ◌≡◌, Bool, false, leb}
use Rattle.std.proofs.Math.Path.{refl, sym}
use Rattle.std.proofs.Common.{ap, ◌∙◌, true≢false, arith, leb-true, leb-false}
use Rattle.std.proofs.Math.Bool.{true}
use mathlib.Core.List.{[], ◌∷◌}
use Rattle.spec.specs.Bytes.{Bytes, Bits}
use Rattle.spec.specs.Trie.{first_set}
use Rattle.bits.specs.Bits.{rank, select}
use Rattle.bits.proofs.PartLaws.{bits_room}
use Rattle.bits.proofs.RankLaws.{rank_zero, rank_up}
use Rattle.bits_select.specs.SelectLaws.{select_le, select_up, rank_select}
use Rattle.image.specs.FrameOf.{FrameOf}
use Rattle.image.specs.declared.Frame.{Frame}
use Rattle.check_levels.specs.declared.Level.{Level}
use Rattle.check_levels.specs.SparseNodes.{position_of}
use Rattle.check_levels.specs.Positions.{bits, position_select}
use Rattle.check_levels.specs.LevelTests.{ends_valid}
use Rattle.check_levels.specs.NodeBranches.{node_branches, branches_dense, branches_sparse}
use Rattle.check_levels.specs.Bodies.{dc_body, sc_body, sb_body, bodies_sized, dense_children}

-- all nodes
abbrev pub node_count : Frame → ℕ
node_count f = f.dense.nodes + f.sparse.nodes

-- the branches that continue before node i
abbrev pub branches_before : Bytes → Frame → ℕ → ℕ
branches_before s f = node_branches f.dense.nodes f.sparse.entries (dc_body s f) (sc_body s f) (sb_body s f)

-- the first entry of sparse node i, counted among all nodes
abbrev pub first_entry : Bytes → Frame → ℕ → ℕ
first_entry s f i = select (sb_body s f) f.sparse.entries (i - f.dense.nodes)

-- the tests of the levels of an image
abbrev pub levels_valid : Bytes → Frame → Bool
levels_valid s f = ends_valid (branches_before s f) (node_count f) f.dense.levels f.dense.nodes

-- S-LOUDS has a one at the first entry, and as many ones as there are sparse nodes
pub record LoudsValid (s : Bytes) (f : Frame) : Type 0 where
  -- the image has this frame
  pub frame : FrameOf s f
  -- the first entry, where there is one, starts a node
  pub first : first_set (bits (sb_body s f) f.sparse.entries) ≡ true
  -- the entries that start a node are as many as the sparse nodes
  pub count : rank (sb_body s f) f.sparse.entries ≡ f.sparse.nodes

-- what a level of an image holds
pub record LevelOf (s : Bytes) (f : Frame) (l : Level) : Type 0 where
  -- the first node, or the node count
  pub within : l.node.0 ≤ node_count f
  -- its first entry
  pub entry : l.entry.0 ≡ first_entry s f l.node.0
  -- the branches that continue before it
  pub branches : l.branches ≡ branches_before s f l.node.0

-- a node that is not before a level, or the node count
pub record Behind (f : Frame) (l : Level) (i : ℕ) : Type 0 where
  -- it is the level's first node or one behind it
  pub from : l.node.0 ≤ i
  -- it is a node, or the node count
  pub to : i ≤ node_count f

module _ (s : Bytes) (f : Frame) (v : LoudsValid s f) where
  -- the first sparse node's entries are the first
  pub entry_zero : select (sb_body s f) f.sparse.entries 0 ≡ 0
  unfolding position_of first_set
  entry_zero =
      let r = bits_room f.sparse.entries (sb_body s f) (bodies_sized s f v.frame).sb in
      sym (position_select (sb_body s f) f.sparse.entries 0 r) ∙ go (bits (sb_body s f) f.sparse.entries) v.first
    where
      go : (bs : Bits) → first_set bs ≡ true → position_of 0 bs ≡ 0
      go [] h = refl
      go (true ∷ bs) h = refl
      go (false ∷ bs) h = absurd (true≢false (sym h))

  -- no sparse entry stands before a dense node
  pub entry_dense : (i : ℕ) → i ≤ f.dense.nodes → first_entry s f i ≡ 0
  entry_dense i h = let z : i - f.dense.nodes ≡ 0 = omega arith in ap (select (sb_body s f) f.sparse.entries) z ∙ entry_zero

  -- the branches before a sparse node: those of the dense nodes, and the entries that continue before its first
  pub branches_from : (i : ℕ) → f.dense.nodes ≤ i → branches_before s f i ≡ f.totals.children + rank (sc_body s f) (first_entry s f i)
  branches_from i h = go (leb i f.dense.nodes) refl
    where
      go : (b : Bool) → leb i f.dense.nodes ≡ b → branches_before s f i ≡ f.totals.children + rank (sc_body s f) (first_entry s f i)
      go true e =
          let q : i ≡ f.dense.nodes = omega (arith, leb-true i f.dense.nodes e) in
          omega (
            arith,
            branches_dense f.dense.nodes f.sparse.entries (dc_body s f) (sc_body s f) (sb_body s f) i (omega arith),
            ap (λ (n : ℕ). rank (dc_body s f) (256 * n)) q,
            dense_children s f v.frame,
            ap (rank (sc_body s f)) (entry_dense i (omega arith)),
            rank_zero (sc_body s f),
          )
      go false e =
          branches_sparse f.dense.nodes f.sparse.entries (dc_body s f) (sc_body s f) (sb_body s f) i (leb-false i f.dense.nodes e)
          ∙ ap (λ (k : ℕ). k + rank (sc_body s f) (first_entry s f i)) (sym (dense_children s f v.frame))

  -- the sparse nodes that start before a node's first entry
  pub starts_before : (i : ℕ) → i ≤ node_count f → rank (sb_body s f) (first_entry s f i) ≡ i - f.dense.nodes
  starts_before i h = rank_select (sb_body s f) f.sparse.entries (i - f.dense.nodes) (omega (arith, v.count))

  -- the root's level
  pub level_root : (l : Level) → l.node.0 ≡ 0 → l.entry.0 ≡ 0 → l.branches ≡ 0 → LevelOf s f l
  level_root l a b c =
      let n : 0 ≤ f.dense.nodes = omega arith in
      record {
        within = omega arith;
        entry = rw a (b ∙ sym (entry_dense 0 n));
        branches = rw a (c ∙ sym (branches_dense f.dense.nodes f.sparse.entries (dc_body s f) (sc_body s f) (sb_body s f) 0 n ∙ rank_zero (dc_body s f)));
      }

  -- the first sparse level
  pub level_sparse : (l : Level) → l.node.0 ≡ f.dense.nodes → l.entry.0 ≡ 0 → l.branches ≡ f.totals.children → LevelOf s f l
  level_sparse l a b c =
      let n : f.dense.nodes ≤ f.dense.nodes = omega arith in
      let z : first_entry s f f.dense.nodes ≡ 0 = entry_dense f.dense.nodes n in
      record {
        within = omega arith;
        entry = rw a (b ∙ sym z);
        branches = rw a (omega (arith, branches_from f.dense.nodes n, ap (rank (sc_body s f)) z, rank_zero (sc_body s f)));
      }

  module _ (l : Level) (o : LevelOf s f l) where
    -- the entry lies within the entries
    pub entry_within : l.entry.0 ≤ f.sparse.entries
    entry_within = omega (arith, o.entry, select_le (sb_body s f) f.sparse.entries (l.node.0 - f.dense.nodes))

    -- the sparse nodes before the level
    pub level_nodes : l.node.0 - f.dense.nodes ≡ rank (sb_body s f) l.entry.0
    level_nodes = sym (ap (rank (sb_body s f)) o.entry ∙ starts_before l.node.0 o.within)

    -- the sparse entries that continue before the level
    pub level_children : l.branches - f.totals.children ≡ rank (sc_body s f) l.entry.0
    level_children = go (leb f.dense.nodes l.node.0) refl
      where
        go : (b : Bool) → leb f.dense.nodes l.node.0 ≡ b → l.branches - f.totals.children ≡ rank (sc_body s f) l.entry.0
        go true e = omega (arith, o.branches, branches_from l.node.0 (leb-true f.dense.nodes l.node.0 e), ap (rank (sc_body s f)) o.entry)
        go false e =
            let h = leb-false f.dense.nodes l.node.0 e in
            omega (
              arith,
              o.branches,
              branches_dense f.dense.nodes f.sparse.entries (dc_body s f) (sc_body s f) (sb_body s f) l.node.0 (omega arith),
              rank_up (dc_body s f) (256 * l.node.0) (256 * f.dense.nodes) (omega arith),
              dense_children s f v.frame,
              ap (rank (sc_body s f)) (o.entry ∙ entry_dense l.node.0 (omega arith)),
              rank_zero (sc_body s f),
            )

    -- a later node's entry is not before the level's
    pub entry_up : (i : ℕ) → l.node.0 ≤ i → l.entry.0 ≤ first_entry s f i
    entry_up i h = omega (arith, o.entry, select_up (sb_body s f) f.sparse.entries (l.node.0 - f.dense.nodes) (i - f.dense.nodes) (omega arith))

    -- a level of dense nodes: the branches before it by D-HasChild
    pub level_dense : l.node.0 ≤ f.dense.nodes → l.branches ≡ rank (dc_body s f) (256 * l.node.0)
    level_dense h = o.branches ∙ branches_dense f.dense.nodes f.sparse.entries (dc_body s f) (sc_body s f) (sb_body s f) l.node.0 h

  -- a level of dense nodes, by its branches
  pub dense_level : (l : Level) → l.node.0 ≤ f.dense.nodes → l.entry.0 ≡ 0 → l.branches ≡ rank (dc_body s f) (256 * l.node.0) → LevelOf s f l
  dense_level l h e b = record {
    within = omega arith;
    entry = e ∙ sym (entry_dense l.node.0 h);
    branches = b ∙ sym (branches_dense f.dense.nodes f.sparse.entries (dc_body s f) (sc_body s f) (sb_body s f) l.node.0 h);
  }

  -- a level of sparse nodes, by its entry
  pub sparse_level : (l : Level) → f.dense.nodes ≤ l.node.0 → l.node.0 ≤ node_count f → l.entry.0 ≡ first_entry s f l.node.0
      → l.branches ≡ f.totals.children + rank (sc_body s f) l.entry.0 → LevelOf s f l
  sparse_level l low high e b = record {
    within = high;
    entry = e;
    branches = b ∙ ap (λ (k : ℕ). f.totals.children + rank (sc_body s f) k) e ∙ sym (branches_from l.node.0 low);
  }
