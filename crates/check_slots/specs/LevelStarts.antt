-- The first node on each level of an image that passed the numbers 11 to 15, and the leaves before it, by ranks and selects: what number 16 needs to find the levels 62 and 63.
use Prim.Native.Nat.{ℕ, zero, suc, ◌+◌, ◌-◌, ◌*◌, ◌<◌, ◌≤◌}
use Rattle.std.specs.Prelude.{◌≡◌, Bool, ◌&&◌, length, take, leb, eqb}
use Rattle.std.proofs.Math.Path.{refl, sym, ap}
use Rattle.std.proofs.Common.{ap₂, ◌∙◌, arith, take_all, eqb-true, eq-eqb, le-leb, lt-ltb}
use Rattle.std.proofs.Math.Bool.{true, false, cond}
use mathlib.Core.List.{List, [], ◌∷◌, ◌++◌, map}
use Rattle.std.proofs.Math.Seq.{take-append-add}
use Rattle.std.proofs.Math.Dec.{ltb}
use Rattle.std.proofs.lemmas.Bool.{eqb-false}
use Rattle.spec.specs.Bytes.{Bytes, concat, ones, le32}
use Rattle.spec.specs.Image.{slot_width, level_starts}
use Rattle.spec.specs.Frame.{Parts}
use Rattle.spec.specs.Nodes.{Shape, Node, zip_entries, split, sparse_shape, sparse_nodes, nodes_of, dense_shapes, children_of, total, later, levels_of}
use Rattle.spec.specs.Trie.{nodes_valid, leaf_count}
use Rattle.bits.specs.Bits.{rank, select}
use Rattle.bits.proofs.PartLaws.{bits_room}
use Rattle.bits.proofs.RankLaws.{rank_le, rank_zero}
use Rattle.bits_select.specs.SelectLaws.{select_all}
use Rattle.image.specs.FrameOf.{frame_parts}
use Rattle.image.specs.declared.Frame.{Frame}
use Rattle.check_levels.specs.Tests.{and}
use Rattle.check_levels.specs.LevelEnds.{before, rise, level_end, nodes_above, nodes_above_ext, levels_are}
use Rattle.check_levels.specs.Shapes.{leaves_at, before_slotted}
use Rattle.check_levels.specs.DenseNodes.{length_dense, dense_leaves}
use Rattle.check_levels.specs.BitTests.{counts_valid, long, before_all}
use Rattle.check_levels.specs.NodeBranches.{branches_dense, branches_are}
use Rattle.check_levels.specs.Positions.{ones_all}
use Rattle.check_levels.specs.Bodies.{dl_body, dc_body, dp_body, sl_body, sc_body, sb_body, bodies_sized, parts_sized, dense_children, dense_entries}
use Rattle.check_levels.specs.Levels.{node_count, branches_before, first_entry, levels_valid}
use Rattle.check_levels.specs.BodyTests.{louds_test, dense_test, sparse_test, sums_test, child_count, in_order, counts_none, by_sums, some_nodes}
use Rattle.check_slots.specs.LevelSlots.{above, above_up}
use Rattle.check_slots.specs.SparseExact.{sparse_slot}
use Rattle.check_slots.specs.LeavesBefore.{sparse_leaves}
use Rattle.check_slots.specs.Passed.{PassedTo15, BitsValid, trie_valid, bits_pass}
use Rattle.theory.proofs.TrieTests.{nodes_valid_none, nodes_valid_true, nodes_valid_levels, nodes_valid_leaves}
use Rattle.theory.proofs.Lists.{and_both}
use Rattle.theory.proofs.NodeBits.{length_slotted}
use Rattle.theory.proofs.LinkedLevels.{Linked, first_width}
use Rattle.theory.proofs.Levels.{total_append, nodes_bound}
use Rattle.theory.proofs.LevelStarts.{starts_from, starts_ext, root_starts}

-- ---- ends of levels, from the last

module _ (K : ℕ → ℕ) (N : ℕ) where
  abbrev next_end : ℕ → ℕ
  next_end e = cond (ltb e N) (K e + 1) e

  level_end_last : (t e : ℕ) → level_end K N (suc t) e ≡ next_end (level_end K N t e)
  unfolding level_end
  level_end_last zero e = refl
  level_end_last (suc t) e = go (ltb e N) refl (level_end_last t (K e + 1))
    where
      go : (b : Bool) → ltb e N ≡ b → level_end K N (suc t) (K e + 1) ≡ next_end (level_end K N t (K e + 1))
          → cond b (level_end K N (suc t) (K e + 1)) e ≡ next_end (cond b (level_end K N t (K e + 1)) e)
      go true p ih = ih
      go false p ih = sym (ap (λ (b : Bool). cond b (K e + 1) e) p)

  nodes_above_last : (t : ℕ) → K 0 ≡ 0 → 0 < N → nodes_above K N (suc t) ≡ next_end (nodes_above K N t)
  unfolding nodes_above level_end
  nodes_above_last zero z h = rw (lt-ltb 0 N h, z)
  nodes_above_last (suc t) z h = level_end_last t 1

-- ---- the levels of nodes that pass number 14

record LevelsOfNodes (ns : List Node) : Type 0 where
  linked : Linked (levels_of ns)
  root : first_width (levels_of ns) ≡ 1
  whole : concat (levels_of ns) ≡ ns
  shallow : length (levels_of ns) ≤ 64
  ends : (t : ℕ) → t ≤ 64 → above (levels_of ns) t ≡ nodes_above (before children_of ns) (length ns) t

node_levels : (levels dense leaves : ℕ) (ns : List Node) → nodes_valid levels dense leaves ns ≡ true → 0 < leaves → LevelsOfNodes ns
unfolding levels_of
node_levels levels dense leaves [] h l = absurd (omega (arith, eqb-true leaves 0 (sym (nodes_valid_none levels dense leaves) ∙ h)))
node_levels levels dense leaves (r ∷ ns) h l =
    let b = nodes_valid_true levels dense leaves r ns h in
    let o = nodes_valid_levels r ns b in
    record {
      linked = o.linked;
      root = o.wide;
      whole = o.whole;
      shallow = b.shallow;
      ends = λ t u.
          let e : ℕ = above (levels_of (r ∷ ns)) t in
          let w = levels_are children_of (r ∷ ns) b.node_total t (above (levels_of (r ∷ ns)) t) u in
          sym (eqb-true _ _ (and_both (rise (before children_of (r ∷ ns)) (length (r ∷ ns)) 63 1) (eqb (nodes_above (before children_of (r ∷ ns)) (length (r ∷ ns)) t) (above (levels_of (r ∷ ns)) t))
          (sym w ∙ and (later children_of 0 0 (r ∷ ns) && leb (length (levels_of (r ∷ ns))) 64) (eqb (above (levels_of (r ∷ ns)) t) (above (levels_of (r ∷ ns)) t))
          (and (later children_of 0 0 (r ∷ ns)) (leb (length (levels_of (r ∷ ns))) 64) b.leads_later (le-leb (length (levels_of (r ∷ ns))) 64 b.shallow))
          (eq-eqb (above (levels_of (r ∷ ns)) t) (above (levels_of (r ∷ ns)) t) refl))).1);
    }

-- ---- an image

-- the first node on level t, or the node count
unfoldable pub level_start : Bytes → Frame → ℕ → ℕ
level_start s f t = nodes_above (branches_before s f) (node_count f) t

-- the leaves of the dense nodes
abbrev pub dense_leaf_count : Frame → ℕ
dense_leaf_count f = f.totals.entries - f.totals.children

-- the leaves before sparse node i
abbrev pub leaves_to : Bytes → Frame → ℕ → ℕ
leaves_to s f i = sparse_slot (sc_body s f) (dense_leaf_count f) (first_entry s f i)

-- the counts of leaves and of nodes agree
pub record CountsAgree (s : Bytes) (f : Frame) : Type 0 where
  -- there is a node
  pub some_node : 0 < node_count f
  -- the entries are leaves and continuing branches
  pub leaf_total : f.totals.entries + f.sparse.entries ≡ f.leaves + child_count s f
  -- the nodes are the root and one for each continuing branch
  pub node_total : node_count f ≡ child_count s f + 1
  -- the dense nodes are those above the first sparse level
  pub top : level_start s f f.dense.levels ≡ f.dense.nodes

-- the branches that continue before node e of an image, by its bits
module _ (s : Bytes) (f : Frame) (j : PassedTo15 s f) where
  abbrev q : Parts
  q = frame_parts s f

  bits_good : BitsValid s f
  bits_good = bits_pass s f j

  set_count : ones q.sb ≡ f.sparse.nodes
  set_count = ones_all (sb_body s f) f.sparse.entries ∙ bits_good.louds.count

  -- as many nodes as the counts say
  pub nodes_long : length (nodes_of (frame_parts s f)) ≡ node_count f
  unfolding nodes_of sparse_nodes
  nodes_long =
      length_slotted (slot_width q.settings) (dense_shapes q.dl q.dc q.dp ++ map sparse_shape (split (zip_entries q.sl q.sc) q.sb)) q.sv
      ∙ long q (parts_sized s f j.frame) bits_good.louds.first set_count bits_good.within bits_good.extra

  -- the branches that continue before a node
  pub nodes_before : (e : ℕ) → before children_of (nodes_of (frame_parts s f)) e ≡ branches_before s f e
  unfolding nodes_of sparse_nodes
  nodes_before e =
      before_slotted (slot_width q.settings) (dense_shapes q.dl q.dc q.dp ++ map sparse_shape (split (zip_entries q.sl q.sc) q.sb)) q.sv e
      ∙ before_all q (parts_sized s f j.frame) bits_good.louds.first set_count bits_good.within bits_good.extra e
      ∙ branches_are f.dense.nodes f.sparse.entries (dc_body s f) (sc_body s f) (sb_body s f) (bits_room f.sparse.entries (sb_body s f) (bodies_sized s f j.frame).sb) e

module _ (s : Bytes) (f : Frame) (j : PassedTo15 s f) (some : 0 < f.leaves) where
  abbrev p : Parts
  p = frame_parts s f

  abbrev K : ℕ → ℕ
  K = branches_before s f

  abbrev N : ℕ
  N = node_count f

  pub counts : CountsAgree s f
  unfolding level_start
  counts = go (eqb N 0) refl
    where
      pass : counts_valid p ≡ true
      pass =
          let q = and_both (louds_test s f) (dense_test s f && sparse_test s f && counts_valid p) (sym (in_order s f j.frame) ∙ trie_valid s f j) in
          (and_both (dense_test s f && sparse_test s f) (counts_valid p) q.1).1

      L : Bool
      L = eqb (f.totals.entries + f.sparse.entries) (f.leaves + child_count s f)

      M : Bool
      M = eqb N (child_count s f + 1)

      go : (b : Bool) → eqb N 0 ≡ b → CountsAgree s f
      go true e = absurd (omega (arith, eqb-true f.leaves 0 (sym (counts_none s f j.frame (eqb-true N 0 e)) ∙ pass)))
      go false e =
          let n : 0 < N = some_nodes N (eqb-false N 0 e) in
          let q = and_both (sums_test f (child_count s f)) (levels_valid s f) (sym (by_sums s f j.frame n) ∙ pass) in
          let r = and_both (L && ltb 0 f.leaves) M q.0 in
          record {
            some_node = n;
            leaf_total = eqb-true (f.totals.entries + f.sparse.entries) (f.leaves + child_count s f) (and_both L (ltb 0 f.leaves) r.0).0;
            node_total = eqb-true N (child_count s f + 1) r.1;
            top = eqb-true (nodes_above K N f.dense.levels) f.dense.nodes (and_both (rise K N 63 1) (eqb (nodes_above K N f.dense.levels) f.dense.nodes) q.1).1;
          }

  abbrev dense_part : List Shape
  dense_part = dense_shapes p.dl p.dc p.dp

  abbrev sparse_part : List Shape
  sparse_part = map sparse_shape (split (zip_entries p.sl p.sc) p.sb)

  pass : BitsValid s f
  pass = bits_pass s f j

  node_long : length (nodes_of p) ≡ N
  node_long = nodes_long s f j

  in_levels : LevelsOfNodes (nodes_of p)
  in_levels = node_levels f.dense.levels f.dense.nodes f.leaves (nodes_of p) pass.nodes some

  -- the levels are all the nodes, and at most 64
  pub levels_whole : (concat (levels_of (nodes_of (frame_parts s f))) ≡ nodes_of (frame_parts s f)) × (length (levels_of (nodes_of (frame_parts s f))) ≤ 64)
  levels_whole = (in_levels.whole, in_levels.shallow)

  -- they are few
  pub nodes_few : node_count f ≤ 4194240
  nodes_few =
      let l : leaf_count (concat (levels_of (nodes_of p))) ≤ 65535 = rw in_levels.whole (omega (arith, nodes_valid_leaves f.dense.levels f.dense.nodes f.leaves (nodes_of p) pass.nodes, j.frame.leaves)) in
      let e : length (concat (take 64 (levels_of (nodes_of p)))) ≡ node_count f = ap (λ (ls : List (List Node)). length (concat ls)) (take_all 64 (levels_of (nodes_of p)) in_levels.shallow) ∙ ap length in_levels.whole ∙ node_long in
      omega (arith, nodes_bound 64 65535 (levels_of (nodes_of p)) in_levels.linked l, e)

  -- the nodes on the first t levels
  pub start_is : (t : ℕ) → t ≤ 64 → above (levels_of (nodes_of (frame_parts s f))) t ≡ level_start s f t
  unfolding level_start
  start_is t u = in_levels.ends t u ∙ ap (λ (m : ℕ). nodes_above (before children_of (nodes_of p)) m t) node_long ∙ nodes_above_ext (before children_of (nodes_of p)) K N (λ e l. nodes_before s f j e) t

  -- the first nodes of the levels, one from another
  pub starts_are : level_starts (map length (levels_of (nodes_of (frame_parts s f)))) ≡ concat (map le32 (starts_from (branches_before s f) (node_count f) 64 0))
  starts_are =
      root_starts (levels_of (nodes_of p)) in_levels.linked in_levels.root in_levels.shallow
      ∙ ap (λ (ns : List Node). concat (map le32 (starts_from (before children_of ns) (length ns) 64 0))) in_levels.whole
      ∙ ap (λ (m : ℕ). concat (map le32 (starts_from (before children_of (nodes_of p)) m 64 0))) node_long
      ∙ ap (λ (xs : List ℕ). concat (map le32 xs)) (starts_ext (before children_of (nodes_of p)) K N (λ e l. nodes_before s f j e) 64 0)

  K_root : K 0 ≡ 0
  K_root = branches_dense f.dense.nodes f.sparse.entries (dc_body s f) (sc_body s f) (sb_body s f) 0 (omega arith) ∙ rank_zero (dc_body s f)

  -- levels start one behind the other
  pub start_up : (t : ℕ) → t < 64 → level_start s f t ≤ level_start s f (suc t)
  start_up t h = omega (arith, start_is t (omega arith), start_is (suc t) (omega arith), above_up (levels_of (nodes_of p)) t)

  -- the first sparse level starts at the first sparse node
  pub start_first : level_start s f f.dense.levels ≡ f.dense.nodes
  unfolding level_start
  start_first = counts.top

  -- a sparse level starts behind the dense nodes
  pub start_low : (t : ℕ) → f.dense.levels ≤ t → t ≤ 64 → f.dense.nodes ≤ level_start s f t
  start_low t h l =
      let e : f.dense.levels + (t - f.dense.levels) ≡ t = omega arith in
      rw e at (up (t - f.dense.levels) (omega arith))
    where
      up : (k : ℕ) → f.dense.levels + k ≤ 64 → f.dense.nodes ≤ level_start s f (f.dense.levels + k)
      up zero l = let e : f.dense.levels + 0 ≡ f.dense.levels = omega arith in rw e (omega (arith, start_first))
      up (suc k) l = let e : f.dense.levels + suc k ≡ suc (f.dense.levels + k) = omega arith in rw e (omega (arith, up k (omega arith), start_up (f.dense.levels + k) (omega arith)))

  -- the level below one starts behind the branches that continue before that one's start
  pub start_next : (t : ℕ) → level_start s f (suc t) ≡ cond (ltb (level_start s f t) (node_count f)) (branches_before s f (level_start s f t) + 1) (level_start s f t)
  unfolding level_start
  start_next t = nodes_above_last K N t K_root counts.some_node

  -- no level starts at 64
  pub start_last : level_start s f 64 ≡ node_count f
  start_last = sym (start_is 64 (omega arith)) ∙ ap (λ (ls : List (List Node)). length (concat ls)) (take_all 64 (levels_of (nodes_of p)) in_levels.shallow) ∙ ap length in_levels.whole ∙ node_long

  -- the leaves of the dense nodes are their entries that do not continue
  dense_total : total leaves_at dense_part + f.totals.children ≡ f.totals.entries
  dense_total =
      let z = parts_sized s f j.frame in
      omega (
        arith,
        dense_leaves p.dl p.dc p.dp (omega (arith, z.dl, z.dp)) (omega (arith, z.dc, z.dp)) pass.within,
        ones_all (dl_body s f) (256 * f.dense.nodes),
        ones_all (dc_body s f) (256 * f.dense.nodes),
        ones_all (dp_body s f) f.dense.nodes,
        dense_entries s f j.frame,
        dense_children s f j.frame,
      )

  pub dense_part_leaves : total leaves_at dense_part ≡ dense_leaf_count f
  dense_part_leaves = omega (arith, dense_total)

  -- no more of them continue than there are
  pub dense_room : f.totals.children ≤ f.totals.entries
  dense_room = omega (arith, dense_total)

  -- the leaves before a sparse node
  pub leaves_before : (i : ℕ) → f.dense.nodes ≤ i → total leaves_at (take i (dense_part ++ sparse_part)) ≡ leaves_to s f i
  leaves_before i h =
      let z = bodies_sized s f j.frame in
      let m : ℕ = i - f.dense.nodes in
      let q : length dense_part + m ≡ i = omega (arith, length_dense p.dl p.dc p.dp, (parts_sized s f j.frame).dp) in
      ap (λ (k : ℕ). total leaves_at (take k (dense_part ++ sparse_part))) (sym q) ∙ ap (total leaves_at) (take-append-add dense_part sparse_part m)
      ∙ total_append leaves_at dense_part (take m sparse_part)
      ∙ ap₂ ◌+◌ dense_part_leaves (sparse_leaves (sl_body s f) (sc_body s f) (sb_body s f) f.sparse.entries z.sl (omega (arith, z.sc)) (omega (arith, z.sb)) pass.louds.first pass.extra m)

  -- no more than all leaves
  pub dense_few : dense_leaf_count f ≤ 65535
  dense_few = few counts.leaf_total (rank_le (sc_body s f) f.sparse.entries) j.frame.leaves
    where
      few : {r : ℕ} → f.totals.entries + f.sparse.entries ≡ f.leaves + (f.totals.children + r) → r ≤ f.sparse.entries → f.leaves ≤ 65535 → dense_leaf_count f ≤ 65535
      few e h l = omega arith

  -- all sparse entries
  pub entries_last : first_entry s f (node_count f) ≡ f.sparse.entries
  entries_last =
      let e : node_count f - f.dense.nodes ≡ f.sparse.nodes = omega arith in
      ap (select (sb_body s f) f.sparse.entries) e ∙ select_all (sb_body s f) f.sparse.entries f.sparse.nodes (omega (arith, pass.louds.count))

  -- all leaves
  pub leaves_last : leaves_to s f (node_count f) ≡ f.leaves
  leaves_last =
      let r : rank (sc_body s f) (first_entry s f (node_count f)) ≡ rank (sc_body s f) f.sparse.entries = ap (rank (sc_body s f)) entries_last in
      omega (arith, entries_last, rank_le (sc_body s f) f.sparse.entries, counts.leaf_total, dense_room)
