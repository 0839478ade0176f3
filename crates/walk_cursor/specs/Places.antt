-- Places of a walk: the leaf at a place by what the cursor holds, the leaves behind it, and the first place.
use Rattle.std.specs.Prelude.{ℕ, zero, suc, ◌+◌, ◌-◌, ◌<◌, ◌≤◌, ◌≡◌, refl, true, false, List, [], ◌∷◌, length, get_or, take, drop}
use Rattle.std.proofs.Common.{sym, ap, ◌∙◌, arith, add-one, length-drop, drop_of_length-le}
use Rattle.std.proofs.Math.Option.{some}
use Rattle.std.proofs.Math.ListN.{get_elem?}
use Rattle.spec.specs.Bytes.{Bytes, low_bits}
use Rattle.spec.specs.Leaves.{Leaf}
use Rattle.spec.specs.Nodes.{read_leaves, exact_slot}
use Rattle.image.specs.declared.Frame.{Frame}
use Rattle.image.specs.declared.Leaf.{Leaf as Value}
use Rattle.image.specs.declared.ValuePos.{ValuePos}
use Rattle.image.specs.Value.{leaf_of}
use Rattle.nav_nodes.specs.declared.BranchKind.TheVariants.{Absent}
use Rattle.nav_branches.specs.declared.LeafStop.{LeafStop}
use Rattle.nav_branches.specs.declared.LeafStop.TheVariants.{Nowhere, Exact, Open}
use Rattle.nav_nodes.specs.NumberBounds as root
use Rattle.nav_nodes.specs.Slots.{node_at, slot_of}
use Rattle.nav_nodes.specs.Accepted.{Accepted, nodes}
use Rattle.nav_branches.specs.Below.{drop_next}
use Rattle.nav_branches.specs.Paths.{node_on, onward, standing, standing_none, standing_exact, standing_open}
use Rattle.nav_branches.specs.PathSteps.{ends_none}
use Rattle.nav_branches.specs.declared.paths.Higher.{Higher}
use Rattle.nav_branches.specs.PathContracts.{Searchable, NextHigher}
use Rattle.walk_cursor.specs.SuffixNumber.{number_zero}
use Rattle.walk_cursor.specs.declared.Cursor.{Cursor}
use Rattle.nav_branches.specs.declared.LeafEnd.{LeafEnd}
use Rattle.walk_path.specs.declared.moves.Resume.{Resume}
use Rattle.walk_path.specs.declared.moves.Trail.{Trail}
use Rattle.walk_path.specs.Levels.{numbered, path_of, Levels, Descended}
use Rattle.walk_cursor.specs.Stands.{Stands, AtLeaf, StandsAt, NoLeaf, cursor_of, ResumesFrom, ReadsLeaf, IsLeaf}
use Rattle.theory.proofs.Lists.{all_at}
use Rattle.theory.proofs.LeafLists.{Shortest}

-- An accepted image has as many leaves as its frame says.
pub leaf_total : (s : Bytes) (f : Frame) → Accepted s f → length (read_leaves s) ≡ f.leaves
leaf_total s f a = sym (root.leaf_total f.width (read_leaves s) (nodes s f) a.realizable a.well_sized a.trie_is) ∙ a.writable.leaf_total

-- the member at a place
pub found_at : (ls : List Leaf) (p : ℕ) (l : Leaf) (rest : List Leaf) → drop p ls ≡ l ∷ rest → get_elem? ls p ≡ some l
found_at [] zero l rest e = let z : ◌≡◌ {A = ℕ} 0 1 = cc in absurd (omega arith)
found_at [] (suc p) l rest e = let z : ◌≡◌ {A = ℕ} 0 1 = cc in absurd (omega arith)
found_at (x ∷ ls) zero l rest e = cc
found_at (x ∷ ls) (suc p) l rest e = found_at ls p l rest e

-- with those behind it
member_at : (ls : List Leaf) (p : ℕ) (l : Leaf) (rest : List Leaf) → drop p ls ≡ l ∷ rest → (get_elem? ls p ≡ some l) × (drop (p + 1) ls ≡ rest)
member_at ls p l rest e = (found_at ls p l rest e, rw (add-one p) (drop_next ls p l rest e))

-- ---- no leaf

-- the cursor stands behind the last leaf
pub stands_none : (s : Bytes) (f : Frame) (place : ℕ) (c : Cursor) → NoLeaf place c → place ≤ f.leaves → drop place (read_leaves s) ≡ [] → StandsAt s f place c
stands_none s f place c n h e = record {
  stands = record {
    within = omega (arith, n.place_is);
    ends = rw (n.stop_is, n.depth_is) (ends_none s f (numbered c.trail.nodes));
    kept = record {
      exact_end = λ q. let t = sym n.stop_is ∙ q in let z : ◌≡◌ {A = ℕ} 0 1 = cc in absurd (omega arith);
      open_end = λ v q. let t = sym n.stop_is ∙ q in let z : ◌≡◌ {A = ℕ} 0 1 = cc in absurd (omega arith);
    };
    room = n.room;
    leaves_are = rw (n.stop_is, n.place_is) (e ∙ sym (standing_none f.width (nodes s f) (numbered c.trail.nodes) c.trail.labels c.end.depth));
  };
  place_is = n.place_is;
}

-- at the place behind all leaves
pub stands_done : (s : Bytes) (f : Frame) → Accepted s f → (place : ℕ) (c : Cursor) → NoLeaf place c → place ≡ f.leaves → StandsAt s f place c
stands_done s f a place c n e = stands_none s f place c n (omega arith) (drop_of_length-le (read_leaves s) {i = place} (omega (arith, leaf_total s f a)))

-- ---- a place with a leaf

-- From the path's node at this depth and this label on come the leaves behind the cursor's.
pub record Resumes (s : Bytes) (f : Frame) (c : Cursor) (depth from : ℕ) : Type 0 where
  -- the path can be searched from there
  pub searchable : Searchable s f (path_of c.trail.nodes c.trail.labels) depth from
  pub levels : Levels s f c.trail.nodes c.trail.entries c.trail.labels depth from
  pub leaves_are : drop (c.place + 1) (read_leaves s) ≡ onward (nodes s f) (numbered c.trail.nodes) c.trail.labels depth from

module _ (s : Bytes) (f : Frame) (c : Cursor) (w : AtLeaf s f c) where
  leaves_by : (stop : LeafStop) → c.end.stop ≡ stop → drop c.place (read_leaves s) ≡ standing f.width (nodes s f) (numbered c.trail.nodes) c.trail.labels c.end.depth stop
  leaves_by stop e = rw (← e) w.stands.leaves_are

  -- a cursor that stands at no open leaf stands at an exact one
  pub exact_stop : ((v : ValuePos) → c.end.stop ≡ Open v → ⊥) → c.end.stop ≡ Exact
  exact_stop h = go c.end.stop refl
    where
      go : (stop : LeafStop) → c.end.stop ≡ stop → c.end.stop ≡ Exact
      go Nowhere e =
          absurd (omega (arith, w.inside, leaf_total s f w.accepted, length-drop c.place (read_leaves s), ap length (leaves_by Nowhere e ∙ standing_none f.width (nodes s f) (numbered c.trail.nodes) c.trail.labels c.end.depth)))
      go Exact e = e
      go (Open v) e = absurd (h v e)

  somewhere : c.end.stop ≡ Nowhere → ⊥
  somewhere e =
      let x = sym e ∙ exact_stop (λ v q. let t = sym e ∙ q in let z : ◌≡◌ {A = ℕ} 0 1 = cc in omega arith) in
      let z : ◌≡◌ {A = ℕ} 0 1 = cc in
      omega arith

  module _ (v : ValuePos) (e : c.end.stop ≡ Open v) where
    open_member : (get_elem? (read_leaves s) c.place ≡ some (record { cut = take c.end.depth c.trail.labels; exact = false; suffix = slot_of f.width (nodes s f) v.0 }))
        × (drop (c.place + 1) (read_leaves s) ≡ onward (nodes s f) (numbered c.trail.nodes) c.trail.labels (c.end.depth - 1) (get_or c.trail.labels (c.end.depth - 1) 0 + 1))
    open_member = member_at (read_leaves s) c.place _ _ (leaves_by (Open v) e ∙ standing_open f.width (nodes s f) (numbered c.trail.nodes) c.trail.labels c.end.depth v (w.stands.ends.open_end v e).0)

    -- an open leaf, with the bits of its slot as a number
    pub open_leaf : (x : ℕ) → low_bits f.width x ≡ slot_of f.width (nodes s f) v.0 → get_elem? (read_leaves s) c.place ≡ some (record { cut = take c.end.depth c.trail.labels; exact = false; suffix = low_bits f.width x })
    open_leaf x h = rw h open_member.0

    -- behind it come the higher labels of its node
    pub resumes_open : (depth from x : ℕ) → depth ≡ c.end.depth - 1 → x ≡ get_or c.trail.labels (c.end.depth - 1) 0 → x < 256 → from ≡ x + 1 → Resumes s f c depth from
    resumes_open depth from x u y byte z =
        let o = w.stands.ends.open_end v e in
        rw (u, z, y) (record {
          searchable = record { accepted = w.accepted; deep = omega (arith, o.0, w.stands.ends.depth); label_range = omega arith; on = o.2 };
          levels = w.stands.kept.open_end v e;
          leaves_are = open_member.1;
        })

  module _ (e : c.end.stop ≡ Exact) where
    exact_member : (get_elem? (read_leaves s) c.place ≡ some (record { cut = take c.end.depth c.trail.labels; exact = true; suffix = exact_slot (node_at (nodes s f) (node_on (numbered c.trail.nodes) c.end.depth)) }))
        × (drop (c.place + 1) (read_leaves s) ≡ onward (nodes s f) (numbered c.trail.nodes) c.trail.labels c.end.depth 0)
    exact_member = member_at (read_leaves s) c.place _ _ (leaves_by Exact e ∙ standing_exact f.width (nodes s f) (numbered c.trail.nodes) c.trail.labels c.end.depth)

    -- an exact leaf, whose suffix is all zeros
    pub exact_leaf : get_elem? (read_leaves s) c.place ≡ some (record { cut = take c.end.depth c.trail.labels; exact = true; suffix = low_bits f.width 0 })
    exact_leaf =
        let m = exact_member.0 in
        let z = (all_at (Shortest f.width (read_leaves s)) (read_leaves s) c.place _ w.accepted.realizable.shortest m).blank refl in
        rw (number_zero f.width) (rw z at m)

    -- behind it come its node's branches
    pub resumes_exact : (depth from : ℕ) → depth ≡ c.end.depth → from ≡ 0 → Resumes s f c depth from
    resumes_exact depth from u v =
        let o = w.stands.ends.exact_end e in
        rw (u, v) (record { searchable = record { accepted = w.accepted; deep = o.0; label_range = omega arith; on = o.1 }; levels = w.stands.kept.exact_end e; leaves_are = exact_member.1 })

  -- ---- the next place

  -- where the search for the next leaf starts
  pub resumes : (r : Resume) → ResumesFrom c.trail.labels c.end r → Resumes s f c r.depth r.from
  resumes r q = go c.end.stop refl
    where
      go : (stop : LeafStop) → c.end.stop ≡ stop → Resumes s f c r.depth r.from
      go Nowhere e = absurd (somewhere e)
      go Exact e = let x = q.exact_end e in resumes_exact e r.depth r.from x.0 x.1
      go (Open v) e = let x = q.open_end v e in resumes_open v e r.depth r.from (get_or c.trail.labels (c.end.depth - 1) 0) x.0 refl (omega (arith, x.1, x.2)) x.1

  module _ (depth from : ℕ) (r : Resumes s f c depth from) (h : Higher) (n : NextHigher s f (path_of c.trail.nodes c.trail.labels) depth from h) where
    -- no higher branch is left: behind the last leaf
    pub stands_last : h.branch.kind ≡ Absent → (d : Cursor) → NoLeaf (c.place + 1) d → Stands s f d
    stands_last e d q = (stands_none s f (c.place + 1) d q (omega (arith, w.inside)) (r.leaves_are ∙ n.none e)).stands

    -- one is left: the first leaf behind it
    pub stands_next : (h.branch.kind ≡ Absent → ⊥) → (t : Trail) (e : LeafEnd) → Descended s f c.trail.nodes c.trail.labels h.depth h.branch.label t.nodes t.entries t.labels e
        → Stands s f (cursor_of t e (c.place + 1))
    stands_next there t e g = record {
      within = omega (arith, w.inside);
      ends = g.reaches.levels (λ i l. r.searchable.on i (omega (arith, n.above)));
      leaves_are = r.leaves_are ∙ (n.found there).leaves_are ∙ g.reaches.leaves_are;
      kept = g.kept;
      room = g.room;
    }

  -- ---- the leaf by value

  -- the leaf where the path ends is the one at the cursor's place
  pub leaf_read : (v : Value) → ReadsLeaf s f c.trail.labels c.end v → IsLeaf s c.place v
  leaf_read v r = record { leaf_is = go c.end.stop refl; sized = (omega (arith, r.len_is, w.stands.ends.depth), omega (arith, r.width_is, w.accepted.writable.width_range)) }
    where
      go : (stop : LeafStop) → c.end.stop ≡ stop → get_elem? (read_leaves s) c.place ≡ some (leaf_of v)
      go Nowhere e = absurd (somewhere e)
      go Exact e = let x = r.exact_end e in rw (r.cut_is, r.len_is, r.width_is, x.0, x.1) (exact_leaf e)
      go (Open p) e = let x = r.open_end p e in rw (r.cut_is, r.len_is, r.width_is, x.0) (open_leaf p e v.suffix x.1)
