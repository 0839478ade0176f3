-- A stem's way from the root: whether some leaf has a possible key that begins with it is asked of the leaves at or below the node that its first bytes lead to, one byte at a time.
use Prim.Native.Nat.{ℕ, suc, ◌+◌, ◌-◌, ◌<◌, ◌≤◌}
use Rattle.std.specs.Prelude.{◌≡◌, Bool, not, ◌&&◌, ◌||◌, get_or, take, drop, leb}
use Rattle.std.proofs.Math.Path.{refl, sym}
use Rattle.std.proofs.Common.{ap, ap₂, ◌∙◌, true≢false, drop_of_length-le, ne_eqb, leb-true, leb-false}
use Rattle.std.proofs.Math.Bool.{true, false, and-false, or-false}
use mathlib.Core.List.{List, [], ◌∷◌, ◌++◌, map}
use Rattle.std.proofs.Math.Option.{Option, none, some}
use native.Mathlib.Omega.{arith}
use Rattle.std.proofs.Math.ListN.{length}
use Rattle.std.proofs.Math.Dec.{eqb}
use Rattle.spec.specs.Bytes.{Bytes, Bits, any, bit, begins}
use Rattle.spec.specs.Leaves.{Leaf}
use Rattle.spec.specs.Nodes.{Group, Branch, to_node, to_leaf, Node, label_of, branches_of, prefix, children, exact_leaf, read_leaves}
use Rattle.spec.specs.Questions.{begins_with}
use Rattle.theory.specs.Terms.{Bound}
use Rattle.theory.proofs.LinkedLevels.{BelowLabel, Ascends}
use Rattle.image.specs.declared.Frame.{Frame}
use Rattle.nav_nodes.specs.declared.BranchKind.TheVariants as Kind
use Rattle.nav_nodes.specs.declared.Found.{Found}
use Rattle.nav_nodes.specs.Accepted.{Accepted, nodes, real_leaves, real_sized}
use Rattle.nav_branches.specs.Below.{behind_branches, own_slot, below, OnLevel, Root, level_left, level_node, level_rising, level_child}
use Rattle.nav_nodes.specs.Counting.{labels_below, below_low, below_high}
use Rattle.nav_nodes.specs.Descent.{child_number, goes_on, ends_at}
use Rattle.nav_nodes.specs.FoundBranch.{node_count}
use Rattle.nav_nodes.specs.LabelMaps.{eqb_flip}
use Rattle.nav_nodes.specs.NextLabel.{kind_with, with_absent, with_leaf, with_child}
use Rattle.nav_nodes.specs.Positions.{branches, branch_index, child_at, slot_at}
use Rattle.nav_nodes.specs.Slots.{node_at, slot_number, slot_of, slot_is}
use Rattle.query_descent.specs.Followed.{node_length}
use Rattle.query_descent.specs.Leads.{AtByte, Leads, along, BranchMissing, LeafBehind}
use Rattle.query_descent.specs.Next.{below_some, child_from}
use Rattle.query_descent.specs.Seeking.{first_child}
use Rattle.query_descent.specs.Seeks.{root_of, some_leaf}
use Rattle.query_point.specs.StemLeaves.{agrees, slot_agrees, covers, begins_covers}
use Rattle.query_descent.specs.SuffixBytes.{key_next}

-- ---- one byte, over the leaves behind branches

-- some member of two lists, one behind the other
any_append : {A : Type 0} (p : A → Bool) (xs ys : List A) → any p (xs ++ ys) ≡ any p xs || any p ys
unfolding any
any_append p [] ys = refl
any_append p (x ∷ xs) ys = rw (any_append p xs ys) (go (p x))
  where
    go : (b : Bool) → b || (any p xs || any p ys) ≡ (b || any p xs) || any p ys
    go true = refl
    go false = refl

-- labels above a label are above lower ones
label_lower : (x y : ℕ) (es : List Branch) → y ≤ x → BelowLabel x es → BelowLabel y es
label_lower x y [] h r = tt
label_lower x y (e ∷ es) h r = omega arith

module _ (H : ℕ) (f : ℕ → Group) (y : ℕ) (k : Bytes) where
  -- whether a leaf behind the first branch, which leads to node c if it continues, has a possible key that begins with y and k
  unfoldable covered_at : List Branch → ℕ → Bool
  unfolding any covers agrees
  covered_at [] c = false
  covered_at (to_leaf x s ∷ es) c = eqb x y && slot_agrees H s k
  covered_at (to_node x ∷ es) c = eqb x y && any (covers (slot_agrees H) k) (f c)

  -- an open leaf behind a label
  leaf_covers : (x : ℕ) (s : Bits) → covers (slot_agrees H) (y ∷ k) (record { cut = x ∷ []; exact = false; suffix = s }) ≡ eqb x y && slot_agrees H s k
  unfolding covers begins agrees
  leaf_covers x s = rw (eqb_flip y x) (go (eqb x y) k)
    where
      go : (b : Bool) (k : Bytes) → (b && begins k []) || ((b && true) && slot_agrees H s k) ≡ b && slot_agrees H s k
      go true [] = refl
      go true (z ∷ k) = refl
      go false k = refl

  -- a leaf with a label before it
  prefix_covers : (x : ℕ) (l : Leaf) → covers (slot_agrees H) (y ∷ k) (prefix x l) ≡ eqb x y && covers (slot_agrees H) k l
  unfolding covers begins
  prefix_covers x l = rw (eqb_flip y x) (go (eqb x y))
    where
      go : (b : Bool) → (b && begins k l.cut) || (not l.exact && ((b && begins l.cut k) && slot_agrees H l.suffix (drop (length l.cut) k)))
          ≡ b && (begins k l.cut || (not l.exact && (begins l.cut k && slot_agrees H l.suffix (drop (length l.cut) k))))
      go true = refl
      go false = and-false (not l.exact)

  -- all leaves of a group with a label before them
  group_covers : (x : ℕ) (g : Group) → any (covers (slot_agrees H) (y ∷ k)) (map (prefix x) g) ≡ eqb x y && any (covers (slot_agrees H) k) g
  unfolding any
  group_covers x [] = sym (and-false (eqb x y))
  group_covers x (l ∷ g) = rw (prefix_covers x l, group_covers x g) (go (eqb x y))
    where
      go : (b : Bool) → (b && covers (slot_agrees H) k l) || (b && any (covers (slot_agrees H) k) g) ≡ b && (covers (slot_agrees H) k l || any (covers (slot_agrees H) k) g)
      go true = refl
      go false = refl

  -- the first branch and those behind it
  branch_covers : (e : Branch) (es : List Branch) (c : ℕ) (n : ℕ) → n ≡ c + children (e ∷ []) → any (covers (slot_agrees H) (y ∷ k)) (behind_branches f (e ∷ es) c) ≡ covered_at (e ∷ es) c || any (covers (slot_agrees H) (y ∷ k)) (behind_branches f es n)
  unfolding covered_at behind_branches any children
  branch_covers (to_leaf x s) es c n h = let z : n ≡ c = omega arith in rw (leaf_covers x s, z)
  branch_covers (to_node x) es c n h = let z : n ≡ suc c = omega arith in any_append (covers (slot_agrees H) (y ∷ k)) (map (prefix x) (f c)) (behind_branches f es (suc c)) ∙ rw (group_covers x (f c), z)

  -- a branch with another label
  covered_other : (e : Branch) (es : List Branch) (c : ℕ) → (label_of e ≡ y → ⊥) → covered_at (e ∷ es) c ≡ false
  unfolding covered_at
  covered_other (to_leaf x s) es c h = rw (ne_eqb x y h)
  covered_other (to_node x) es c h = rw (ne_eqb x y h)

  -- no leaf behind higher labels
  higher_covers : (es : List Branch) (c : ℕ) → BelowLabel y es → Ascends es → any (covers (slot_agrees H) (y ∷ k)) (behind_branches f es c) ≡ false
  unfolding behind_branches any
  higher_covers [] c h r = refl
  higher_covers (e ∷ es) c h r =
      branch_covers e es c (c + children (e ∷ [])) refl
      ∙ rw (covered_other e es c (λ e. omega arith), higher_covers es (c + children (e ∷ [])) (label_lower (label_of e) y es (omega arith) r.0) r.1)

  -- Of the leaves behind branches, those behind the one with the label y count.
  branches_cover : (es : List Branch) (c : ℕ) → Ascends es → any (covers (slot_agrees H) (y ∷ k)) (behind_branches f es c) ≡ covered_at (drop (labels_below y es) es) (c + children (take (labels_below y es) es))
  unfolding labels_below covered_at behind_branches any children
  branches_cover [] c r = refl
  branches_cover (e ∷ es) c r = branch_covers e es c (c + children (e ∷ [])) refl ∙ go (leb y (label_of e)) refl (branches_cover es (c + children (e ∷ [])) r.1)
    where
      next : (e : Branch) (fs : List Branch) → c + children (e ∷ []) + children fs ≡ c + children (e ∷ fs)
      next (to_leaf x s) fs = omega arith
      next (to_node x) fs = omega arith

      go : (b : Bool) → leb y (label_of e) ≡ b
          → any (covers (slot_agrees H) (y ∷ k)) (behind_branches f es (c + children (e ∷ []))) ≡ covered_at (drop (labels_below y es) es) (c + children (e ∷ []) + children (take (labels_below y es) es))
          → covered_at (e ∷ es) c || any (covers (slot_agrees H) (y ∷ k)) (behind_branches f es (c + children (e ∷ []))) ≡ covered_at (drop (labels_below y (e ∷ es)) (e ∷ es)) (c + children (take (labels_below y (e ∷ es)) (e ∷ es)))
      go true p ih =
          let l = leb-true y (label_of e) p in
          let z : c + 0 ≡ c = omega arith in
          rw (below_high y (label_of e) e es refl l, z, higher_covers es (c + children (e ∷ [])) (label_lower (label_of e) y es l r.0) r.1) (or-false (covered_at (e ∷ es) c))
      go false p ih =
          let l = leb-false y (label_of e) p in
          rw (below_low y (label_of e) e es refl l, covered_other e es c (λ e. omega arith)) (ih ∙ ap (covered_at (drop (labels_below y es) es)) (next e (take (labels_below y es) es)))

  -- no branch with the label
  covered_absent : (fs : List Branch) (c : ℕ) → kind_with y fs ≡ Kind.Absent → covered_at fs c ≡ false
  unfolding covered_at goes_on ends_at
  covered_absent [] c h = refl
  covered_absent (to_leaf x s ∷ fs) c h = rw (with_absent y (to_leaf x s ∷ fs) h).1
  covered_absent (to_node x ∷ fs) c h = rw (with_absent y (to_node x ∷ fs) h).0

  -- one that ends at an open leaf
  covered_leaf : (fs : List Branch) (c : ℕ) (slot : Bits) → kind_with y fs ≡ Kind.Leaf → ((x : ℕ) (s : Bits) (rest : List Branch) → fs ≡ to_leaf x s ∷ rest → slot ≡ s) → covered_at fs c ≡ slot_agrees H slot k
  unfolding covered_at goes_on ends_at
  covered_leaf [] c slot h u = absurd (true≢false (sym (with_leaf y [] h).1))
  covered_leaf (to_leaf x s ∷ fs) c slot h u = rw ((with_leaf y (to_leaf x s ∷ fs) h).1, u x s fs refl)
  covered_leaf (to_node x ∷ fs) c slot h u = absurd (true≢false (sym (with_leaf y (to_node x ∷ fs) h).1))

  -- one that continues
  covered_child : (fs : List Branch) (c : ℕ) → kind_with y fs ≡ Kind.Child → covered_at fs c ≡ any (covers (slot_agrees H) k) (f c)
  unfolding covered_at goes_on
  covered_child [] c h = absurd (true≢false (sym (with_child y [] h)))
  covered_child (to_leaf x s ∷ fs) c h = absurd (true≢false (sym (with_child y (to_leaf x s ∷ fs) h)))
  covered_child (to_node x ∷ fs) c h = rw (with_child y (to_node x ∷ fs) h)

-- ---- over the leaves at or below a node

-- an exact leaf at the node itself has no key that goes on
exact_covers : (H : ℕ) (o : Option Bits) (y : ℕ) (k : Bytes) → any (covers (slot_agrees H) (y ∷ k)) (exact_leaf o) ≡ false
unfolding exact_leaf any covers begins
exact_covers H none y k = refl
exact_covers H (some s) y k = refl

-- one byte of a stem
below_covers : (H : ℕ) (ns : List Node) (l m : ℕ) → OnLevel ns (suc l) m → (y : ℕ) (k : Bytes)
    → any (covers (slot_agrees H) (y ∷ k)) (below ns (suc l) m) ≡ covered_at H (below ns l) y k (drop (labels_below y (branches_of (node_at ns m))) (branches_of (node_at ns m))) (child_number ns m (labels_below y (branches_of (node_at ns m))))
unfolding below
below_covers H ns l m on y k =
    any_append (covers (slot_agrees H) (y ∷ k)) (exact_leaf (own_slot (node_at ns m))) (behind_branches (below ns l) (branches_of (node_at ns m)) (child_number ns m 0))
    ∙ ap₂ ◌||◌ (exact_covers H (own_slot (node_at ns m)) y k)
    (rw (child_from ns m (labels_below y (branches_of (node_at ns m)))) at (branches_cover H (below ns l) y k (branches_of (node_at ns m)) (child_number ns m 0) (level_rising ns (suc l) m on)))

-- a stem that has ended covers every leaf
covers_all : (H : ℕ) (ls : List Leaf) → 0 < length ls → any (covers (slot_agrees H) []) ls ≡ true
unfolding any covers begins
covers_all H [] h = absurd (omega arith)
covers_all H (l ∷ ls) h = refl

-- ---- from the root

-- The first bytes of a stem, `depth` of them, lead to a node.
pub record StemWay (s : Bytes) (f : Frame) (stem : Bytes) (depth node : ℕ) : Type 0 where
  -- it stands on its level
  pub level : OnLevel (nodes s f) (64 - depth) node
  -- the rest of the stem decides over the leaves at or below it
  pub covered : begins_with (real_leaves s f) stem ≡ bit (any (covers (slot_agrees f.hash_width) (drop depth stem)) (below (nodes s f) (64 - depth) node))

module _ (s : Bytes) (f : Frame) (a : Accepted s f) (stem : Bytes) where
  -- What the node has at the stem's next byte.
  module _ (m d : ℕ) (b : Found) (here : AtByte s f stem d m b) (o : StemWay s f stem d m) where
    -- one level less below it
    one_less : 64 - d ≡ suc (64 - (d + 1))
    one_less = omega (arith, level_left (nodes s f) (64 - d) m o.level)

    -- the node on its level
    on : OnLevel (nodes s f) (suc (64 - (d + 1))) m
    on = rw one_less at o.level

    -- the branch with that byte decides
    byte_covers : begins_with (real_leaves s f) stem
        ≡ bit (covered_at f.hash_width (below (nodes s f) (64 - (d + 1))) (get_or stem d 0) (drop (d + 1) stem) (drop (branch_index s f m (get_or stem d 0)) (branches s f m)) (child_number (nodes s f) m (branch_index s f m (get_or stem d 0))))
    byte_covers =
        o.covered ∙ ap (λ (k : Bytes). bit (any (covers (slot_agrees f.hash_width) k) (below (nodes s f) (64 - d) m))) (key_next stem d here.more)
        ∙ ap (λ (l : ℕ). bit (any (covers (slot_agrees f.hash_width) (get_or stem d 0 ∷ drop (d + 1) stem)) (below (nodes s f) l m))) one_less
        ∙ ap bit (below_covers f.hash_width (nodes s f) (64 - (d + 1)) m on (get_or stem d 0) (drop (d + 1) stem))

    -- no branch
    none_covers : b.kind ≡ Kind.Absent → begins_with (real_leaves s f) stem ≡ 0
    none_covers k =
        byte_covers
        ∙ ap bit (covered_absent f.hash_width (below (nodes s f) (64 - (d + 1))) (get_or stem d 0) (drop (d + 1) stem) (drop (branch_index s f m (get_or stem d 0)) (branches s f m)) (child_number (nodes s f) m (branch_index s f m (get_or stem d 0))) (sym here.found.kind_is ∙ k))

    -- a branch that ends: its open leaf decides
    open_covers : (v : ℕ) → v ≡ slot_at s f m b.at.0 → b.kind ≡ Kind.Leaf → begins_with (real_leaves s f) stem ≡ bit (slot_agrees f.hash_width (slot_of f.width (nodes s f) v) (drop (d + 1) stem))
    open_covers v e k =
        let y : ℕ = get_or stem d 0 in
        let i : ℕ = branch_index s f m y in
        let z : v ≡ slot_number (nodes s f) m i = e ∙ here.found.at_is.slot_is in
        byte_covers
        ∙ ap bit (covered_leaf f.hash_width (below (nodes s f) (64 - (d + 1))) y (drop (d + 1) stem) (drop i (branches s f m)) (child_number (nodes s f) m i) (slot_of f.width (nodes s f) v) (sym here.found.kind_is ∙ k)
        (λ x t rest q. ap (slot_of f.width (nodes s f)) z ∙ slot_is f.width (nodes s f) m i x t rest a.writable.wide q))

    -- a branch that continues
    stem_child : (child : ℕ) → child ≡ child_at s f m b.at.0 → b.kind ≡ Kind.Child → StemWay s f stem (d + 1) child
    stem_child child e k =
        let y : ℕ = get_or stem d 0 in
        let i : ℕ = branch_index s f m y in
        let z : child ≡ child_number (nodes s f) m i = e ∙ here.found.at_is.child_is in
        let c : kind_with y (drop i (branches s f m)) ≡ Kind.Child = sym here.found.kind_is ∙ k in
        record {
          level = rw z (level_child (nodes s f) (64 - (d + 1)) m i on (first_child y (drop i (branches s f m)) c));
          covered = byte_covers ∙ ap bit (covered_child f.hash_width (below (nodes s f) (64 - (d + 1))) y (drop (d + 1) stem) (drop i (branches s f m)) (child_number (nodes s f) m i) c)
              ∙ ap (λ (n : ℕ). bit (any (covers (slot_agrees f.hash_width) (drop (d + 1) stem)) (below (nodes s f) (64 - (d + 1)) n))) (sym z);
        }

module _ (s : Bytes) (f : Frame) (a : Accepted s f) (stem : Bytes) (b : Bound stem) where
  -- no byte leads to the root
  stem_root : 0 < node_count f → StemWay s f stem 0 0
  stem_root h = let r = root_of s f a (some_leaf s f a h) in record {
    level = r.on;
    covered = begins_covers f.hash_width f.real_width (read_leaves s) (real_sized s f a) stem b ∙ ap (λ (ls : List Leaf). bit (any (covers (slot_agrees f.hash_width) stem) ls)) (sym r.whole);
  }

  -- The node to which the first bytes of a stem lead is on its way.
  stem_way : {d m : ℕ} → Leads s f stem d m → StemWay s f stem d m
  stem_way l = along (StemWay s f stem) stem_root (λ d m c o y. stem_child s f a stem m d y.branch y.here o c y.child_is y.continues) l

  -- An image without nodes has no key that begins with a stem.
  pub stem_nowhere : node_count f ≡ 0 → begins_with (real_leaves s f) stem ≡ 0
  unfolding any
  stem_nowhere z = begins_covers f.hash_width f.real_width (read_leaves s) (real_sized s f a) stem b ∙ go (read_leaves s) (root_of s f a)
    where
      go : (ls : List Leaf) → (0 < length ls → Root (nodes s f) ls) → bit (any (covers (slot_agrees f.hash_width) stem) ls) ≡ 0
      go [] r = refl
      go (l ∷ ls) r = absurd (omega (arith, level_node (nodes s f) 64 0 (r (omega arith)).on, node_length s f a))

  -- A stem that leads to a node without a branch for its next byte begins no key.
  pub stem_none : {n : ℕ} → BranchMissing s f stem n → begins_with (real_leaves s f) stem ≡ 0
  stem_none t = none_covers s f a stem t.node t.depth t.branch t.here (stem_way t.leads) t.absent

  -- A stem that ends at a node begins the keys of all leaves at or below it, and there is one.
  pub stem_ended : {m : ℕ} → Leads s f stem (length stem) m → begins_with (real_leaves s f) stem ≡ 1
  stem_ended {m} l =
      let n : ℕ = length stem in
      let o = stem_way l in
      o.covered ∙ ap (λ (k : Bytes). bit (any (covers (slot_agrees f.hash_width) k) (below (nodes s f) (64 - n) m))) (drop_of_length-le stem {i = n} (omega arith))
      ∙ ap bit (covers_all f.hash_width (below (nodes s f) (64 - n) m) (below_some (nodes s f) (64 - n) m o.level))

  -- Where a stem leads to an open leaf, the leaf's suffix decides.
  pub stem_leaf : {n m p d : ℕ} → LeafBehind s f stem n m p d → (v : ℕ) → v ≡ slot_at s f m p → begins_with (real_leaves s f) stem ≡ bit (slot_agrees f.hash_width (slot_of f.width (nodes s f) v) (drop d stem))
  stem_leaf {m = m} t v e = rw t.passed (open_covers s f a stem m t.depth t.branch t.here (stem_way t.leads) v (e ∙ ap (slot_at s f m) t.at_is) t.ends)
