-- The rule behind a point's reply, by where the bytes of a key lead from the root: the rule that the end of the descent names is the one that applies to the key among the leaves.
use Rattle.std.specs.Prelude.{ℕ, zero, suc, ◌+◌, ◌<◌, ◌≡◌, Bool, ◌&&◌, ◌||◌, List, [], ◌∷◌, ◌++◌, length, take, drop}
use Rattle.std.proofs.Math.Path.{refl}
use Rattle.std.proofs.Common.{sym, ap, ◌∙◌, true≢false, append-nil, arith}
use Rattle.std.proofs.Math.Bool.{true, false, cond, not, and-false}
use Rattle.spec.specs.Bytes.{Bytes, Bits, any, count, bit, equal, begins, same_bits}
use Rattle.spec.specs.Leaves.{Leaf, hash_bits, bits_behind, real}
use Rattle.spec.specs.Nodes.{is_exact, read_leaves}
use Rattle.spec.specs.Questions.{begins_with}
use Rattle.spec.specs.Rules.{leads_to_node, leads_to_exact, leads_to_open, same_real_bits, same_hash_bits, same_suffix, branch_missing, key_ended, at_exact_leaf, suffix_equal, suffix_other, no_nodes, applies, rule}
use Rattle.spec.specs.Rules as spec
use Rattle.theory.specs.Terms.{In, here, Bound}
use Rattle.theory.proofs.Lists.{or_both_false, any_in, any_none, any_false, in_any, any_count, count_any}
use Rattle.theory.proofs.Order.{equal_true, equal_comm, begins_append}
use Rattle.theory.proofs.Rules.{root_there, applies_rule, else_missing}
use Rattle.image.specs.declared.Frame.{Frame}
use Rattle.image.specs.declared.ValuePos.{ValuePos}
use Rattle.nav_branches.specs.declared.LeafStop.TheVariants.{Nowhere, Exact, Open}
use Rattle.nav_nodes.specs.Accepted.{Accepted, nodes, real_leaves, real_sized}
use Rattle.nav_branches.specs.Below.{level_node}
use Rattle.nav_nodes.specs.FoundBranch.{node_count}
use Rattle.nav_nodes.specs.Positions.{slot_at}
use Rattle.nav_nodes.specs.Slots.{node_at, slot_of}
use Rattle.query_point.specs.declared.Rule.{Rule}
use Rattle.query_point.specs.declared.Rule.TheVariants as Named
use Rattle.query_descent.specs.Root.{count_same, has_suffix, leads_to_leaf}
use Rattle.query_descent.specs.Answers.{led_stops, value_none, value_exact, value_open}
use Rattle.query_descent.specs.Leads.{Leads, BranchMissing, LeafBehind}
use Rattle.query_descent.specs.Steps.{exact_stop}
use Rattle.query_descent.specs.Followed.{Stopped, node_length, stopped_end, way_none, way_leaf, leads_way}
use Rattle.query_descent.specs.Seeks.{root_of, some_leaf}
use Rattle.query_point.specs.StemLeaves.{covers, slot_agrees, begins_covers}
use Rattle.query_point.specs.StemWay.{stem_ended, stem_none}

-- the rule of order 3 that a descent names
abbrev pub rule_of : Rule → spec.Rule
rule_of Named.BranchMissing = branch_missing
rule_of Named.KeyEnded = key_ended
rule_of Named.ExactLeaf = at_exact_leaf
rule_of Named.SuffixEqual = suffix_equal
rule_of Named.SuffixOther = suffix_other
rule_of Named.NoNodes = no_nodes

-- The rest of a key has the real bits of a slot, which stand behind h hash bits, and the key has these.
abbrev pub slot_has : ℕ → Bytes → Bits → Bytes → Bool
slot_has h k s r = has_suffix (drop h s) r && same_bits (hash_bits h k) (take h s)

-- ---- tests over lists, and prefixes

-- a test that one member passes, or none
any_counted : {A : Type 0} (p : A → Bool) (xs : List A) (b : Bool) → count p xs ≡ bit b → any p xs ≡ b
any_counted p xs true h = count_any p xs (omega arith)
any_counted p xs false h = go (any p xs) refl
  where
    go : (c : Bool) → any p xs ≡ c → any p xs ≡ false
    go true e = absurd (omega (arith, any_count p xs e))
    go false e = e

-- a bit that is 1
bit_true : (b : Bool) → bit b ≡ 1 → b ≡ true
bit_true true h = refl
bit_true false h = absurd (omega arith)

-- a bit that is 0
bit_false : (b : Bool) → bit b ≡ 0 → b ≡ false
bit_false true h = absurd (omega arith)
bit_false false h = refl

-- equal keys begin each other
equal_begins : (a b : Bytes) → equal a b ≡ true → begins a b ≡ true
equal_begins a b h = let e : b ≡ a ++ [] = sym (equal_true a b h) ∙ sym (append-nil a) in rw e (begins_append a [])

-- ---- what the leaves say of a key

-- Whether the key leads to an exact leaf, to an open one, to one whose suffix it has, and to one whose suffix it does not have.
record Told (H : ℕ) (ls : List Leaf) (k : Bytes) (exact opened same other : Bool) : Type 0 where
  exact_is : leads_to_exact ls k ≡ exact
  open_is : any (leads_to_open k) ls ≡ opened
  same_is : applies H ls k suffix_equal ≡ same
  other_is : applies H ls k suffix_other ≡ other

module _ (H : ℕ) (ls : List Leaf) (k : Bytes) where
  -- By the number of leaves to which the key leads, for every test of exact and open leaves.
  told : (r : Bool → (Bits → Bytes → Bool) → Bool) → ((ends : Bool) (q : Bits → Bytes → Bool) → count (leads_to_leaf ends q k) ls ≡ bit (r ends q))
      → Told H ls k (r true (λ s t. false)) (r false (λ s t. true)) (r false (slot_has H k)) (r false (λ s t. not (slot_has H k s t)))
  unfolding leads_to_exact leads_to_open real same_real_bits same_hash_bits same_suffix applies leads_to_leaf has_suffix bits_behind
  told r c = record {
    exact_is = one (λ l. l.exact && equal l.cut k) true (λ s t. false) (λ l. exact_leaf l.exact (equal l.cut k) (begins l.cut k));
    open_is = one (leads_to_open k) false (λ s t. true) (λ l. open_leaf l.exact (begins l.cut k));
    same_is = one (λ l. leads_to_open k l && same_suffix H k l) false (slot_has H k) (λ l. tested l.exact (begins l.cut k) (slot_has H k l.suffix (drop (length l.cut) k)));
    other_is = one (λ l. leads_to_open k l && not (same_suffix H k l)) false (λ s t. not (slot_has H k s t)) (λ l. tested l.exact (begins l.cut k) (not (slot_has H k l.suffix (drop (length l.cut) k))));
  }
    where
      one : (p : Leaf → Bool) (ends : Bool) (q : Bits → Bytes → Bool) → ((l : Leaf) → p l ≡ leads_to_leaf ends q k l) → any p ls ≡ r ends q
      one p ends q h = any_counted p ls (r ends q) (count_same p (leads_to_leaf ends q k) ls h ∙ c ends q)

      exact_leaf : (e a b : Bool) → e && a ≡ cond e (true && a) (b && false)
      exact_leaf true a b = refl
      exact_leaf false a b = sym (and-false b)

      open_leaf : (e b : Bool) → not e && b ≡ cond e false (b && true)
      open_leaf true b = refl
      open_leaf false true = refl
      open_leaf false false = refl

      tested : (e b c : Bool) → (not e && b) && c ≡ cond e false (b && c)
      tested true b c = refl
      tested false b c = refl

  -- The key leads to a node if some leaf has a possible key that begins with it, and the key leads to no leaf.
  covered_node : {same other : Bool} → any (covers (slot_agrees H) k) ls ≡ true → Told H ls k false false same other → leads_to_node ls k ≡ true
  unfolding leads_to_node leads_to_exact leads_to_open covers
  covered_node h t =
      let m = any_in (covers (slot_agrees H) k) ls h in
      let c : Bytes = m.0.cut in
      in_any (λ l. begins k l.cut && not (equal k l.cut)) m.1
      (rw (equal_comm k c)
      (go m.0.exact (begins k c) (begins c k) (equal c k) (slot_agrees H m.0.suffix (drop (length c) k)) m.2 (any_none (λ l. l.exact && equal l.cut k) t.exact_is m.1) (any_none (leads_to_open k) t.open_is m.1) (equal_begins c k)))
    where
      go : (x b c e g : Bool) → b || (not x && (c && g)) ≡ true → x && e ≡ false → not x && c ≡ false → (e ≡ true → c ≡ true) → b && not e ≡ true
      go true true c true g h p q r = absurd (true≢false p)
      go true true c false g h p q r = refl
      go true false c e g h p q r = absurd (true≢false (sym h))
      go false b true e g h p q r = absurd (true≢false q)
      go false true false true g h p q r = absurd (true≢false (sym (r refl)))
      go false true false false g h p q r = refl
      go false false false e g h p q r = absurd (true≢false (sym h))

  -- It leads to none if no leaf has such a key.
  uncovered_node : any (covers (slot_agrees H) k) ls ≡ false → leads_to_node ls k ≡ false
  unfolding leads_to_node covers
  uncovered_node h =
      any_false (λ l. begins k l.cut && not (equal k l.cut)) ls
      (λ l i. rw (or_both_false (begins k l.cut) (not l.exact && (begins l.cut k && slot_agrees H l.suffix (drop (length l.cut) k))) (any_none (covers (slot_agrees H) k) h i)).0)

-- a member of a list that has some
some_in : (ls : List Leaf) → 0 < length ls → (l : Leaf) × In l ls
some_in [] h = absurd (omega arith)
some_in (l ∷ ls) h = (l, here)

-- no leaf, no node
rule_nothing : (H : ℕ) (ls : List Leaf) (k : Bytes) → length ls ≡ 0 → rule H ls k ≡ no_nodes
unfolding rule applies leads_to_node any
rule_nothing H [] k h = refl
rule_nothing H (l ∷ ls) k h = absurd (omega arith)

-- ---- where the key leads in an accepted image

module _ (s : Bytes) (f : Frame) (a : Accepted s f) (key : Bytes) where
  -- an image without nodes has no leaf
  pub rule_nowhere : node_count f ≡ 0 → rule f.hash_width (read_leaves s) key ≡ no_nodes
  rule_nowhere z = rule_nothing f.hash_width (read_leaves s) key (go (length (read_leaves s)) refl)
    where
      go : (n : ℕ) → length (read_leaves s) ≡ n → length (read_leaves s) ≡ 0
      go zero e = e
      go (suc n) e = absurd (omega (arith, level_node (nodes s f) 64 0 (root_of s f a (omega arith)).on, node_length s f a))

  -- what the leaves say of a key that leads to none
  told_none : (d : ℕ) → Stopped s f key Nowhere d → Told f.hash_width (read_leaves s) key false false false false
  told_none d t = told f.hash_width (read_leaves s) key (λ ends q. false) (λ ends q. led_stops s f a key ends q ∙ value_none s f a key Nowhere d t.leads ends q refl)

  -- of one that leads to an exact leaf
  told_exact : (d : ℕ) → Stopped s f key Exact d → Told f.hash_width (read_leaves s) key true false false false
  told_exact d t = told f.hash_width (read_leaves s) key (λ ends q. ends) (λ ends q. led_stops s f a key ends q ∙ value_exact s f a key Exact d t.leads ends q refl)

  -- of one that leads to an open leaf
  told_open : (d : ℕ) (v : ValuePos) → Stopped s f key (Open v) d
      → Told f.hash_width (read_leaves s) key false true (slot_has f.hash_width key (slot_of f.width (nodes s f) v.0) (drop d key)) (not (slot_has f.hash_width key (slot_of f.width (nodes s f) v.0) (drop d key)))
  told_open d v t = told f.hash_width (read_leaves s) key (λ ends q. q (slot_of f.width (nodes s f) v.0) (drop d key)) (λ ends q. led_stops s f a key ends q ∙ value_open s f a key (Open v) d t.leads ends q v refl)

  -- a rule that applies among the image's leaves is the key's
  the_rule : (r : spec.Rule) → applies f.hash_width (read_leaves s) key r ≡ true → rule f.hash_width (read_leaves s) key ≡ r
  the_rule = applies_rule f.hash_width (read_leaves s) a.realizable a.well_sized key

  -- The key leads to an open leaf, whose slot is one of the leaves: its suffix decides.
  pub rule_leaf : {n m p d : ℕ} → LeafBehind s f key n m p d
      → (slot_at s f m p < f.leaves) × (rule f.hash_width (read_leaves s) key ≡ cond (slot_has f.hash_width key (slot_of f.width (nodes s f) (slot_at s f m p)) (drop d key)) suffix_equal suffix_other)
  rule_leaf {m = m} {p = p} l =
      let v : ValuePos = record { 0 = slot_at s f m p } in
      let t = way_leaf s f a key m l.depth l.here.more l.branch l.here.found v (ap (slot_at s f m) l.at_is) l.ends (leads_way s f a key l.leads) in
      (t.leaf_in v refl, rw l.passed (go (slot_has f.hash_width key (slot_of f.width (nodes s f) v.0) (drop (l.depth + 1) key)) (told_open (l.depth + 1) v t)))
    where
      go : (h : Bool) → Told f.hash_width (read_leaves s) key false true h (not h) → rule f.hash_width (read_leaves s) key ≡ cond h suffix_equal suffix_other
      go true u = the_rule suffix_equal u.same_is
      go false u = the_rule suffix_other u.other_is

  module _ (b : Bound key) where
    -- some leaf has a possible key that begins with the key, or none has
    covered_by : (n : ℕ) → begins_with (real_leaves s f) key ≡ n → bit (any (covers (slot_agrees f.hash_width) key) (read_leaves s)) ≡ n
    covered_by n h = sym (begins_covers f.hash_width f.real_width (read_leaves s) (real_sized s f a) key b) ∙ h

    -- A branch is missing.
    pub rule_missing : {n : ℕ} → BranchMissing s f key n → rule f.hash_width (read_leaves s) key ≡ branch_missing
    unfolding applies
    rule_missing l =
        let o = leads_way s f a key l.leads in
        let u = told_none (l.depth + 1) (way_none s f a key l.node l.depth l.here.more l.branch l.here.found l.absent o) in
        let c = uncovered_node f.hash_width (read_leaves s) key (bit_false (any (covers (slot_agrees f.hash_width) key) (read_leaves s)) (covered_by 0 (stem_none s f a key b l))) in
        let m = some_in (read_leaves s) (some_leaf s f a (omega (arith, o.node_in))) in
        the_rule branch_missing (else_missing f.hash_width (read_leaves s) a.realizable a.well_sized key (root_there f.hash_width (read_leaves s) a.realizable a.well_sized key m.1) (rw c) u.exact_is u.same_is u.other_is)

    -- The key ends at a node: whether the node is an exact leaf decides.
    pub rule_node : {m : ℕ} → Leads s f key (length key) m → rule f.hash_width (read_leaves s) key ≡ cond (is_exact (node_at (nodes s f) m)) at_exact_leaf key_ended
    unfolding applies
    rule_node {m} l =
        go (is_exact (node_at (nodes s f) m)) (stopped_end s f a key (length key) m (exact_stop (is_exact (node_at (nodes s f) m))) refl refl (leads_way s f a key l).leads)
      where
        go : (x : Bool) → Stopped s f key (exact_stop x) (length key) → rule f.hash_width (read_leaves s) key ≡ cond x at_exact_leaf key_ended
        go true t = the_rule at_exact_leaf (told_exact (length key) t).exact_is
        go false t =
            let u = told_none (length key) t in
            let c = covered_node f.hash_width (read_leaves s) key (bit_true (any (covers (slot_agrees f.hash_width) key) (read_leaves s)) (covered_by 1 (stem_ended s f a key b l))) u in
            the_rule key_ended (rw (c, u.exact_is))
