-- The rule behind a point's reply (document 02, order 3) over a realizable leaf list: exactly one of the six rules applies to a key, and it says the reply's number.
-- A key leads to a node, or to an open leaf, or it misses a branch; these three exclude each other, and one of them holds where there is a node. An exact leaf stands at a node.
use Rattle.std.specs.Prelude.{ℕ, ◌<◌, ◌≤◌, ◌≡◌, Bool, ◌||◌, ◌⊎◌, ◌↔◌, length, leb, eqb}
use Rattle.std.proofs.Math.Path.{refl, ap, ap₂}
use Rattle.std.proofs.Common.{sym, subst, ◌∙◌, arith}
use Rattle.std.proofs.Math.Bool.{true, false, cond, not, ◌&&◌, true≢false, or-true, and-false}
use mathlib.Core.List.{List, [], ◌∷◌, ◌++◌, map, append-nil, append_assoc}
use Rattle.std.proofs.Math.Logic.{inl, inr, ⊎_elim}
use borrow.Author.Tests.{not-true, not-false, le-leb}
use Rattle.spec.specs.Bytes.{Bytes, any, bit, equal, begins}
use Rattle.spec.specs.Leaves.{Leaf, others, real, possible}
use Rattle.spec.specs.Rules.{Rule, branch_missing, key_ended, at_exact_leaf, suffix_equal, suffix_other, no_nodes, leads_to_node, has_branch, misses_branch, leads_to_exact, leads_to_open, same_real_bits, same_hash_bits, same_suffix, rule_number, applies, rule, rule_says}
use Rattle.spec.specs.Questions.{may_hold, point}
use Rattle.theory.specs.Terms.{In, From}
use Rattle.theory.proofs.Lists.{all_in, filter_in, any_in, in_any, any_none, and_both, map_in}
use Rattle.theory.proofs.Order.{equal_true, equal_self, begins_append, begins_through, begins_antisym, begins_either, begins_one_more}
use Rattle.theory.proofs.LeafLists.{cut_key, Shortest, Realizable, WellSized, AllWellSized}
use Rattle.theory.proofs.OpenLeaves.{open_alone}

-- ---- what the tests say

-- the bytes lead to a node: the cut key of this leaf goes on behind them
pub record NodeAt (ls : List Leaf) (p : Bytes) : Type 0 where
  pub leaf : Leaf
  pub member : In leaf ls
  pub begun : begins p leaf.cut ≡ true
  pub longer : equal p leaf.cut ≡ false

-- the key leads to this leaf, an exact one
pub record ExactAt (ls : List Leaf) (k : Bytes) : Type 0 where
  pub leaf : Leaf
  pub member : In leaf ls
  pub exact : leaf.exact ≡ true
  pub whole : leaf.cut ≡ k

-- the key leads to this leaf, an open one
pub record OpenAt (ls : List Leaf) (k : Bytes) : Type 0 where
  pub leaf : Leaf
  pub member : In leaf ls
  pub open_leaf : leaf.exact ≡ false
  pub begun : begins leaf.cut k ≡ true

-- the node to which the passed bytes of the key lead has no branch with the next byte
pub record MissedAt (ls : List Leaf) (k : Bytes) : Type 0 where
  pub passed : Bytes
  pub next : ℕ
  pub rest : Bytes
  pub split : k ≡ (passed ++ (next ∷ [])) ++ rest
  pub node : NodeAt ls passed
  pub missing : has_branch ls passed next ≡ false

module _ (ls : List Leaf) where
  -- The test for a node says just that.
  pub node_exactly : (p : Bytes) → (leads_to_node ls p ≡ true) ↔ NodeAt ls p
  unfolding leads_to_node
  node_exactly p = (
    λ h. let r = any_in (λ l. begins p l.cut && not (equal p l.cut)) ls h in
        let b = and_both (begins p r.0.cut) (not (equal p r.0.cut)) r.2 in
        record { leaf = r.0; member = r.1; begun = b.0; longer = not-true _ b.1 },
    λ w. in_any (λ l. begins p l.cut && not (equal p l.cut)) w.member (rw (w.begun, w.longer)),
  )

  -- So does the test for an exact leaf.
  pub exact_exactly : (k : Bytes) → (leads_to_exact ls k ≡ true) ↔ ExactAt ls k
  unfolding leads_to_exact
  exact_exactly k = (
    λ h. let r = any_in (λ l. l.exact && equal l.cut k) ls h in
        let b = and_both r.0.exact (equal r.0.cut k) r.2 in
        record { leaf = r.0; member = r.1; exact = b.0; whole = equal_true r.0.cut k b.1 },
    λ w. in_any (λ l. l.exact && equal l.cut k) w.member (rw (w.exact, w.whole, equal_self k)),
  )

  -- So does the test for an open leaf that passes another test besides.
  pub open_exactly : (t : Leaf → Bool) (k : Bytes) → (any (λ l. leads_to_open k l && t l) ls ≡ true) ↔ ((w : OpenAt ls k) × (t w.leaf ≡ true))
  unfolding leads_to_open
  open_exactly t k = (
    λ h. let r = any_in (λ l. leads_to_open k l && t l) ls h in
        let b = and_both (leads_to_open k r.0) (t r.0) r.2 in
        let c = and_both (not r.0.exact) (begins r.0.cut k) b.0 in
        (record { leaf = r.0; member = r.1; open_leaf = not-true _ c.0; begun = c.1 }, b.1),
    λ w. in_any (λ l. leads_to_open k l && t l) w.0.member (let h : leads_to_open k w.0.leaf ≡ true = rw (w.0.open_leaf, w.0.begun) in ap₂ ◌&&◌ h w.1),
  )

  -- A branch that is missed behind p is missed by a key that begins with p.
  pub missed : (p k : Bytes) → misses_branch ls p k ≡ true → MissedAt ls (p ++ k)
  unfolding misses_branch
  missed p [] h = absurd (true≢false (sym h))
  missed p (y ∷ k) h = go (leads_to_node ls p && not (has_branch ls p y)) refl h (λ q. missed (p ++ (y ∷ [])) k q)
    where
      shift : (p ++ (y ∷ [])) ++ k ≡ p ++ (y ∷ k)
      shift = append_assoc p (y ∷ []) k

      go : (b : Bool) → leads_to_node ls p && not (has_branch ls p y) ≡ b → b || misses_branch ls (p ++ (y ∷ [])) k ≡ true
          → (misses_branch ls (p ++ (y ∷ [])) k ≡ true → MissedAt ls ((p ++ (y ∷ [])) ++ k)) → MissedAt ls (p ++ (y ∷ k))
      go true e h f =
          let b = and_both (leads_to_node ls p) (not (has_branch ls p y)) e in
          record { passed = p; next = y; rest = k; split = sym shift; node = (node_exactly p).0 b.0; missing = not-true _ b.1 }
      go false e h f = subst (MissedAt ls) shift (f h)

-- where a key leads that goes on with the bytes k behind a node at p: to a node, to an open leaf, or past a branch that is missing
abbrev pub Leads : List Leaf → Bytes → Bytes → Type 0
Leads ls p k = NodeAt ls (p ++ k) ⊎ (OpenAt ls (p ++ k) ⊎ (misses_branch ls p k ≡ true))

module _ {n : ℕ} (ls : List Leaf) (g : Realizable n ls) where
  -- The cut key of an exact leaf leads to a node.
  pub exact_node : {l : Leaf} → In l ls → l.exact ≡ true → NodeAt ls l.cut
  unfolding others
  exact_node {l} i e =
      let r = any_in (begins l.cut) (others (map cut_key ls) l.cut) ((all_in (Shortest n ls) g.shortest i).kind ∙ e) in
      let f = filter_in (λ c. not (equal l.cut c)) (map cut_key ls) r.1 in
      let m = map_in cut_key ls f.1 in
      record { leaf = m.0; member = m.1; begun = rw m.2 at r.2; longer = not-true _ (rw m.2 at f.0) }

  -- ---- the three exclude each other

  -- A key that leads to a node leads to no open leaf.
  pub node_not_open : {k : Bytes} → NodeAt ls k → OpenAt ls k → ⊥
  node_not_open {k} a b =
      let same : b.leaf ≡ a.leaf = open_alone ls g.ordered b.member a.member b.open_leaf (begins_through b.leaf.cut k a.leaf.cut b.begun a.begun) in
      let whole : k ≡ a.leaf.cut = begins_antisym k a.leaf.cut a.begun (rw same at b.begun) in
      true≢false (sym (equal_self k) ∙ ap (equal k) whole ∙ a.longer)

  -- A key that misses a branch leads to no node.
  pub missed_not_node : {k : Bytes} → MissedAt ls k → NodeAt ls k → ⊥
  unfolding has_branch
  missed_not_node {k} a b =
      let front : Bytes = a.passed ++ (a.next ∷ []) in
      let begun : begins front k ≡ true = rw a.split (begins_append front a.rest) in
      true≢false (sym (begins_through front k b.leaf.cut begun b.begun) ∙ any_none (λ l. begins front l.cut) a.missing b.member)

  -- A key that misses a branch leads to no open leaf.
  pub missed_not_open : {k : Bytes} → MissedAt ls k → OpenAt ls k → ⊥
  unfolding has_branch
  missed_not_open {k} a b = ⊎_elim (λ h. ⊎_elim shorter has (begins_one_more b.leaf.cut a.passed a.next h)) has (begins_either b.leaf.cut front k b.begun begun)
    where
      front : Bytes
      front = a.passed ++ (a.next ∷ [])

      begun : begins front k ≡ true
      begun = rw a.split (begins_append front a.rest)

      has : begins front b.leaf.cut ≡ true → ⊥
      has h = true≢false (sym h ∙ any_none (λ l. begins front l.cut) a.missing b.member)

      shorter : begins b.leaf.cut a.passed ≡ true → ⊥
      shorter h = node_not_open a.node (record { leaf = b.leaf; member = b.member; open_leaf = b.open_leaf; begun = h })

  -- ---- one of the three holds

  -- A key that goes on behind a node leads to a node or to an open leaf, or it misses a branch.
  pub leads_somewhere : (p k : Bytes) → NodeAt ls p → Leads ls p k
  unfolding misses_branch has_branch
  leads_somewhere p [] w = inl (rw (append-nil p) w)
  leads_somewhere p (y ∷ k) w = branch (has_branch ls p y) refl (λ v. leads_somewhere (p ++ (y ∷ [])) k v)
    where
      front : Bytes
      front = p ++ (y ∷ [])

      shift : front ++ k ≡ p ++ (y ∷ k)
      shift = append_assoc p (y ∷ []) k

      on : Leads ls front k → Leads ls p (y ∷ k)
      on s = ⊎_elim (λ a. inl (subst (NodeAt ls) shift a)) (λ t. inr (⊎_elim (λ a. inl (subst (OpenAt ls) shift a)) (λ e. inr (rw e (or-true (leads_to_node ls p && not (has_branch ls p y))))) t)) s

      at_leaf : (l : Leaf) → In l ls → front ≡ l.cut → (b : Bool) → l.exact ≡ b → (NodeAt ls front → Leads ls front k) → Leads ls p (y ∷ k)
      at_leaf l i e true x f = on (f (rw e (exact_node i x)))
      at_leaf l i e false x f = inr (inl (record { leaf = l; member = i; open_leaf = x; begun = rw (← e, ← shift) (begins_append front k) }))

      branch_to : (l : Leaf) → In l ls → begins front l.cut ≡ true → (b : Bool) → equal front l.cut ≡ b → (NodeAt ls front → Leads ls front k) → Leads ls p (y ∷ k)
      branch_to l i h true e f = at_leaf l i (equal_true front l.cut e) l.exact refl f
      branch_to l i h false e f = on (f (record { leaf = l; member = i; begun = h; longer = e }))

      branch : (b : Bool) → has_branch ls p y ≡ b → (NodeAt ls front → Leads ls front k) → Leads ls p (y ∷ k)
      branch true e f = let r = any_in (λ l. begins front l.cut) ls e in branch_to r.0 r.1 r.2 (equal front r.0.cut) refl f
      branch false e f = inr (inr (rw ((node_exactly ls p).1 w, e)))

-- ---- the rules

-- a test that can't pass
refuted : (b : Bool) → (b ≡ true → ⊥) → b ≡ false
refuted true f = absurd (f refl)
refuted false f = refl

-- the empty byte string is no cut key
longer_than_empty : (c : Bytes) → 0 < length c → equal [] c ≡ false
unfolding equal
longer_than_empty [] h = absurd (omega arith)
longer_than_empty (x ∷ c) h = refl

module _ (H : ℕ) {n : ℕ} (ls : List Leaf) (g : Realizable n ls) (o : AllWellSized n ls) (k : Bytes) where
  -- Where there is a leaf, there is a root, and rule 6 does not apply.
  pub root_there : {l : Leaf} → In l ls → applies H ls k no_nodes ≡ false
  unfolding applies begins
  root_there {l} i = rw ((node_exactly ls []).1 (record { leaf = l; member = i; begun = refl; longer = longer_than_empty l.cut (all_in (WellSized n) o i).key.least }))

  -- an exact leaf stands at a node
  exact_leads : ExactAt ls k → NodeAt ls k
  exact_leads w = subst (NodeAt ls) w.whole (exact_node ls g w.member w.exact)

  -- the two rules of a node do not apply to a key that leads to none
  no_node_rules : (NodeAt ls k → ⊥) → (applies H ls k key_ended ≡ false) × (applies H ls k at_exact_leaf ≡ false)
  unfolding applies
  no_node_rules f = (
    rw (refuted (leads_to_node ls k) (λ h. f ((node_exactly ls k).0 h))),
    refuted (leads_to_exact ls k) (λ h. f (exact_leads ((exact_exactly ls k).0 h))),
  )

  -- rule 4 is what it says of an open leaf
  suffix_equal_exactly : (applies H ls k suffix_equal ≡ true) ↔ ((w : OpenAt ls k) × (same_suffix H k w.leaf ≡ true))
  unfolding applies
  suffix_equal_exactly = open_exactly ls (same_suffix H k) k

  -- and so is rule 5
  suffix_other_exactly : (applies H ls k suffix_other ≡ true) ↔ ((w : OpenAt ls k) × (not (same_suffix H k w.leaf) ≡ true))
  unfolding applies
  suffix_other_exactly = open_exactly ls (λ l. not (same_suffix H k l)) k

  -- the two do not apply together, since a key leads to one open leaf only
  one_suffix_rule : applies H ls k suffix_equal ≡ true → applies H ls k suffix_other ≡ true → ⊥
  one_suffix_rule h i =
      let a = suffix_equal_exactly.0 h in
      let b = suffix_other_exactly.0 i in
      true≢false (sym a.1 ∙ ap (same_suffix H k) (one_open a.0 b.0) ∙ not-true _ b.1)
    where
      one_open : (a b : OpenAt ls k) → a.leaf ≡ b.leaf
      one_open a b = ⊎_elim (λ h. open_alone ls g.ordered a.member b.member a.open_leaf h) (λ h. sym (open_alone ls g.ordered b.member a.member b.open_leaf h))
          (begins_either a.leaf.cut b.leaf.cut k a.begun b.begun)

  -- to a key that leads to an open leaf no rule of a node applies, nor 6
  open_rules : OpenAt ls k → (applies H ls k no_nodes ≡ false) × ((applies H ls k key_ended ≡ false) × (applies H ls k at_exact_leaf ≡ false))
  open_rules w = (root_there w.member, no_node_rules (λ v. node_not_open ls g v w))

  -- A rule that applies is the one that `rule` names.
  pub applies_rule : (r : Rule) → applies H ls k r ≡ true → rule H ls k ≡ r
  unfolding rule applies
  applies_rule no_nodes h = rw h
  applies_rule key_ended h =
      let w = (node_exactly ls k).0 (and_both (leads_to_node ls k) (not (leads_to_exact ls k)) h).0 in
      rw (root_there w.member, h)
  applies_rule at_exact_leaf h = let w = (exact_exactly ls k).0 h in rw (root_there w.member, h, and-false (leads_to_node ls k))
  applies_rule suffix_equal h =
      let f = open_rules (suffix_equal_exactly.0 h).0 in
      rw (f.0, f.1.0, f.1.1, h)
  applies_rule suffix_other h =
      let f = open_rules (suffix_other_exactly.0 h).0 in
      rw (f.0, f.1.0, f.1.1, refuted (applies H ls k suffix_equal) (λ e. one_suffix_rule e h), h)
  applies_rule branch_missing h =
      let w = missed ls [] k h in
      let f = no_node_rules (missed_not_node ls g w) in
      rw (
        root_there w.node.member,
        f.0,
        f.1,
        refuted (applies H ls k suffix_equal) (λ e. missed_not_open ls g w (suffix_equal_exactly.0 e).0),
        refuted (applies H ls k suffix_other) (λ e. missed_not_open ls g w (suffix_other_exactly.0 e).0),
      )

  -- A key to which no other rule applies misses a branch.
  pub else_missing : applies H ls k no_nodes ≡ false → applies H ls k key_ended ≡ false → applies H ls k at_exact_leaf ≡ false → applies H ls k suffix_equal ≡ false → applies H ls k suffix_other ≡ false
      → applies H ls k branch_missing ≡ true
  unfolding applies
  else_missing a b c d e = ⊎_elim node (λ s. ⊎_elim open_leaf (λ h. h) s) (leads_somewhere ls g [] k ((node_exactly ls []).0 (not-false _ a)))
    where
      node : NodeAt ls k → misses_branch ls [] k ≡ true
      node w = absurd (true≢false (rw ((node_exactly ls k).1 w, c) at b))

      at_open : (w : OpenAt ls k) (s : Bool) → same_suffix H k w.leaf ≡ s → misses_branch ls [] k ≡ true
      at_open w true f = absurd (true≢false (sym (suffix_equal_exactly.1 (w, f)) ∙ d))
      at_open w false f = absurd (true≢false (sym (suffix_other_exactly.1 (w, rw f)) ∙ e))

      open_leaf : OpenAt ls k → misses_branch ls [] k ≡ true
      open_leaf w = at_open w (same_suffix H k w.leaf) refl

  -- The rule that `rule` names applies.
  pub rule_applies : applies H ls k (rule H ls k) ≡ true
  unfolding rule
  rule_applies = go (applies H ls k no_nodes) refl (applies H ls k key_ended) refl (applies H ls k at_exact_leaf) refl (applies H ls k suffix_equal) refl (applies H ls k suffix_other) refl
    where
      go : (a : Bool) → applies H ls k no_nodes ≡ a → (b : Bool) → applies H ls k key_ended ≡ b → (c : Bool) → applies H ls k at_exact_leaf ≡ c → (d : Bool) → applies H ls k suffix_equal ≡ d → (e : Bool) → applies H ls k suffix_other ≡ e
          → applies H ls k (cond a no_nodes (cond b key_ended (cond c at_exact_leaf (cond d suffix_equal (cond e suffix_other branch_missing))))) ≡ true
      go true p b q c r d s e t = p
      go false p true q c r d s e t = q
      go false p false q true r d s e t = r
      go false p false q false r true s e t = s
      go false p false q false r false s true t = t
      go false p false q false r false s false t = else_missing p q r s t

  -- Exactly one of the six rules applies to a key, the one that `rule` names.
  pub one_rule : (r : Rule) → (applies H ls k r ≡ true) ↔ (rule H ls k ≡ r)
  one_rule r = (applies_rule r, λ e. subst (λ (r : Rule). applies H ls k r ≡ true) e rule_applies)

  -- ---- the number

  -- a key that a leaf may hold gets rule 3 or 4
  possible_rule : (l : Leaf) → In l ls → may_hold H k l ≡ true → (rule H ls k ≡ at_exact_leaf) ⊎ (rule H ls k ≡ suffix_equal)
  unfolding may_hold possible real applies same_suffix same_real_bits
  possible_rule l i h = go l.exact refl h
    where
      go : (b : Bool) → l.exact ≡ b → cond b (equal l.cut k) (leb (length k) 64 && (begins l.cut k && same_real_bits k (real H l))) && (b || same_hash_bits H k l) ≡ true → (rule H ls k ≡ at_exact_leaf) ⊎ (rule H ls k ≡ suffix_equal)
      go true e h = inl (applies_rule at_exact_leaf ((exact_exactly ls k).1 (record { leaf = l; member = i; exact = e; whole = equal_true l.cut k (and_both (equal l.cut k) true h).0 })))
      go false e h =
          let a = and_both (leb (length k) 64 && (begins l.cut k && same_real_bits k (real H l))) (same_hash_bits H k l) h in
          let b = and_both (begins l.cut k) (same_real_bits k (real H l)) (and_both (leb (length k) 64) (begins l.cut k && same_real_bits k (real H l)) a.0).1 in
          inr (applies_rule suffix_equal (suffix_equal_exactly.1 (record { leaf = l; member = i; open_leaf = e; begun = b.0 }, rw (b.1, a.1))))

  -- a key with rule 3 may be held by a leaf
  exact_possible : rule H ls k ≡ at_exact_leaf → any (may_hold H k) ls ≡ true
  unfolding may_hold possible real applies
  exact_possible e =
      let w = (exact_exactly ls k).0 ((one_rule at_exact_leaf).1 e) in
      in_any (may_hold H k) w.member (rw (w.exact, w.whole, equal_self k))

  -- and so may one of at most 64 bytes with rule 4
  open_possible : length k ≤ 64 → rule H ls k ≡ suffix_equal → any (may_hold H k) ls ≡ true
  unfolding may_hold possible real same_suffix same_real_bits
  open_possible s e =
      let w = suffix_equal_exactly.0 ((one_rule suffix_equal).1 e) in
      let b = and_both (same_real_bits k (real H w.0.leaf)) (same_hash_bits H k w.0.leaf) w.1 in
      in_any (may_hold H k) w.0.member (rw (w.0.open_leaf, le-leb (length k) 64 s, w.0.begun, b.0, b.1))

  -- The number of a point's reply is what the key's rule says: 1 exactly with 3 and 4.
  pub point_rule : length k ≤ 64 → point H ls k ≡ rule_says (rule H ls k)
  unfolding point
  point_rule s = go (any (may_hold H k) ls) refl (rule H ls k) refl
    where
      go : (b : Bool) → any (may_hold H k) ls ≡ b → (r : Rule) → rule H ls k ≡ r → bit b ≡ rule_says r
      go true e r q =
          let w = any_in (may_hold H k) ls e in
          ⊎_elim (λ f. ap rule_says (sym f ∙ q)) (λ f. ap rule_says (sym f ∙ q)) (possible_rule w.0 w.1 w.2)
      go false e at_exact_leaf q = absurd (true≢false (sym (exact_possible q) ∙ e))
      go false e suffix_equal q = absurd (true≢false (sym (open_possible s q) ∙ e))
      go false e branch_missing q = refl
      go false e key_ended q = refl
      go false e suffix_other q = refl
      go false e no_nodes q = refl

-- ---- the numbers of the rules

-- the rule that has a number
numbered : ℕ → Rule
numbered x = cond (eqb x 1) branch_missing (cond (eqb x 2) key_ended (cond (eqb x 3) at_exact_leaf (cond (eqb x 4) suffix_equal (cond (eqb x 5) suffix_other no_nodes))))

-- it is that rule
numbered_back : (r : Rule) → numbered (rule_number r) ≡ r
unfolding numbered
numbered_back branch_missing = refl
numbered_back key_ended = refl
numbered_back at_exact_leaf = refl
numbered_back suffix_equal = refl
numbered_back suffix_other = refl
numbered_back no_nodes = refl

-- Rules with the same number are one.
pub rule_number_injective : (a b : Rule) → rule_number a ≡ rule_number b → a ≡ b
rule_number_injective a b e = sym (numbered_back a) ∙ ap numbered e ∙ numbered_back b

-- The number of a rule is one of 1 to 6.
pub rule_number_range : (r : Rule) → From 1 6 (rule_number r)
rule_number_range branch_missing = (omega arith, omega arith)
rule_number_range key_ended = (omega arith, omega arith)
rule_number_range at_exact_leaf = (omega arith, omega arith)
rule_number_range suffix_equal = (omega arith, omega arith)
rule_number_range suffix_other = (omega arith, omega arith)
rule_number_range no_nodes = (omega arith, omega arith)
