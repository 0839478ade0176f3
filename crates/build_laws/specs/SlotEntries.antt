-- The slots that keys emit, one a key, are those of the entries that do not continue. Used by the body SV.
use Rattle.std.specs.Prelude.{ℕ, zero, suc, ◌+◌, ◌*◌, ◌<◌, ◌≤◌, max, ◌≡◌, Bool, not, ◌&&◌, ◌||◌, length, replicate, leb}
use Rattle.std.proofs.Math.Path.{refl, sym}
use Rattle.std.proofs.Common.{ap, ap₂, ◌∙◌, arith, eqb-true, eq-eqb, ne_eqb, ltb-true, lt-ltb, le-ltb, le-leb}
use Rattle.std.proofs.Math.Bool.{true, false, cond}
use mathlib.Core.List.{List, [], ◌∷◌, ◌++◌, map, map-append, append-nil}
use Rattle.std.proofs.Math.Dec.{ltb, eqb}
use Rattle.std.proofs.lemmas.Bool.{eqb-false}
use Rattle.spec.specs.Bytes.{Bytes, Bits, filter, concat, bit}
use Rattle.spec.specs.Leaves.{suffix_bits}
use Rattle.theory.specs.Terms.{All}
use Rattle.theory.proofs.Lists.{nil_of}
use Rattle.build_laws.specs.SlotWidths.{width_of}
use Rattle.build_laws.specs.LevelEntries.{pred}
use Rattle.build_laws.specs.TrieEntries.{Slotted}
use Rattle.theory.proofs.Neighbours.{next_shared}
use Rattle.build_laws.specs.NeighbourLeaves.{cut_length, cut_open}
use Rattle.build_laws.specs.Emissions.{Emission, emission, level_values, values_below, key_emissions, emissions, level_append, level_none, key_level}
use Rattle.build_laws.specs.KeyEntries.{continues_at, slotted_at, exact_slotted, slotted_emissions}
use Rattle.build_laws.specs.Cursors.{sum_of}
use Rattle.build_laws.specs.BytePass.{one_step}
use Rattle.build_laws.specs.NodeBodies.{slots_in, SlotWide, leaf_step}
use Rattle.build_laws.specs.PassEmissions.{leaf_level, key_slot, slot_emissions}
use Rattle.build_laws.specs.declared.SlotBits.{SlotBits}

-- the slots of the entries that do not continue
unfoldable pub leaf_slots : List Slotted → List Bits
unfolding filter
leaf_slots xs = map (λ (i : Slotted). i.slot) (filter (λ (i : Slotted). not i.entry.child) xs)

filter_append : {A : Type 0} (p : A → Bool) (a b : List A) → filter p (a ++ b) ≡ filter p a ++ filter p b
unfolding filter
filter_append p [] b = refl
filter_append {A} p (x ∷ a) b = go (p x) (filter_append p a b)
  where
    go : (c : Bool) → filter p (a ++ b) ≡ filter p a ++ filter p b → cond c (x ∷ filter p (a ++ b)) (filter p (a ++ b)) ≡ cond c (x ∷ filter p a) (filter p a) ++ filter p b
    go true ih = ap (λ (z : List A). x ∷ z) ih
    go false ih = ih

leaf_slots_append : (a b : List Slotted) → leaf_slots (a ++ b) ≡ leaf_slots a ++ leaf_slots b
unfolding leaf_slots
leaf_slots_append a b = ap (map (λ (i : Slotted). i.slot)) (filter_append (λ (i : Slotted). not i.entry.child) a b) ∙ map-append (λ (i : Slotted). i.slot) (filter (λ (i : Slotted). not i.entry.child) a) (filter (λ (i : Slotted). not i.entry.child) b)

leaf_slots_none : leaf_slots [] ≡ []
unfolding leaf_slots filter
leaf_slots_none = refl

kept : (i : Slotted) → i.entry.child ≡ false → leaf_slots (i ∷ []) ≡ i.slot ∷ []
unfolding leaf_slots filter
kept i e = rw e

left_out : (i : Slotted) → i.entry.child ≡ true → leaf_slots (i ∷ []) ≡ []
unfolding leaf_slots filter
left_out i e = rw e

-- ---- one key

module _ (w : SlotBits) (p q : ℕ) (k : Bytes) (d : ℕ) where
  exact_first : q ≡ length k → (b : Bool) → leaf_slots (cond b (slotted_at w p q k d ∷ []) []) ≡ []
  exact_first e true = left_out (slotted_at w p q k d) (ap (λ (c : Bool). c || ltb (suc d) (cut_length (pred p) q (length k))) (eq-eqb q (length k) e))
  exact_first e false = leaf_slots_none

  exact_last : (b : Bool) → leaf_slots (cond b (exact_slotted w ∷ []) []) ≡ cond b (replicate (width_of w) false ∷ []) []
  exact_last true = kept (exact_slotted w) refl
  exact_last false = leaf_slots_none

  child_open : (q ≡ length k → ⊥) → continues_at p q (length k) d ≡ ltb (suc d) (suc (max (pred p) q))
  child_open z = ap₂ (λ (b : Bool) (c : ℕ). b || ltb (suc d) c) (ne_eqb q (length k) z) (cut_open (pred p) q (length k) z)

  open_first : (q ≡ length k → ⊥) → leaf_slots (cond (leb (pred p) d && ltb d (cut_length (pred p) q (length k))) (slotted_at w p q k d ∷ []) [])
      ≡ cond (eqb d (max (pred p) q)) (suffix_bits w.hash_width w.real_width (cut_length (pred p) q (length k)) k ∷ []) []
  open_first z = ap (λ (c : ℕ). leaf_slots (cond (leb (pred p) d && ltb d c) (slotted_at w p q k d ∷ []) [])) (cut_open (pred p) q (length k) z) ∙ go (eqb d (max (pred p) q)) refl
    where
      slot_is : continues_at p q (length k) d ≡ false → (slotted_at w p q k d).slot ≡ suffix_bits w.hash_width w.real_width (cut_length (pred p) q (length k)) k
      slot_is e = ap (λ (b : Bool). cond b [] (suffix_bits w.hash_width w.real_width (cut_length (pred p) q (length k)) k)) e

      inner : (a b : Bool) → ltb d (suc (max (pred p) q)) ≡ b → (d ≡ max (pred p) q → ⊥) → leaf_slots (cond (a && b) (slotted_at w p q k d ∷ []) []) ≡ []
      inner true true e n = left_out (slotted_at w p q k d) (child_open z ∙ lt-ltb (suc d) (suc (max (pred p) q)) (near (ltb-true d (suc (max (pred p) q)) e) n))
        where
          near : d < suc (max (pred p) q) → (d ≡ max (pred p) q → ⊥) → suc d < suc (max (pred p) q)
          near h n = omega arith
      inner true false e n = leaf_slots_none
      inner false b e n = leaf_slots_none

      go : (b : Bool) → eqb d (max (pred p) q) ≡ b → leaf_slots (cond (leb (pred p) d && ltb d (suc (max (pred p) q))) (slotted_at w p q k d ∷ []) []) ≡ cond b (suffix_bits w.hash_width w.real_width (cut_length (pred p) q (length k)) k ∷ []) []
      go true e =
          let h : d ≡ max (pred p) q = eqb-true d (max (pred p) q) e in
          let c : continues_at p q (length k) d ≡ false = child_open z ∙ le-ltb (suc d) (suc (max (pred p) q)) (omega arith) in
          ap₂ (λ (a b : Bool). leaf_slots (cond (a && b) (slotted_at w p q k d ∷ []) [])) (le-leb (pred p) d (omega arith)) (lt-ltb d (suc (max (pred p) q)) (omega arith))
          ∙ kept (slotted_at w p q k d) c ∙ ap (λ (s : Bits). s ∷ []) (slot_is c)
      go false e = inner (leb (pred p) d) (ltb d (suc (max (pred p) q))) refl (eqb-false d (max (pred p) q) e)

  -- a key's slot on its leaf's level
  key_slots : d < 64 → level_values d (emission (leaf_level (pred p) q (length k)) (key_slot w (pred p) q k) ∷ []) ≡ leaf_slots (level_values d (key_emissions 0 64 (slotted_at w p q k) (exact_slotted w) (pred p) q (length k)))
  unfolding level_values leaf_level key_slot
  key_slots h =
      go (eqb q (length k)) refl
      ∙ sym (ap leaf_slots (key_level 0 64 (slotted_at w p q k) (exact_slotted w) (pred p) q (length k) d (omega arith) h)
      ∙ leaf_slots_append (cond (leb (pred p) d && ltb d (cut_length (pred p) q (length k))) (slotted_at w p q k d ∷ []) []) (cond (eqb q (length k) && eqb d (length k)) (exact_slotted w ∷ []) []))
    where
      go : (b : Bool) → eqb q (length k) ≡ b
          → cond (eqb d (cond b (length k) (max (pred p) q))) (cond b (replicate (width_of w) false) (suffix_bits w.hash_width w.real_width (cut_length (pred p) q (length k)) k) ∷ []) []
          ≡ leaf_slots (cond (leb (pred p) d && ltb d (cut_length (pred p) q (length k))) (slotted_at w p q k d ∷ []) []) ++ leaf_slots (cond (b && eqb d (length k)) (exact_slotted w ∷ []) [])
      go true e = sym (ap₂ ◌++◌ (exact_first (eqb-true q (length k) e) (leb (pred p) d && ltb d (cut_length (pred p) q (length k)))) (exact_last (eqb d (length k))))
      go false e = sym (ap₂ ◌++◌ (open_first (eqb-false q (length k) e)) leaf_slots_none ∙ append-nil (cond (eqb d (max (pred p) q)) (suffix_bits w.hash_width w.real_width (cut_length (pred p) q (length k)) k ∷ []) []))

-- ---- all keys

cons_level : (d : ℕ) (e : Emission Bits) (es : List (Emission Bits)) → level_values d (e ∷ es) ≡ level_values d (e ∷ []) ++ level_values d es
cons_level d e es = level_append d (e ∷ []) es

slots_level : (w : SlotBits) (d p : ℕ) (ks : List Bytes) → d < 64 → level_values d (slot_emissions w p ks) ≡ leaf_slots (level_values d (emissions 0 64 (slotted_at w) (exact_slotted w) p ks))
unfolding slot_emissions emissions
slots_level w d p [] h = level_none d ∙ sym (ap leaf_slots (level_none d) ∙ leaf_slots_none)
slots_level w d p (k ∷ ks) h =
    let q : ℕ = next_shared k ks in
    cons_level d (emission (leaf_level (pred p) q (length k)) (key_slot w (pred p) q k)) (slot_emissions w (suc q) ks)
    ∙ ap₂ ◌++◌ (key_slots w p q k d h) (slots_level w d (suc q) ks h)
    ∙ sym (ap leaf_slots (level_append d (key_emissions 0 64 (slotted_at w p q k) (exact_slotted w) (pred p) q (length k)) (emissions 0 64 (slotted_at w) (exact_slotted w) (suc q) ks))
    ∙ leaf_slots_append (level_values d (key_emissions 0 64 (slotted_at w p q k) (exact_slotted w) (pred p) q (length k))) (level_values d (emissions 0 64 (slotted_at w) (exact_slotted w) (suc q) ks)))

-- the slots on a level are those of its entries that do not continue
pub level_slots : (w : SlotBits) (d : ℕ) (ks : List Bytes) → d < 64 → level_values d (slot_emissions w 0 ks) ≡ leaf_slots (level_values d (slotted_emissions 0 64 w ks))
unfolding slotted_emissions
level_slots w d ks h = slots_level w d 0 ks h

-- so are those of all levels
pub values_slots : (w : SlotBits) (ks : List Bytes) (m : ℕ) → m ≤ 64 → values_below (slot_emissions w 0 ks) m ≡ leaf_slots (values_below (slotted_emissions 0 64 w ks) m)
unfolding values_below
values_slots w ks zero h = sym leaf_slots_none
values_slots w ks (suc m) h =
    ap₂ ◌++◌ (values_slots w ks m (omega arith)) (level_slots w m ks (omega arith)) ∙ sym (leaf_slots_append (values_below (slotted_emissions 0 64 w ks) m) (level_values m (slotted_emissions 0 64 w ks)))

-- ---- one behind the other

-- an entry that continues has no slot, so the slots of the leaves are all slots
pub slots_concat : (w : ℕ) (xs : List Slotted) → All (SlotWide w) xs → (concat (leaf_slots xs) ≡ slots_in xs) × All (λ (s : Bits). length s ≡ w * 1) (leaf_slots xs)
unfolding leaf_slots slots_in filter concat
slots_concat w [] a = (refl, tt)
slots_concat w (i ∷ xs) a = go i.entry.child refl a.0 (slots_concat w xs a.1)
  where
    go : (c : Bool) → i.entry.child ≡ c → length i.slot ≡ w * bit (not c)
        → (concat (map (λ (i : Slotted). i.slot) (filter (λ (i : Slotted). not i.entry.child) xs)) ≡ concat (map (λ (i : Slotted). i.slot) xs)) × All (λ (s : Bits). length s ≡ w * 1) (map (λ (i : Slotted). i.slot) (filter (λ (i : Slotted). not i.entry.child) xs))
        → (concat (map (λ (i : Slotted). i.slot) (cond (not c) (i ∷ filter (λ (i : Slotted). not i.entry.child) xs) (filter (λ (i : Slotted). not i.entry.child) xs))) ≡ i.slot ++ concat (map (λ (i : Slotted). i.slot) xs))
        × All (λ (s : Bits). length s ≡ w * 1) (map (λ (i : Slotted). i.slot) (cond (not c) (i ∷ filter (λ (i : Slotted). not i.entry.child) xs) (filter (λ (i : Slotted). not i.entry.child) xs)))
    go true e l ih = let z : length i.slot ≡ 0 = l ∙ omega arith in (ih.0 ∙ ap (λ (s : Bits). s ++ concat (map (λ (i : Slotted). i.slot) xs)) (sym (nil_of i.slot z)), ih.1)
    go false e l ih = (ap (λ (s : Bits). i.slot ++ s) ih.0, (l, ih.1))

-- as many slots as entries that do not continue
pub sum_slots : (xs : List Slotted) → sum_of one_step (leaf_slots xs) ≡ sum_of leaf_step xs
unfolding leaf_slots filter sum_of
sum_slots [] = refl
sum_slots (i ∷ xs) = go i.entry.child (sum_slots xs)
  where
    go : (c : Bool) → sum_of one_step (map (λ (i : Slotted). i.slot) (filter (λ (i : Slotted). not i.entry.child) xs)) ≡ sum_of leaf_step xs
        → sum_of one_step (map (λ (i : Slotted). i.slot) (cond (not c) (i ∷ filter (λ (i : Slotted). not i.entry.child) xs) (filter (λ (i : Slotted). not i.entry.child) xs))) ≡ bit (not c) + sum_of leaf_step xs
    go true ih = omega (arith, ih)
    go false ih = omega (arith, ih)
