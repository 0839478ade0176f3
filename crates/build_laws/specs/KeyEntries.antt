-- The entries that one key adds to the levels of the trie, from the key and what it shares with its neighbours; and that those of all keys, level by level,
-- are the entries of the trie's nodes. Used by the laws of the bodies.
use Prim.Native.Nat.{ℕ, zero, suc, ◌+◌, ◌-◌, ◌<◌, ◌≤◌, max}
use Rattle.std.specs.Prelude.{◌≡◌, Bool, ◌&&◌, ◌||◌, get_or, replicate, leb}
use Rattle.std.proofs.Math.Path.{refl, sym, ap, ap₂}
use Rattle.std.proofs.Common.{◌∙◌, add-zero, add-suc, get_or-take, eqb-true, ltb-true}
use Rattle.std.proofs.Math.Bool.{true, false, cond}
use mathlib.Core.List.{List, [], ◌∷◌, ◌++◌, map, map-append, append-nil}
use native.Mathlib.Omega.{arith}
use Rattle.std.proofs.Math.ListN.{length}
use Rattle.std.proofs.Math.Dec.{ltb, eqb}
use Rattle.std.proofs.lemmas.Bool.{eqb-false}
use Rattle.spec.specs.Bytes.{Bytes, Bits, shared, concat, iota}
use Rattle.spec.specs.Leaves.{Leaf, leaves, suffix_bits}
use Rattle.spec.specs.Nodes.{to_node, to_leaf}
use Rattle.theory.specs.Terms.{Ascending}
use Rattle.theory.proofs.Order.{shared_comm, above_short, shared_le}
use Rattle.rank_tables.specs.TableEntries.{iota_snoc}
use Rattle.build_laws.specs.SlotWidths.{width_of}
use Rattle.build_laws.specs.LevelEntries.{tagged, branch_at, leaf_entries, next_new, level_entries, pred, pred_leb}
use Rattle.build_laws.specs.declared.Entry.{Entry}
use Rattle.build_laws.specs.declared.SlotBits.{SlotBits}
use Rattle.build_laws.specs.TrieEntries.{Slotted, to_slotted, slotted_between}
use Rattle.theory.proofs.Neighbours.{next_shared, neighbour_leaf, neighbour_leaves, next_shared_le, Nonempty}
use Rattle.theory.proofs.NeighbourLeaves.{leaves_by_neighbours}
use Rattle.build_laws.specs.NeighbourLeaves.{cut_length, taken, cut_taken, neighbour_cut, neighbour_exact, neighbour_length, neighbour_suffix, neighbour_slot, neighbours_shared}
use Rattle.build_laws.specs.Emissions.{Emission, level_values, values_below, level_append, level_none, key_emissions, key_level, key_low, key_high, emissions}

-- the branch on level d continues, unless it is the last of an open leaf
abbrev pub continues_at : ℕ → ℕ → ℕ → ℕ → Bool
continues_at p q n d = eqb q n || ltb (suc d) (cut_length (pred p) q n)

-- the branch of a key k on level d of its cut key; p is the first level on which the key starts a node, q what it shares with the key behind
abbrev pub entry_at : ℕ → ℕ → Bytes → ℕ → Entry
entry_at p q k d = record { start = leb p d; exact = false; child = continues_at p q (length k) d; label = get_or k d 0 }

-- the exact leaf, the first entry of its node
abbrev pub exact_entry : Entry
exact_entry = record { start = true; exact = true; child = false; label = 255 }

-- the branch with its slot
abbrev pub slotted_at : SlotBits → ℕ → ℕ → Bytes → ℕ → Slotted
slotted_at w p q k d = record {
  entry = entry_at p q k d;
  slot = cond (continues_at p q (length k) d) [] (suffix_bits w.hash_width w.real_width (cut_length (pred p) q (length k)) k);
}

-- the exact leaf with its slot
abbrev pub exact_slotted : SlotBits → Slotted
exact_slotted w = record { entry = exact_entry; slot = replicate (width_of w) false }

-- the entries of keys on the levels from lo to below hi
unfoldable pub slotted_emissions : ℕ → ℕ → SlotBits → List Bytes → List (Emission Slotted)
unfolding emissions
slotted_emissions lo hi w ks = emissions lo hi (slotted_at w) (exact_slotted w) 0 ks

-- ---- one key

slotted_cond : (b c : Bool) (x y : ℕ) (s t : Bits) → x ≡ y → (c ≡ false → s ≡ t)
    → to_slotted (tagged b false (cond c (to_node x) (to_leaf x s))) ≡ record { entry = record { start = b; exact = false; child = c; label = y }; slot = cond c [] t }
slotted_cond b true x y s t e f = ap (λ (z : ℕ). record { entry = record { start = b; exact = false; child = true; label = z }; slot = [] }) e
slotted_cond b false x y s t e f = ap₂ (λ (z : ℕ) (u : Bits). record { entry = record { start = b; exact = false; child = false; label = z }; slot = u }) e (f refl)

or_left : (a b : Bool) → a || b ≡ false → a ≡ false
or_left false b h = refl
or_left true b h = h

module _ (w : SlotBits) (d p q : ℕ) (k : Bytes) (l : pred p < length k) (r : q ≤ length k) where
  kind_is : ((neighbour_leaf w.hash_width w.real_width (pred p) q k).exact || ltb (suc d) (length (neighbour_leaf w.hash_width w.real_width (pred p) q k).cut)) ≡ continues_at p q (length k) d
  kind_is = ap₂ (λ (b : Bool) (c : ℕ). b || ltb (suc d) c) (neighbour_exact w (pred p) q k) (neighbour_length w (pred p) q k l r)

  label_is : d < cut_length (pred p) q (length k) → get_or (neighbour_leaf w.hash_width w.real_width (pred p) q k).cut d 0 ≡ get_or k d 0
  label_is h =
      ap (λ (z : Bytes). get_or z d 0) (neighbour_cut w (pred p) q k)
      ∙ get_or-take (taken (pred p) q (length k)) k d 0 (omega (arith, cut_taken (pred p) q (length k)))

  slotted_is : d < cut_length (pred p) q (length k) → to_slotted (tagged (leb p d) false (branch_at d (neighbour_leaf w.hash_width w.real_width (pred p) q k))) ≡ slotted_at w p q k d
  unfolding branch_at
  slotted_is h =
      ap (λ (b : Bool). to_slotted (tagged (leb p d) false (cond b (to_node (get_or (neighbour_leaf w.hash_width w.real_width (pred p) q k).cut d 0)) (to_leaf (get_or (neighbour_leaf w.hash_width w.real_width (pred p) q k).cut d 0) (neighbour_leaf w.hash_width w.real_width (pred p) q k).suffix)))) kind_is
      ∙ slotted_cond (leb p d) (continues_at p q (length k) d) _ _ _ _ (label_is h)
      (λ e. neighbour_suffix w (pred p) q k (eqb-false q (length k) (or_left (eqb q (length k)) (ltb (suc d) (cut_length (pred p) q (length k))) e)))

  first_part : map to_slotted (cond (leb p (suc d) && ltb d (length (neighbour_leaf w.hash_width w.real_width (pred p) q k).cut)) (tagged (leb p d) false (branch_at d (neighbour_leaf w.hash_width w.real_width (pred p) q k)) ∷ []) [])
      ≡ cond (leb (pred p) d && ltb d (cut_length (pred p) q (length k))) (slotted_at w p q k d ∷ []) []
  first_part =
      ap₂ (λ (a : Bool) (c : ℕ). map to_slotted (cond (a && ltb d c) (tagged (leb p d) false (branch_at d (neighbour_leaf w.hash_width w.real_width (pred p) q k)) ∷ []) [])) (pred_leb p d) (neighbour_length w (pred p) q k l r)
      ∙ go (leb (pred p) d) (ltb d (cut_length (pred p) q (length k))) refl
    where
      go : (a b : Bool) → ltb d (cut_length (pred p) q (length k)) ≡ b
          → map to_slotted (cond (a && b) (tagged (leb p d) false (branch_at d (neighbour_leaf w.hash_width w.real_width (pred p) q k)) ∷ []) []) ≡ cond (a && b) (slotted_at w p q k d ∷ []) []
      go true true e = ap (λ (z : Slotted). z ∷ []) (slotted_is (ltb-true d (cut_length (pred p) q (length k)) e))
      go true false e = refl
      go false b e = refl

  last_part : map to_slotted (cond ((neighbour_leaf w.hash_width w.real_width (pred p) q k).exact && eqb d (length (neighbour_leaf w.hash_width w.real_width (pred p) q k).cut)) (tagged true true (to_leaf 255 (neighbour_leaf w.hash_width w.real_width (pred p) q k).suffix) ∷ []) [])
      ≡ cond (eqb q (length k) && eqb d (length k)) (exact_slotted w ∷ []) []
  unfolding cut_length
  last_part =
      ap₂ (λ (a : Bool) (c : ℕ). map to_slotted (cond (a && eqb d c) (tagged true true (to_leaf 255 (neighbour_leaf w.hash_width w.real_width (pred p) q k).suffix) ∷ []) [])) (neighbour_exact w (pred p) q k) (neighbour_length w (pred p) q k l r)
      ∙ go (eqb q (length k)) refl
    where
      exact : (b : Bool) → q ≡ length k → map to_slotted (cond b (tagged true true (to_leaf 255 (neighbour_leaf w.hash_width w.real_width (pred p) q k).suffix) ∷ []) []) ≡ cond b (exact_slotted w ∷ []) []
      exact true e = ap (λ (s : Bits). record { entry = exact_entry; slot = s } ∷ []) (neighbour_slot w (pred p) q k e)
      exact false e = refl

      go : (b : Bool) → eqb q (length k) ≡ b
          → map to_slotted (cond (b && eqb d (cond b (length k) (suc (max (pred p) q)))) (tagged true true (to_leaf 255 (neighbour_leaf w.hash_width w.real_width (pred p) q k).suffix) ∷ []) []) ≡ cond (b && eqb d (length k)) (exact_slotted w ∷ []) []
      go true e = exact (eqb d (length k)) (eqb-true q (length k) e)
      go false e = refl

  -- the entries of one key on a level are those that its leaf adds there
  key_slotted : (lo hi : ℕ) → lo ≤ d → d < hi → level_values d (key_emissions lo hi (slotted_at w p q k) (exact_slotted w) (pred p) q (length k)) ≡ map to_slotted (leaf_entries d p (neighbour_leaf w.hash_width w.real_width (pred p) q k))
  unfolding leaf_entries
  key_slotted lo hi h g =
      key_level lo hi (slotted_at w p q k) (exact_slotted w) (pred p) q (length k) d h g
      ∙ sym (map-append to_slotted (cond (leb p (suc d) && ltb d (length (neighbour_leaf w.hash_width w.real_width (pred p) q k).cut)) (tagged (leb p d) false (branch_at d (neighbour_leaf w.hash_width w.real_width (pred p) q k)) ∷ []) []) _
      ∙ ap₂ ◌++◌ first_part last_part)

-- ---- all keys

module _ (w : SlotBits) (lo hi d : ℕ) where
  keys_slotted : (p : ℕ) (k : Bytes) (ks : List Bytes) → lo ≤ d → d < hi → pred p < length k → Ascending (k ∷ ks)
      → level_values d (emissions lo hi (slotted_at w) (exact_slotted w) p (k ∷ ks)) ≡ map to_slotted (level_entries d p (neighbour_leaves w.hash_width w.real_width (pred p) (k ∷ ks)))
  unfolding emissions neighbour_leaves level_entries next_shared next_new level_values
  keys_slotted p k [] h g l a =
      level_append d (key_emissions lo hi (slotted_at w p 0 k) (exact_slotted w) (pred p) 0 (length k)) []
      ∙ ap (λ (z : List Slotted). z ++ []) (key_slotted w d p 0 k l (omega arith) lo hi h g) ∙ sym (map-append to_slotted (leaf_entries d p (neighbour_leaf w.hash_width w.real_width (pred p) 0 k)) [])
  keys_slotted p k (m ∷ ms) h g l a =
      let q : ℕ = shared k m in
      level_append d (key_emissions lo hi (slotted_at w p q k) (exact_slotted w) (pred p) q (length k)) (emissions lo hi (slotted_at w) (exact_slotted w) (suc q) (m ∷ ms))
      ∙ ap₂ ◌++◌ (key_slotted w d p q k l (shared_le k m) lo hi h g)
      (keys_slotted (suc q) m ms h g (omega (arith, above_short k m a.0.0, shared_comm k m)) a.1
      ∙ ap (λ (z : ℕ). map to_slotted (level_entries d (suc z) (neighbour_leaves w.hash_width w.real_width q (m ∷ ms)))) (sym (neighbours_shared w (pred p) (next_shared m ms) k m a.0.0 l (next_shared_le m ms))))
      ∙ sym (map-append to_slotted (leaf_entries d p (neighbour_leaf w.hash_width w.real_width (pred p) q k)) _)

  from_first : (ks : List Bytes) → lo ≤ d → d < hi → Nonempty ks → Ascending ks → level_values d (emissions lo hi (slotted_at w) (exact_slotted w) 0 ks) ≡ map to_slotted (level_entries d 0 (neighbour_leaves w.hash_width w.real_width 0 ks))
  unfolding emissions level_values neighbour_leaves level_entries
  from_first [] h g s a = refl
  from_first (k ∷ ks) h g s a = keys_slotted 0 k ks h g s.0 a

  -- The entries of an ascending key list on a level are those that its leaves add there.
  pub level_emitted : (ks : List Bytes) → lo ≤ d → d < hi → Nonempty ks → Ascending ks → level_values d (slotted_emissions lo hi w ks) ≡ map to_slotted (level_entries d 0 (leaves w.hash_width w.real_width ks))
  unfolding slotted_emissions
  level_emitted ks h g s a = from_first ks h g s a ∙ ap (λ (ls : List Leaf). map to_slotted (level_entries d 0 ls)) (sym (leaves_by_neighbours w.hash_width w.real_width ks s a))

-- no key emits below lo
pub level_low : {A : Type 0} (F : ℕ → ℕ → Bytes → ℕ → A) (t : A) (lo hi d p : ℕ) (ks : List Bytes) → d < lo → level_values d (emissions lo hi F t p ks) ≡ []
unfolding emissions
level_low F t lo hi d p [] h = level_none d
level_low F t lo hi d p (k ∷ ks) h =
    level_append d (key_emissions lo hi (F p (next_shared k ks) k) t (pred p) (next_shared k ks) (length k)) (emissions lo hi F t (suc (next_shared k ks)) ks)
    ∙ ap₂ ◌++◌ (key_low lo hi (F p (next_shared k ks) k) t (pred p) (next_shared k ks) (length k) d h) (level_low F t lo hi d (suc (next_shared k ks)) ks h)

-- nor from hi on
pub level_high : {A : Type 0} (F : ℕ → ℕ → Bytes → ℕ → A) (t : A) (lo hi d p : ℕ) (ks : List Bytes) → hi ≤ d → level_values d (emissions lo hi F t p ks) ≡ []
unfolding emissions
level_high F t lo hi d p [] h = level_none d
level_high F t lo hi d p (k ∷ ks) h =
    level_append d (key_emissions lo hi (F p (next_shared k ks) k) t (pred p) (next_shared k ks) (length k)) (emissions lo hi F t (suc (next_shared k ks)) ks)
    ∙ ap₂ ◌++◌ (key_high lo hi (F p (next_shared k ks) k) t (pred p) (next_shared k ks) (length k) d h) (level_high F t lo hi d (suc (next_shared k ks)) ks h)

-- no entry stands below lo
pub slotted_low : (w : SlotBits) (lo hi d : ℕ) (ks : List Bytes) → d < lo → level_values d (slotted_emissions lo hi w ks) ≡ []
unfolding slotted_emissions
slotted_low w lo hi d ks h = level_low (slotted_at w) (exact_slotted w) lo hi d 0 ks h

-- nor from hi on
pub slotted_high : (w : SlotBits) (lo hi d : ℕ) (ks : List Bytes) → hi ≤ d → level_values d (slotted_emissions lo hi w ks) ≡ []
unfolding slotted_emissions
slotted_high w lo hi d ks h = level_high (slotted_at w) (exact_slotted w) lo hi d 0 ks h

-- ---- all levels

module _ {A : Type 0} (es : List (Emission A)) (lo hi : ℕ) (G : ℕ → List A) (low : (d : ℕ) → d < lo → level_values d es ≡ []) (mid : (d : ℕ) → lo ≤ d → d < hi → level_values d es ≡ G d) (high : (d : ℕ) → hi ≤ d → level_values d es ≡ []) where
  below_low : (d : ℕ) → d ≤ lo → values_below es d ≡ []
  unfolding values_below
  below_low zero h = refl
  below_low (suc d) h = ap₂ ◌++◌ (below_low d (omega arith)) (low d (omega arith))

  below_mid : (k : ℕ) → lo + k ≤ hi → values_below es (lo + k) ≡ concat (map G (iota lo k))
  unfolding values_below concat iota
  below_mid zero h = ap (values_below es) (add-zero lo) ∙ below_low lo (omega arith)
  below_mid (suc k) h = ap (values_below es) (add-suc lo k) ∙ ap₂ ◌++◌ (below_mid k (omega arith)) (mid (lo + k) (omega arith) (omega arith)) ∙ sym (iota_snoc G k lo)

  below_high : lo ≤ hi → (k : ℕ) → values_below es (hi + k) ≡ concat (map G (iota lo (hi - lo)))
  unfolding values_below
  below_high h zero = let u : hi + 0 ≡ lo + (hi - lo) = omega arith in ap (values_below es) u ∙ below_mid (hi - lo) (omega arith)
  below_high h (suc k) = ap (values_below es) (add-suc hi k) ∙ ap₂ ◌++◌ (below_high h k) (high (hi + k) (omega arith)) ∙ append-nil (concat (map G (iota lo (hi - lo))))

-- The entries that the keys emit, level by level, are those of the levels from lo to below hi.
pub values_emitted : (w : SlotBits) (lo hi : ℕ) (ks : List Bytes) → lo ≤ hi → hi ≤ 64 → Nonempty ks → Ascending ks → values_below (slotted_emissions lo hi w ks) 64 ≡ slotted_between lo (hi - lo) (leaves w.hash_width w.real_width ks)
unfolding slotted_between
values_emitted w lo hi ks h g s a =
    let u : 64 ≡ hi + (64 - hi) = omega arith in
    ap (values_below (slotted_emissions lo hi w ks)) u
    ∙ below_high (slotted_emissions lo hi w ks) lo hi (λ d. map to_slotted (level_entries d 0 (leaves w.hash_width w.real_width ks))) (λ d l. slotted_low w lo hi d ks l) (λ d l r. level_emitted w lo hi d ks l r s a) (λ d l. slotted_high w lo hi d ks l) h (64 - hi)
