-- The exact leaves among the sparse nodes by position: first entries with the label FF that are not alone; and the leaves before each entry.
use Prim.Native.Nat.{ℕ, zero, suc, ◌+◌, ◌-◌, ◌*◌, ◌<◌, ◌≤◌}
use Rattle.std.specs.Prelude.{◌≡◌, cond, ◌&&◌, ◌||◌, length, get_or, eqb, ltb}
use Rattle.std.proofs.Math.Path.{refl, sym, ap, ap₂}
use Rattle.std.proofs.Common.{◌∙◌}
use Rattle.std.proofs.Math.Bool.{Bool, true, false, not}
use mathlib.Core.List.{List, [], ◌∷◌, map}
use native.Mathlib.Omega.{arith}
use Rattle.std.proofs.Math.ListN.{drop}
use borrow.Author.Tests.{lt-ltb, le-ltb}
use Rattle.spec.specs.Bytes.{Bytes, Bits, all, bit, count}
use Rattle.spec.specs.Nodes.{Entry, entry, entry_label, shape, Sparse, sparse, prepend, split, split_behind, sparse_shape, extra_ends}
use Rattle.spec.specs.Trie.{first_set}
use Rattle.bits.specs.Bits.{bit_at, rank}
use Rattle.bits.proofs.RankLaws.{rank_next, rank_le}
use Rattle.check_levels.specs.Shapes.{ends_here, exact}
use Rattle.check_levels.specs.SparseNodes.{First, first_node, entries_of, leaves_of}
use Rattle.check_levels.specs.Positions.{bits, is_set, bits_from}
use Rattle.check_levels.specs.EntryPositions.{entry_at, all_entries, zip_from, zip_end}
use Rattle.check_levels.specs.Ranges.{all_from}
use Rattle.check_slots.specs.NodeSlots.{exact_from}
use Rattle.check_slots.specs.DenseExact.{bit_set}
use Rattle.theory.proofs.Lists.{and_both}

-- ---- nodes by their entries

-- the first entry of a node is the extra FF
abbrev extra : Sparse → Bool
extra (sparse e []) = false
extra (sparse e (f ∷ es)) = eqb (entry_label e) 255

-- exact leaves of nodes, the first of which begins with its own first entry or has lost it, and whose slots from v on pass a test
unfoldable exact_nodes : (ℕ → Bool) → ℕ → Bool → List Sparse → Bool
unfolding count
exact_nodes f v start [] = true
exact_nodes f v start (c ∷ cs) = (not (start && extra c) || f v) && exact_nodes f (v + count ends_here (entries_of c)) true cs

-- the same, entry by entry, with the S-LOUDS bits behind the first
unfoldable exact_entries : (ℕ → Bool) → ℕ → Bool → Entry → List Entry → Bits → Bool
exact_entries f v start e [] bs = true
exact_entries f v start e (g ∷ es) [] = true
exact_entries f v start e (g ∷ es) (true ∷ bs) = exact_entries f (v + bit (ends_here e)) true g es bs
exact_entries f v start e (g ∷ es) (false ∷ bs) = (not (start && eqb (entry_label e) 255) || f v) && exact_entries f (v + bit (ends_here e)) false g es bs

one_entry : (e : Entry) → count ends_here (e ∷ []) ≡ bit (ends_here e)
unfolding count
one_entry (entry x true) = refl
one_entry (entry x false) = refl

more_entries : (e : Entry) (es : List Entry) → count ends_here (e ∷ es) ≡ bit (ends_here e) + count ends_here es
unfolding count
more_entries (entry x true) es = omega arith
more_entries (entry x false) es = omega arith

no_extra : (start t : Bool) → (not (start && false) || t) ≡ true
no_extra true t = refl
no_extra false t = refl

entries_nodes : (f : ℕ → Bool) (v : ℕ) (start : Bool) (e : Entry) (es : List Entry) (bs : Bits) → exact_entries f v start e es bs ≡ exact_nodes f v start (split_behind e es bs)
unfolding exact_entries exact_nodes split_behind prepend
entries_nodes f v start e [] bs = sym (rw (no_extra start (f v)))
entries_nodes f v start e (g ∷ es) [] = sym (rw (no_extra start (f v)))
entries_nodes f v start e (g ∷ es) (true ∷ bs) =
    rw (no_extra start (f v)) (entries_nodes f (v + bit (ends_here e)) true g es bs ∙ ap (λ (k : ℕ). exact_nodes f (v + k) true (split_behind g es bs)) (sym (one_entry e)))
entries_nodes f v start e (g ∷ es) (false ∷ bs) =
    ap (λ (t : Bool). (not (start && eqb (entry_label e) 255) || f v) && t) (entries_nodes f (v + bit (ends_here e)) false g es bs) ∙ go (split_behind g es bs) (first_node g es bs)
  where
    go : (cs : List Sparse) → First g cs
        → (not (start && eqb (entry_label e) 255) || f v) && exact_nodes f (v + bit (ends_here e)) false cs ≡ exact_nodes f v start (prepend e cs)
    go cs n =
        let k : v + bit (ends_here e) + count ends_here (g ∷ n.behind) ≡ v + count ends_here (e ∷ g ∷ n.behind) = omega (arith, more_entries e (g ∷ n.behind)) in
        rw (n.are, k)

shape_exact : (c : Sparse) → exact (sparse_shape c) ≡ extra c
unfolding sparse_shape
shape_exact (sparse e []) = refl
shape_exact (sparse e (f ∷ es)) = go (eqb (entry_label e) 255)
  where
    go : (b : Bool) → exact (cond b (shape true (f ∷ es)) (shape false (e ∷ f ∷ es))) ≡ b
    go true = refl
    go false = refl

nodes_shapes : (f : ℕ → Bool) (v : ℕ) (cs : List Sparse) → all extra_ends cs ≡ true → exact_nodes f v true cs ≡ exact_from f v (map sparse_shape cs)
unfolding exact_nodes exact_from all
nodes_shapes f v [] h = refl
nodes_shapes f v (c ∷ cs) h =
    let p = and_both (extra_ends c) (all extra_ends cs) h in
    ap₂ ◌&&◌ (ap (λ (b : Bool). not b || f v) (sym (shape_exact c)))
    (nodes_shapes f (v + count ends_here (entries_of c)) cs p.1 ∙ ap (λ (k : ℕ). exact_from f (v + k) (map sparse_shape cs)) (sym (leaves_of c p.0)))

-- ---- entries by position

-- entry j is an extra FF: the first of its node, which has more, with the label FF
abbrev pub is_extra : Bytes → Bytes → ℕ → ℕ → Bool
is_extra sl sb n j = is_set sb j && (ltb (suc j) n && not (is_set sb (suc j))) && eqb (get_or sl j 0) 255

-- the leaves before entry j, of which d are those of the dense nodes: an entry that ends is a leaf
abbrev pub sparse_slot : Bytes → ℕ → ℕ → ℕ
sparse_slot sc d j = d + (j - rank sc j)

-- entry j is no extra FF, or the slot of its node's exact leaf passes the test
abbrev pub sparse_exact : (ℕ → Bool) → Bytes → Bytes → Bytes → ℕ → ℕ → ℕ → Bool
sparse_exact f sl sc sb n d j = not (is_extra sl sb n j) || f (sparse_slot sc d j)

-- one entry more
slot_next : (sc : Bytes) (d j : ℕ) → sparse_slot sc d j + bit (not (is_set sc j)) ≡ sparse_slot sc d (suc j)
slot_next sc d j =
    let g : j + 1 ≡ suc j = omega arith in
    let u : rank sc (suc j) ≡ rank sc j + bit_at sc j = sym (ap (rank sc) g) ∙ rank_next sc j in
    let l = rank_le sc j in
    omega (arith, bit_set sc j, other (is_set sc j))
  where
    other : (b : Bool) → bit (not b) + bit b ≡ 1
    other true = refl
    other false = refl

module _ (f : ℕ → Bool) (sl sc sb : Bytes) (n d : ℕ) (a : length sl ≡ n) (b : n ≤ 8 * length sc) (c : n ≤ 8 * length sb) where
  abbrev entries : List Entry
  entries = all_entries sl sc sb n a b c

  from_is : (k j : ℕ) → suc (j + k) ≡ n
      → exact_entries f (sparse_slot sc d j) (is_set sb j) (entry_at sl sc j) (drop (suc j) entries) (drop (suc j) (bits sb n)) ≡ all_from (sparse_exact f sl sc sb n d) j (suc k)
  unfolding exact_entries all_from
  from_is zero j h =
      let e : suc j ≡ n = omega arith in
      rw (le-ltb (suc j) n (omega arith), e, zip_end sl sc sb n a b c) (sym (last (is_set sb j) (eqb (get_or sl j 0) 255) (f (sparse_slot sc d j))))
    where
      last : (s t u : Bool) → (not (s && (false && not (is_set sb n)) && t) || u) && true ≡ true
      last true t u = refl
      last false t u = refl
  from_is (suc k) j h =
      rw (zip_from sl sc sb n a b c (suc j) (omega arith), bits_from sb n (suc j) c (omega arith), lt-ltb (suc j) n (omega arith))
      (go (is_set sb (suc j)) (from_is k (suc j) (omega arith)))
    where
      rest : Bool
      rest = all_from (sparse_exact f sl sc sb n d) (suc j) (suc k)

      ended : (s t u : Bool) → (not (s && (true && not true) && t) || u) ≡ true
      ended true t u = refl
      ended false t u = refl

      begun : (s t u : Bool) → (not (s && t) || u) ≡ (not (s && (true && not false) && t) || u)
      begun true t u = refl
      begun false t u = refl

      go : (t : Bool)
          → exact_entries f (sparse_slot sc d (suc j)) t (entry_at sl sc (suc j)) (drop (suc (suc j)) entries) (drop (suc (suc j)) (bits sb n)) ≡ rest
          → exact_entries f (sparse_slot sc d j) (is_set sb j) (entry_at sl sc j) (entry_at sl sc (suc j) ∷ drop (suc (suc j)) entries) (t ∷ drop (suc (suc j)) (bits sb n))
          ≡ (not (is_set sb j && (true && not t) && eqb (get_or sl j 0) 255) || f (sparse_slot sc d j)) && rest
      go true ih =
          ap (λ (v : ℕ). exact_entries f v true (entry_at sl sc (suc j)) (drop (suc (suc j)) entries) (drop (suc (suc j)) (bits sb n))) (slot_next sc d j) ∙ ih
          ∙ sym (ap (λ (t : Bool). t && rest) (ended (is_set sb j) (eqb (get_or sl j 0) 255) (f (sparse_slot sc d j))))
      go false ih =
          ap₂ ◌&&◌ (begun (is_set sb j) (eqb (get_or sl j 0) 255) (f (sparse_slot sc d j)))
          (ap (λ (v : ℕ). exact_entries f v false (entry_at sl sc (suc j)) (drop (suc (suc j)) entries) (drop (suc (suc j)) (bits sb n))) (slot_next sc d j) ∙ ih)

  -- the exact leaves among all sparse nodes, whose slots start at d
  pub sparse_exacts : first_set (bits sb n) ≡ true → all extra_ends (split entries (bits sb n)) ≡ true
      → exact_from f d (map sparse_shape (split entries (bits sb n))) ≡ all_from (sparse_exact f sl sc sb n d) 0 n
  unfolding split first_set exact_from all_from
  sparse_exacts h x = go n refl
    where
      go : (m : ℕ) → n ≡ m → exact_from f d (map sparse_shape (split entries (bits sb n))) ≡ all_from (sparse_exact f sl sc sb n d) 0 m
      go zero e = ap (λ (es : List Entry). exact_from f d (map sparse_shape (split es (bits sb n)))) (ap (λ (k : ℕ). drop k entries) (sym e) ∙ zip_end sl sc sb n a b c)
      go (suc k) e =
          let i : 0 < n = omega arith in
          let p : entries ≡ entry_at sl sc 0 ∷ drop 1 entries = zip_from sl sc sb n a b c 0 i in
          let q : bits sb n ≡ is_set sb 0 ∷ drop 1 (bits sb n) = bits_from sb n 0 c i in
          let s : is_set sb 0 ≡ true = sym (ap first_set q) ∙ h in
          let w : split entries (bits sb n) ≡ split_behind (entry_at sl sc 0) (drop 1 entries) (drop 1 (bits sb n)) = ap (λ (es : List Entry). split es (bits sb n)) p in
          let v : sparse_slot sc d 0 ≡ d = omega arith in
          ap (λ (cs : List Sparse). exact_from f d (map sparse_shape cs)) w
          ∙ sym (nodes_shapes f d (split_behind (entry_at sl sc 0) (drop 1 entries) (drop 1 (bits sb n))) (ap (all extra_ends) (sym w) ∙ x))
          ∙ sym (entries_nodes f d true (entry_at sl sc 0) (drop 1 entries) (drop 1 (bits sb n)))
          ∙ ap₂ (λ (v : ℕ) (t : Bool). exact_entries f v t (entry_at sl sc 0) (drop 1 entries) (drop 1 (bits sb n))) (sym v) (sym s)
          ∙ from_is k 0 (omega arith)
