-- The leaves before a sparse node: the entries before its first that do not continue.
use Rattle.std.specs.Prelude.{ℕ, zero, suc, ◌+◌, ◌-◌, ◌*◌, ◌<◌, ◌≤◌, ◌≡◌, refl, Bool, true, false, cond, length, take, drop}
use Rattle.std.proofs.Common.{sym, ap₂, ◌∙◌, arith, add-zero, length-drop, length-take-le}
use Rattle.std.proofs.Math.Path.{ap}
use mathlib.Core.List.{List, [], ◌∷◌, map}
use Rattle.std.proofs.Math.Seq.{take-nil}
use Rattle.spec.specs.Bytes.{Bytes, Bits, all, count, ones}
use Rattle.spec.specs.Nodes.{Entry, continues, Sparse, prepend, split, split_behind, sparse_shape, extra_ends, total}
use Rattle.spec.specs.Trie.{first_set}
use Rattle.bits.specs.Bits.{rank, select}
use Rattle.bits_select.specs.SelectLaws.{select_le}
use Rattle.check_levels.specs.Shapes.{ends_here, leaves_at}
use Rattle.check_levels.specs.SparseNodes.{First, first_node, entries_of, leaves_of, total_shapes, position_of}
use Rattle.check_levels.specs.BitTests.{length_zip, continues_zip, count_both}
use Rattle.check_levels.specs.Positions.{bits, is_set, length_bits, bits_from, ones_bits, position_select}
use Rattle.check_levels.specs.EntryPositions.{entry_at, all_entries, zip_from, zip_end}

-- a count of entries over nodes is one over their entries
counted : (q : Entry → Bool) (m : ℕ) (e : Entry) (es : List Entry) (bs : Bits) → length bs ≡ length es
    → total (λ c. count q (entries_of c)) (take m (split_behind e es bs)) ≡ count q (take (position_of m (true ∷ bs)) (e ∷ es))
unfolding split_behind prepend total position_of count
counted q zero e es bs h = refl
counted q (suc m) e [] [] h = rw (take-nil {A = Sparse} m) (add-zero (count q (e ∷ [])))
counted q (suc m) e [] (b ∷ bs) h = absurd (omega arith)
counted q (suc m) e (f ∷ es) [] h = absurd (omega arith)
counted q (suc m) e (f ∷ es) (true ∷ bs) h = ap (λ (k : ℕ). count q (e ∷ []) + k) (counted q m f es bs (omega arith)) ∙ more (q e) (count q (take (position_of m (true ∷ bs)) (f ∷ es)))
  where
    more : (t : Bool) (k : ℕ) → cond t 1 0 + k ≡ cond t (suc k) k
    more true k = omega arith
    more false k = omega arith
counted q (suc m) e (f ∷ es) (false ∷ bs) h = go (split_behind f es bs) (counted q (suc m) f es bs (omega arith)) (first_node f es bs)
  where
    more : (t : Bool) (k r : ℕ) → cond t (suc k) k + r ≡ cond t (suc (k + r)) (k + r)
    more true k r = omega arith
    more false k r = omega arith

    go : (cs : List Sparse) → total (λ c. count q (entries_of c)) (take (suc m) cs) ≡ count q (take (suc (position_of m bs)) (f ∷ es)) → First f cs
        → total (λ c. count q (entries_of c)) (take (suc m) (prepend e cs)) ≡ count q (e ∷ take (suc (position_of m bs)) (f ∷ es))
    go cs h n =
        rw n.are
        (more (q e) (count q (f ∷ n.behind)) (total (λ c. count q (entries_of c)) (take m n.others))
        ∙ ap (λ (k : ℕ). cond (q e) (suc k) k) (sym (ap (λ (z : List Sparse). total (λ c. count q (entries_of c)) (take (suc m) z)) n.are) ∙ h))

take_map : (k : ℕ) (es : List Entry) → map continues (take k es) ≡ take k (map continues es)
take_map zero es = refl
take_map (suc k) [] = refl
take_map (suc k) (e ∷ es) = ap (λ (z : Bits). continues e ∷ z) (take_map k es)

module _ (sl sc sb : Bytes) (n : ℕ) (a : length sl ≡ n) (b : n ≤ 8 * length sc) (c : n ≤ 8 * length sb) where
  abbrev entries : List Entry
  entries = all_entries sl sc sb n a b c

  even : length sl ≡ length (bits sc n)
  even = a ∙ sym (length_bits sc n b)

  -- of the first k entries
  first_entries : (k : ℕ) → k ≤ n → count ends_here (take k entries) ≡ k - rank sc k
  first_entries k h =
      omega (
        arith,
        count_both (take k entries),
        length-take-le k entries (omega (arith, length_zip sl (bits sc n) even, length_bits sc n b)),
        ap ones (take_map k entries ∙ ap (take k) (continues_zip sl (bits sc n) even)),
        ones_bits sc n k h,
      )

  -- the leaves of the first m sparse nodes
  pub sparse_leaves : first_set (bits sb n) ≡ true → all extra_ends (split entries (bits sb n)) ≡ true → (m : ℕ)
      → total leaves_at (take m (map sparse_shape (split entries (bits sb n)))) ≡ select sb n m - rank sc (select sb n m)
  unfolding split first_set total count
  sparse_leaves h x m =
      by_nodes ∙ ap (λ (k : ℕ). count ends_here (take k entries)) (position_select sb n m c) ∙ first_entries (select sb n m) (select_le sb n m)
    where
      none : (k : ℕ) → total (λ c. count ends_here (entries_of c)) (take m (split [] (bits sb n))) ≡ count ends_here (take k [])
      none k = rw (take-nil {A = Sparse} m, take-nil {A = Entry} k)

      long : length (drop 1 (bits sb n)) ≡ length (drop 1 entries)
      long = omega (arith, length-drop 1 (bits sb n), length-drop 1 entries, length_bits sb n c, length_zip sl (bits sc n) even, length_bits sc n b)

      go : (k : ℕ) → n ≡ k → total (λ c. count ends_here (entries_of c)) (take m (split entries (bits sb n))) ≡ count ends_here (take (position_of m (bits sb n)) entries)
      go zero e =
          let z : entries ≡ [] = ap (λ (k : ℕ). drop k entries) (sym e) ∙ zip_end sl sc sb n a b c in
          ap (λ (es : List Entry). total (λ c. count ends_here (entries_of c)) (take m (split es (bits sb n)))) z ∙ none (position_of m (bits sb n))
          ∙ ap (λ (es : List Entry). count ends_here (take (position_of m (bits sb n)) es)) (sym z)
      go (suc k) e =
          let i : 0 < n = omega arith in
          let p : entries ≡ entry_at sl sc 0 ∷ drop 1 entries = zip_from sl sc sb n a b c 0 i in
          let q : bits sb n ≡ is_set sb 0 ∷ drop 1 (bits sb n) = bits_from sb n 0 c i in
          let s : is_set sb 0 ≡ true = sym (ap first_set q) ∙ h in
          let r : bits sb n ≡ true ∷ drop 1 (bits sb n) = q ∙ ap (λ (t : Bool). t ∷ drop 1 (bits sb n)) s in
          ap (λ (es : List Entry). total (λ c. count ends_here (entries_of c)) (take m (split es (bits sb n)))) p
          ∙ counted ends_here m (entry_at sl sc 0) (drop 1 entries) (drop 1 (bits sb n)) long
          ∙ ap₂ (λ (bs : Bits) (es : List Entry). count ends_here (take (position_of m bs) es)) (sym r) (sym p)

      by_nodes : total leaves_at (take m (map sparse_shape (split entries (bits sb n)))) ≡ count ends_here (take (position_of m (bits sb n)) entries)
      by_nodes = total_shapes leaves_at (λ c. count ends_here (entries_of c)) leaves_of m (split entries (bits sb n)) x ∙ go n refl
