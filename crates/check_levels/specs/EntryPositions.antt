-- The sparse entries by position, as the check goes over them.
use Prim.Native.Nat.{ℕ, zero, suc, ◌+◌, ◌-◌, ◌*◌, ◌<◌, ◌≤◌}
use Rattle.std.specs.Prelude.{◌≡◌, Bool, cond, ◌&&◌, ◌||◌, not, get_or, eqb, ltb}
use Rattle.std.proofs.Math.Path.{refl, sym, ap, ap₂}
use Rattle.std.proofs.Common.{◌∙◌, drop-cons}
use Rattle.std.proofs.Math.Bool.{true, false}
use mathlib.Core.List.{List, [], ◌∷◌}
use native.Mathlib.Omega.{arith}
use Rattle.std.proofs.Math.ListN.{length, drop}
use Rattle.std.proofs.Math.Seq.{drop-length}
use Rattle.bits.specs.Bits.{bit_at}
use Rattle.spec.specs.Bytes.{Bytes, Bits}
use Rattle.spec.specs.Nodes.{Entry, entry, zip_entries}
use Rattle.check_levels.specs.SparseNodes.{last_valid, next_correct, entries_valid}
use Rattle.check_levels.specs.BitTests.{sparse_valid, length_zip}
use Rattle.check_levels.specs.Positions.{bits, is_set, length_bits, bits_from}

-- entry j
abbrev pub entry_at : Bytes → Bytes → ℕ → Entry
entry_at sl sc j = entry (get_or sl j 0) (is_set sc j)

-- position j is one of the labels, of the bits that tell which entries continue, and of the S-LOUDS bits
pub record EntryRoom (sl sc sb : Bytes) (j : ℕ) : Type 0 where
  pub labels : j < length sl
  pub children : j < 8 * length sc
  pub starts : j < 8 * length sb

-- the bodies of n sparse entries
pub record EntriesSized (sl sc sb : Bytes) (n : ℕ) : Type 0 where
  -- one label an entry
  pub labels : length sl ≡ n
  -- one bit an entry that tells whether it continues
  pub children : n ≤ 8 * length sc
  -- one bit an entry that tells whether it starts a node
  pub starts : n ≤ 8 * length sb

-- what is asked of entry j, where the next one begins a node or not
abbrev pub entry_valid : Bytes → Bytes → Bool → Bool → ℕ → Bool → Bool
entry_valid sl sc root start j begins = cond begins (last_valid root start (entry_at sl sc j)) (next_correct root start (entry_at sl sc j) (entry_at sl sc (suc j)))

-- the entries from j on, n of them behind it
unfoldable pub entries_from : Bytes → Bytes → Bytes → Bool → Bool → ℕ → ℕ → Bool
entries_from sl sc sb root start j zero = last_valid root start (entry_at sl sc j)
entries_from sl sc sb root start j (suc n) = entry_valid sl sc root start j (is_set sb (suc j)) && entries_from sl sc sb false (is_set sb (suc j)) (suc j) n

-- none behind it
pub entries_last : (sl sc sb : Bytes) (root start : Bool) (j : ℕ) → entries_from sl sc sb root start j 0 ≡ last_valid root start (entry_at sl sc j)
unfolding entries_from
entries_last sl sc sb root start j = refl

-- one more behind it
pub entries_more : (sl sc sb : Bytes) (root start : Bool) (j n : ℕ)
    → entries_from sl sc sb root start j (suc n) ≡ entry_valid sl sc root start j (is_set sb (suc j)) && entries_from sl sc sb false (is_set sb (suc j)) (suc j) n
unfolding entries_from
entries_more sl sc sb root start j n = refl

drop_zip : (j : ℕ) (xs : Bytes) (cs : Bits) → drop j (zip_entries xs cs) ≡ zip_entries (drop j xs) (drop j cs)
unfolding zip_entries
drop_zip zero xs cs = refl
drop_zip (suc j) [] cs = refl
drop_zip (suc j) (x ∷ xs) [] = go (drop j xs)
  where
    go : (ys : Bytes) → [] ≡ zip_entries ys []
    go [] = refl
    go (y ∷ ys) = refl
drop_zip (suc j) (x ∷ xs) (c ∷ cs) = drop_zip j xs cs

module _ (sl sc sb : Bytes) (n : ℕ) (a : length sl ≡ n) (b : n ≤ 8 * length sc) (c : n ≤ 8 * length sb) where
  abbrev pub all_entries : List Entry
  all_entries = zip_entries sl (bits sc n)

  pub zip_from : (j : ℕ) → j < n → drop j all_entries ≡ entry_at sl sc j ∷ drop (suc j) all_entries
  unfolding zip_entries
  zip_from j h =
      drop_zip j sl (bits sc n) ∙ ap₂ zip_entries (drop-cons sl j 0 (omega arith)) (bits_from sc n j b h)
      ∙ ap (λ (es : List Entry). entry_at sl sc j ∷ es) (sym (drop_zip (suc j) sl (bits sc n)))

  pub zip_end : drop n all_entries ≡ []
  zip_end = ap (λ (k : ℕ). drop k all_entries) (sym (length_zip sl (bits sc n) (a ∙ sym (length_bits sc n b)) ∙ length_bits sc n b)) ∙ drop-length all_entries

  from_is : (k j : ℕ) (root start : Bool) → suc (j + k) ≡ n
      → entries_valid root start (entry_at sl sc j) (drop (suc j) all_entries) (drop (suc j) (bits sb n)) ≡ entries_from sl sc sb root start j k
  unfolding entries_valid entries_from
  from_is zero j root start h = let e : suc j ≡ n = omega arith in rw (e, zip_end)
  from_is (suc k) j root start h =
      rw (zip_from (suc j) (omega arith), bits_from sb n (suc j) c (omega arith))
      (go (is_set sb (suc j)) (from_is k (suc j) false (is_set sb (suc j)) (omega arith)))
    where
      go : (t : Bool) → entries_valid false t (entry_at sl sc (suc j)) (drop (suc (suc j)) all_entries) (drop (suc (suc j)) (bits sb n)) ≡ entries_from sl sc sb false t (suc j) k
          → entries_valid root start (entry_at sl sc j) (entry_at sl sc (suc j) ∷ drop (suc (suc j)) all_entries) (t ∷ drop (suc (suc j)) (bits sb n))
          ≡ entry_valid sl sc root start j t && entries_from sl sc sb false t (suc j) k
      go true ih = ap (λ (u : Bool). last_valid root start (entry_at sl sc j) && u) ih
      go false ih = ap (λ (u : Bool). next_correct root start (entry_at sl sc j) (entry_at sl sc (suc j)) && u) ih

  -- no entries
  pub sparse_none : (root : Bool) → n ≡ 0 → sparse_valid root all_entries (bits sb n) ≡ true
  unfolding sparse_valid
  sparse_none root e = go all_entries (length_zip sl (bits sc n) (a ∙ sym (length_bits sc n b)) ∙ length_bits sc n b ∙ e)
    where
      go : (es : List Entry) → length es ≡ 0 → sparse_valid root es (bits sb n) ≡ true
      go [] h = refl
      go (e ∷ es) h = absurd (omega arith)

  -- from the first one on
  pub sparse_some : (root : Bool) → 0 < n → sparse_valid root all_entries (bits sb n) ≡ entries_from sl sc sb root true 0 (n - 1 - 0)
  unfolding sparse_valid
  sparse_some root h = ap (λ (es : List Entry). sparse_valid root es (bits sb n)) (zip_from 0 h) ∙ from_is (n - 1 - 0) 0 root true (omega arith)

-- what is asked of an entry, case by case
module _ (sl sc : Bytes) (j c : ℕ) (q : c ≡ bit_at sc j) (root start begins : Bool) where
  pub entry_last : begins ≡ true → (not start || eqb c 1 || root) ≡ entry_valid sl sc root start j begins
  entry_last e = rw (e, q)

  pub entry_extra : begins ≡ false → start && eqb (get_or sl j 0) 255 ≡ true → (not (eqb c 1) && not root) ≡ entry_valid sl sc root start j begins
  entry_extra e f = rw (e, f, q)

  pub entry_label : begins ≡ false → start && eqb (get_or sl j 0) 255 ≡ false → ltb (get_or sl j 0) (get_or sl (j + 1) 0) ≡ entry_valid sl sc root start j begins
  entry_label e f = let g : j + 1 ≡ suc j = omega arith in rw (e, f, g)
