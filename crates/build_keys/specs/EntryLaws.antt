-- A key's emissions from a level on, one at a time: what is left to be written or counted, and that there is room for it. Used by the functions that go over a key's levels.
use Prim.Native.Nat.{ℕ, suc, ◌+◌, ◌-◌, ◌≤◌, ◌<◌, max, min}
use Rattle.std.specs.Prelude.{◌≡◌, refl, Bool, true, false, length, get_or, leb, ltb}
use Rattle.std.proofs.Math.Path.{sym, ap, ap₂, subst}
use Rattle.std.proofs.Common.{◌∙◌, add-one}
use Rattle.std.proofs.Math.Bool.{cond}
use mathlib.Core.List.{List, [], ◌∷◌, ◌++◌}
use native.Mathlib.Omega.{arith}
use Rattle.std.proofs.Math.ListN.{set}
use Rattle.spec.specs.Bytes.{Bytes}
use Rattle.build_laws.specs.LevelEntries.{pred}
use Rattle.build_laws.specs.NeighbourLeaves.{cut_length}
use Rattle.build_laws.specs.Emissions.{Emission, emission, consecutive, key_emissions}
use Rattle.build_laws.specs.Cursors.{counts}
use Rattle.build_laws.specs.BytePass.{ByteState, byte_state}
use Rattle.build_laws.specs.declared.Entry.{Entry}
use Rattle.build_laws.specs.declared.Kind.{Kind}
use Rattle.build_laws.specs.declared.Kind.TheVariants.{DL, DC, DP, SL, SC, SB}
use Rattle.build_laws.specs.declared.Key.{Key}
use Rattle.build_laws.specs.declared.LevelRange.{LevelRange}
use Rattle.build_laws.specs.KeyEntries.{continues_at, entry_at, exact_entry}
use Rattle.build_laws.specs.KeyLaws.{key_byte, key_length}
use Rattle.build_laws.specs.Passes.{key_bytes, ListedKey, listed_entries, key_exact, kind_step, EntriesRoom, write_entry, write_entries}
use Rattle.build_keys.specs.CountPass.{CounterRoom, leaf_level_of}
use Rattle.build_keys.specs.KeySparseBits.{continues_above}

-- what a key emits from level d to below `end`, and for its exact leaf
unfoldable key_rest : {A : Type 0} → (ℕ → A) → A → ℕ → ℕ → ℕ → ℕ → ℕ → ℕ → List (Emission A)
unfolding consecutive
key_rest v t q n lo hi d end = consecutive v d (end - d) ++ cond (key_exact q n lo hi) (emission n t ∷ []) []

module _ {A : Type 0} (v : ℕ → A) (t : A) (q n lo hi : ℕ) where
  -- from the first level on it is all
  rest_start : (p d end : ℕ) → d ≡ max p lo → end ≡ min (cut_length p q n) hi → key_rest v t q n lo hi d end ≡ key_emissions lo hi v t p q n
  unfolding key_rest key_emissions
  rest_start p d end e f = rw (e, f)

  -- one emission, and what is left from the next level on
  rest_more : (d end : ℕ) → d < end → key_rest v t q n lo hi d end ≡ emission d (v d) ∷ key_rest v t q n lo hi (d + 1) end
  unfolding key_rest consecutive
  rest_more d end h =
      let w : end - d ≡ suc (end - (d + 1)) = omega arith in
      ap (λ (m : ℕ). consecutive v d m ++ cond (key_exact q n lo hi) (emission n t ∷ []) []) w
      ∙ ap (λ (k : ℕ). emission d (v d) ∷ (consecutive v k (end - (d + 1)) ++ cond (key_exact q n lo hi) (emission n t ∷ []) [])) (sym (add-one d))

  -- behind the last level the exact leaf is left
  rest_exact : (d end : ℕ) → end ≤ d → key_exact q n lo hi ≡ true → key_rest v t q n lo hi d end ≡ emission n t ∷ []
  unfolding key_rest consecutive
  rest_exact d end h e = let w : end - d ≡ 0 = omega arith in rw (w, e)

  -- or nothing
  rest_none : (d end : ℕ) → end ≤ d → key_exact q n lo hi ≡ false → key_rest v t q n lo hi d end ≡ []
  unfolding key_rest consecutive
  rest_none d end h e = let w : end - d ≡ 0 = omega arith in rw (w, e)

-- ---- a key's entries

-- the branch of a key of the list on a level
abbrev pub key_branch : Bytes → Key → ℕ → Entry
key_branch s k d = entry_at k.first k.next (key_bytes s k) d

-- what is left of the entries of a key of the list, from level d to below `end`, and for its exact leaf
unfoldable pub entry_rest : Bytes → Key → LevelRange → ℕ → ℕ → List (Emission Entry)
unfolding key_rest
entry_rest s k l d end = key_rest (entry_at k.first k.next (key_bytes s k)) exact_entry k.next (length (key_bytes s k)) l.lo l.hi d end

-- the levels of a key's branches among some levels: from the one where it leaves the key before it to the last one of its cut key
pub record BranchLevels (k : Key) (l b : LevelRange) : Type 0 where
  pub lo_is : b.lo ≡ max (pred k.first) l.lo
  pub hi_is : b.hi ≡ min (cut_length (pred k.first) k.next k.len) l.hi
  pub within : b.hi ≤ k.len

module _ (s : Bytes) (k : Key) (l : LevelRange) (h : k.at + k.len ≤ length s) where
  -- from the first of these levels on it is all
  entries_all : (b : LevelRange) → BranchLevels k l b → entry_rest s k l b.lo b.hi ≡ listed_entries l k (key_bytes s k)
  unfolding entry_rest
  entries_all b e =
      rest_start (entry_at k.first k.next (key_bytes s k)) exact_entry k.next (length (key_bytes s k)) l.lo l.hi (pred k.first) b.lo b.hi e.lo_is
      (e.hi_is ∙ ap (λ (n : ℕ). min (cut_length (pred k.first) k.next n) l.hi) (sym (key_length s k.at k.len h)))

  -- one entry, and what is left from the next level on
  entries_more : (d end : ℕ) → d < end → entry_rest s k l d end ≡ emission d (key_branch s k d) ∷ entry_rest s k l (d + 1) end
  unfolding entry_rest
  entries_more d end i = rest_more (entry_at k.first k.next (key_bytes s k)) exact_entry k.next (length (key_bytes s k)) l.lo l.hi d end i

  -- behind the last level the exact leaf is left
  entries_exact : (d end : ℕ) → end ≤ d → key_exact k.next k.len l.lo l.hi ≡ true → entry_rest s k l d end ≡ emission k.len exact_entry ∷ []
  unfolding entry_rest
  entries_exact d end i e =
      ap (λ (m : ℕ). key_rest (entry_at k.first k.next (key_bytes s k)) exact_entry k.next m l.lo l.hi d end) (key_length s k.at k.len h)
      ∙ rest_exact (entry_at k.first k.next (key_bytes s k)) exact_entry k.next k.len l.lo l.hi d end i e

  -- or nothing
  entries_none : (d end : ℕ) → end ≤ d → key_exact k.next k.len l.lo l.hi ≡ false → entry_rest s k l d end ≡ []
  unfolding entry_rest
  entries_none d end i e =
      ap (λ (m : ℕ). key_rest (entry_at k.first k.next (key_bytes s k)) exact_entry k.next m l.lo l.hi d end) (key_length s k.at k.len h)
      ∙ rest_none (entry_at k.first k.next (key_bytes s k)) exact_entry k.next k.len l.lo l.hi d end i e

-- a branch by what the code reads: it continues above the level of the leaf
pub branch_is : {s : Bytes} {k : Key} {l b : LevelRange} (d leaf x : ℕ) → ListedKey s k → BranchLevels k l b → d < b.hi → leaf ≡ leaf_level_of k → x ≡ get_or s (k.at + d) 0
    → record { start = leb k.first d; exact = false; child = ltb d leaf; label = x } ≡ key_branch s k d
branch_is {s} {k} {l} {b} d leaf x i v h e f =
    ap₂ (λ (c : Bool) (y : ℕ). record { start = leb k.first d; exact = false; child = c; label = y })
    (ap (ltb d) e ∙ sym (continues_above k.first k.next k.len d (omega (arith, v.hi_is))) ∙ ap (λ (n : ℕ). continues_at k.first k.next n d) (sym (key_length s k.at k.len i.within)))
    (f ∙ key_byte s k.at k.len d (omega (arith, v.within)))

-- ---- entries written

-- no entry
pub write_none : (kind : Kind) (s : ByteState) → write_entries kind [] s ≡ s
unfolding write_entries
write_none kind s = refl

-- the cursors behind an entry
pub entry_cursors : (kind : Kind) (d : ℕ) (e : Entry) (s : ByteState) → (write_entry kind (emission d e) s).cursors ≡ set s.cursors d (get_or s.cursors d 0 + kind_step kind e)
entry_cursors DL d e s = refl
entry_cursors DC d e s = refl
entry_cursors DP d e s = refl
entry_cursors SL d e s = refl
entry_cursors SC d e s = refl
entry_cursors SB d e s = refl

-- What holds at a level d of the key's branches, b, once those before it are written: what is left gives what all entries give, and there is room for it.
pub record Left (kind : Kind) (s : Bytes) (k : Key) (l b : LevelRange) (out₀ : Bytes) (cur₀ : List ℕ) (out : Bytes) (cur : List ℕ) (d : ℕ) : Type 0 where
  pub listed : ListedKey s k
  pub levels : BranchLevels k l b
  pub size : length out ≡ length out₀
  pub final_is : write_entries kind (entry_rest s k l d b.hi) (byte_state out cur) ≡ write_entries kind (listed_entries l k (key_bytes s k)) (byte_state out₀ cur₀)
  pub room : EntriesRoom kind (entry_rest s k l d b.hi) (length out) cur

-- at the first level nothing is written
pub left_all : {kind : Kind} {s : Bytes} {k : Key} {l b : LevelRange} {out : Bytes} {cur : List ℕ} → ListedKey s k → BranchLevels k l b
    → EntriesRoom kind (listed_entries l k (key_bytes s k)) (length out) cur → Left kind s k l b out cur out cur b.lo
left_all {kind} {s} {k} {l} {b} {out} {cur} h v r =
    let e = entries_all s k l h.within b v in
    record {
      listed = h;
      levels = v;
      size = refl;
      final_is = ap (λ (es : List (Emission Entry)). write_entries kind es (byte_state out cur)) e;
      room = subst (λ (es : List (Emission Entry)). EntriesRoom kind es (length out) cur) (sym e) r;
    }

module _ {kind : Kind} {s : Bytes} {k : Key} {l b : LevelRange} {out₀ : Bytes} {cur₀ : List ℕ} {out : Bytes} {cur : List ℕ} {d : ℕ} (left : Left kind s k l b out₀ cur₀ out cur d) where
  -- what is left is a list of entries
  left_run : (es : List (Emission Entry)) → entry_rest s k l d b.hi ≡ es → write_entries kind es (byte_state out cur) ≡ write_entries kind (listed_entries l k (key_bytes s k)) (byte_state out₀ cur₀)
  left_run es e = ap (λ (fs : List (Emission Entry)). write_entries kind fs (byte_state out cur)) (sym e) ∙ left.final_is

  left_fits : (es : List (Emission Entry)) → entry_rest s k l d b.hi ≡ es → EntriesRoom kind es (length out) cur
  left_fits es e = subst (λ (fs : List (Emission Entry)). EntriesRoom kind fs (length out) cur) e left.room

  -- room for the branch on this level
  pub branch_room : d < b.hi → EntriesRoom kind (emission d (key_branch s k d) ∷ []) (length out) cur
  branch_room h = let r = left_fits _ (entries_more s k l left.listed.within d b.hi h) in (r.0, r.1, r.2, tt)

  -- the branch is written
  pub branch_written : {out' : Bytes} {cur' : List ℕ} → d < b.hi → length out' ≡ length out → byte_state out' cur' ≡ write_entry kind (emission d (key_branch s k d)) (byte_state out cur)
      → Left kind s k l b out₀ cur₀ out' cur' (d + 1)
  unfolding write_entries
  branch_written {out'} {cur'} h n w =
      let e = entries_more s k l left.listed.within d b.hi h in
      let rest = entry_rest s k l (d + 1) b.hi in
      let c : set cur d (get_or cur d 0 + kind_step kind (key_branch s k d)) ≡ cur' = sym (ap (λ (z : ByteState). z.cursors) w ∙ entry_cursors kind d (key_branch s k d) (byte_state out cur)) in
      record {
        listed = left.listed;
        levels = left.levels;
        size = n ∙ left.size;
        final_is = ap (write_entries kind rest) w ∙ left_run _ e;
        room = subst (λ (m : ℕ). EntriesRoom kind rest m cur') (sym n) (subst (λ (z : List ℕ). EntriesRoom kind rest (length out) z) c (left_fits _ e).3);
      }

  -- room for the exact leaf behind the last level
  pub exact_room : b.hi ≤ d → key_exact k.next k.len l.lo l.hi ≡ true → EntriesRoom kind (emission k.len exact_entry ∷ []) (length out) cur
  exact_room h x = left_fits _ (entries_exact s k l left.listed.within d b.hi h x)

  -- with the exact leaf all is written
  pub exact_written : {z : ByteState} → b.hi ≤ d → key_exact k.next k.len l.lo l.hi ≡ true → z ≡ write_entry kind (emission k.len exact_entry) (byte_state out cur)
      → z ≡ write_entries kind (listed_entries l k (key_bytes s k)) (byte_state out₀ cur₀)
  unfolding write_entries
  exact_written h x w = w ∙ left_run _ (entries_exact s k l left.listed.within d b.hi h x)

  -- without one all is written behind the last level
  pub all_written : b.hi ≤ d → key_exact k.next k.len l.lo l.hi ≡ false → byte_state out cur ≡ write_entries kind (listed_entries l k (key_bytes s k)) (byte_state out₀ cur₀)
  unfolding write_entries
  all_written h x = left_run _ (entries_none s k l left.listed.within d b.hi h x)

-- ---- counted

-- what holds between the levels of a counter
pub record ToCount {A : Type 0} (inc : A → ℕ) (rest : List (Emission A)) (c final : List ℕ) : Type 0 where
  pub final_is : counts inc rest c ≡ final
  pub room : CounterRoom inc rest c

-- one emission is counted
pub count_next : {A : Type 0} (inc : A → ℕ) (d : ℕ) (x : A) (es : List (Emission A)) (c c' final : List ℕ) → c' ≡ set c d (get_or c d 0 + inc x) → ToCount inc (emission d x ∷ es) c final → ToCount inc es c' final
unfolding counts
count_next inc d x es c c' final e l = record { final_is = ap (counts inc es) e ∙ l.final_is; room = subst (λ (y : List ℕ). CounterRoom inc es y) (sym e) l.room.3 }

-- all is counted
pub count_done : {A : Type 0} (inc : A → ℕ) (c final : List ℕ) → ToCount inc [] c final → c ≡ final
unfolding counts
count_done inc c final l = l.final_is
