-- Keys of at least so many bytes, none of which is an exact leaf on a level below that: no bit of D-IsPrefixKey is set. Used by the pass that fills it, which need not be made then.
use Rattle.std.specs.Prelude.{ℕ, zero, suc, ◌+◌, ◌-◌, ◌≤◌, ◌<◌, max, min, ◌≡◌, refl, Bool, cond, ◌&&◌, leb, ltb, eqb}
use Rattle.std.proofs.Math.Path.{ap}
use Rattle.std.proofs.Common.{◌∙◌, arith, leb-true, le-leb, le-ltb}
use Rattle.std.proofs.Math.Bool.{true, false}
use mathlib.Core.List.{List, [], ◌∷◌, ◌++◌}
use Rattle.std.proofs.Math.ListN.{length}
use Rattle.std.proofs.lemmas.Bool.{lt-leb}
use Rattle.spec.specs.Bytes.{Bytes, all}
use Rattle.spec.specs.Keys.{keys_of}
use Rattle.theory.proofs.Lists.{and_both}
use Rattle.theory.proofs.Neighbours.{next_shared}
use Rattle.build_laws.specs.LevelEntries.{pred}
use Rattle.build_laws.specs.NeighbourLeaves.{cut_length}
use Rattle.build_laws.specs.Emissions.{Emission, emission, consecutive, key_emissions, emissions}
use Rattle.build_laws.specs.KeyEntries.{entry_at, exact_entry}
use Rattle.build_laws.specs.BytePass.{ByteState}
use Rattle.build_laws.specs.KeyRecords.{key_size, record_end, Records, AcceptedList}
use Rattle.build_laws.specs.KeyLaws.{key_length}
use Rattle.build_laws.specs.Passes.{with_bits, write_entry, write_entries, key_entries, all_entries, entries_pass, pass_keys}
use Rattle.build_laws.specs.declared.Entry.{Entry}
use Rattle.build_laws.specs.declared.LevelRange.{LevelRange}
use Rattle.build_laws.specs.declared.Kind.TheVariants.{DP}

-- every key has at least n bytes
abbrev pub all_long : ℕ → List Bytes → Bool
all_long n ks = all (λ k. leb n (length k)) ks

-- ---- no exact leaf

-- no entry is an exact leaf
abbrev NoExact : List (Emission Entry) → Type 0
NoExact [] = Unit
NoExact (emission d e ∷ es) = (e.exact ≡ false) × NoExact es

none_append : (a b : List (Emission Entry)) → NoExact a → NoExact b → NoExact (a ++ b)
none_append [] b h g = g
none_append (emission d e ∷ a) b h g = (h.0, none_append a b h.1 g)

-- a key's branches
none_branches : (p q : ℕ) (k : Bytes) (d m : ℕ) → NoExact (consecutive (entry_at p q k) d m)
unfolding consecutive
none_branches p q k d zero = tt
none_branches p q k d (suc m) = (refl, none_branches p q k (suc d) m)

-- the entries of a long key
none_key : (lo hi p q : ℕ) (k : Bytes) → hi ≤ length k → NoExact (key_entries lo hi p q k)
unfolding key_emissions
none_key lo hi p q k h =
    let from : ℕ = max (pred p) lo in
    let m : ℕ = min (cut_length (pred p) q (length k)) hi - from in
    let leaf : NoExact (cond (eqb q (length k) && (leb lo (length k) && ltb (length k) hi)) (emission (length k) exact_entry ∷ []) []) = rw (le-ltb (length k) hi h) (go (eqb q (length k)) (leb lo (length k))) in
    none_append (consecutive (entry_at p q k) from m) _ (none_branches p q k from m) leaf
  where
    go : (a b : Bool) → NoExact (cond (a && (b && false)) (emission (length k) exact_entry ∷ []) [])
    go true true = tt
    go true false = tt
    go false b = tt

-- the entries of long keys
none_keys : (lo hi p : ℕ) (ks : List Bytes) → all_long hi ks ≡ true → NoExact (all_entries lo hi p ks)
unfolding emissions all
none_keys lo hi p [] h = tt
none_keys lo hi p (k ∷ ks) h =
    let b = and_both (leb hi (length k)) (all_long hi ks) h in
    none_append (key_entries lo hi p (next_shared k ks) k) _ (none_key lo hi p (next_shared k ks) k (leb-true hi (length k) b.0)) (none_keys lo hi (suc (next_shared k ks)) ks b.1)

-- entries none of which is an exact leaf set no bit
none_set : (es : List (Emission Entry)) (s : ByteState) → NoExact es → (write_entries DP es s).bytes ≡ s.bytes
unfolding write_entries with_bits
none_set [] s h = refl
none_set (emission d e ∷ es) s h = none_set es (write_entry DP (emission d e) s) h.1 ∙ rw h.0

-- The pass of D-IsPrefixKey over keys that reach over its levels leaves the bytes as they are.
pub long_unset : (l : LevelRange) (ks : List Bytes) (s : ByteState) → all_long l.hi ks ≡ true → (pass_keys (entries_pass DP l) 0 ks s).bytes ≡ s.bytes
long_unset l ks s h = none_set (all_entries l.lo l.hi 0 ks) s (none_keys l.lo l.hi 0 ks h)

-- ---- the lengths of a list's keys, record by record

-- what holds between two records: all keys are long exactly if those left are
pub record LongLeft (s : Bytes) (n at : ℕ) : Type 0 where
  pub ks : List Bytes
  pub records : Records s at ks  -- these keys are left
  pub decides : all_long n (keys_of s) ≡ all_long n ks

-- the start of the list
pub long_start : (s : Bytes) (n : ℕ) → AcceptedList s → LongLeft s n 0
long_start s n a = record { ks = keys_of s; records = a.records; decides = refl }

module _ (s : Bytes) (n at : ℕ) (f : LongLeft s n at) where
  -- a record stands at `at`
  pub long_here : at < length s → record_end s at ≤ length s
  long_here h = go f.ks f.records
    where
      go : (ks : List Bytes) → Records s at ks → record_end s at ≤ length s
      go [] r = absurd (omega arith)
      go (k ∷ ks) r = r.0

  -- its key is short
  pub long_short : at < length s → key_size s at < n → all_long n (keys_of s) ≡ false
  unfolding all
  long_short h m = go f.ks f.records f.decides
    where
      go : (ks : List Bytes) → Records s at ks → all_long n (keys_of s) ≡ all_long n ks → all_long n (keys_of s) ≡ false
      go [] r g = absurd (omega arith)
      go (k ∷ ks) r g = g ∙ rw (lt-leb n (length k) (omega (arith, ap length r.3, key_length s (at + 3) (key_size s at) r.0)))

  -- its key is long
  pub long_next : at < length s → n ≤ key_size s at → LongLeft s n (record_end s at)
  unfolding all
  long_next h m = go f.ks f.records f.decides
    where
      go : (ks : List Bytes) → Records s at ks → all_long n (keys_of s) ≡ all_long n ks → LongLeft s n (record_end s at)
      go [] r g = absurd (omega arith)
      go (k ∷ ks) r g = record { ks = ks; records = r.4; decides = g ∙ rw (le-leb n (length k) (omega (arith, ap length r.3, key_length s (at + 3) (key_size s at) r.0))) }

  -- the end of the list
  pub long_done : length s ≤ at → all_long n (keys_of s) ≡ true
  unfolding all
  long_done h = go f.ks f.records f.decides
    where
      go : (ks : List Bytes) → Records s at ks → all_long n (keys_of s) ≡ all_long n ks → all_long n (keys_of s) ≡ true
      go [] r g = g
      go (k ∷ ks) r g = absurd (omega (arith, r.0))
