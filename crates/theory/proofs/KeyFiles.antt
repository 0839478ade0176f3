-- Key lists, written and read. A byte string is the records of at most 65,535 keys of 1 to 64 bytes that ascend strictly, or the sentences on records name the one number that turns it down;
-- what is read from it is those keys, or that number.
use Rattle.std.specs.Prelude.{ℕ, zero, suc, ◌+◌, ◌<◌, ◌≤◌, ◌≡◌, Bool, ◌↔◌, ◌⊎◌, length, take, drop, ltb}
use Rattle.std.proofs.Math.Path.{refl}
use Rattle.std.proofs.Common.{sym, ap, subst, ◌∙◌, inl, inr, length-drop, take-append-drop, length-take-le}
use Rattle.std.proofs.Math.Bool.{true, false}
use mathlib.Core.List.{List, [], ◌∷◌, ◌++◌, append_assoc, append-nil}
use native.Mathlib.Omega.{arith}
use Rattle.std.proofs.Math.ListN.{length-append}
use Rattle.std.proofs.Math.Seq.{take-append_seam, drop-append_seam}
use Rattle.std.proofs.Math.Dec.{eqb}
use borrow.Author.Tests.{ltb-true, ltb-false, eqb-true, eqb-false, lt-ltb, le-ltb, eq-eqb, ne_eqb}
use Rattle.spec.specs.Bytes.{Bytes}
use Rattle.spec.specs.Keys.{below, ParsedKeys, refused, keys, with_key, parse_records, parse_keys, write_keys}
use Rattle.theory.specs.Terms.{All, BelowAll, Ascending, From, IsBytes, Key, Keys, KeyList}
use Rattle.theory.specs.Demands.{RecordsTaken, Passes4, Passes2, ListRefusal, record_too_many, record_short, record_unmarked, record_length, record_cut_off, record_not_above}
use Rattle.theory.proofs.Lists.{all_append, all_split, all_weaken, bytes_append}
use Rattle.theory.proofs.Order.{below_trans}

-- ---- ascending, key by key

-- each key above the one before it, the first above `last`
abbrev Rising : Bytes → List Bytes → Type 0
Rising last [] = Unit
Rising last (k ∷ ks) = (below last k ≡ true) × Rising k ks

above_rising : (last : Bytes) (ks : List Bytes) → BelowAll last ks → Ascending ks → Rising last ks
above_rising last [] a u = tt
above_rising last (k ∷ ks) a u = (a.0, above_rising k ks u.0 u.1)

first_above : (ks : List Bytes) → All (λ k. From 1 64 (length k)) ks → BelowAll [] ks
unfolding below
first_above [] q = tt
first_above ([] ∷ ks) q = absurd (omega (arith, q.0.0))
first_above ((x ∷ k) ∷ ks) q = (refl, first_above ks q.1)

-- a key above all others goes behind them
ascending_above : (ks : List Bytes) (k : Bytes) → Ascending ks → All (λ m. below m k ≡ true) ks → Ascending (ks ++ (k ∷ []))
ascending_above [] k u a = (tt, tt)
ascending_above (m ∷ ks) k u a = (all_append (λ o. below m o ≡ true) ks (k ∷ []) u.0 (a.0, tt), ascending_above ks k u.1 a.1)

-- and above the last is above all
above_last : (ks : List Bytes) (last k : Bytes) → Ascending (ks ++ (last ∷ [])) → below last k ≡ true → All (λ m. below m k ≡ true) (ks ++ (last ∷ []))
above_last [] last k u h = (h, tt)
above_last (m ∷ ks) last k u h = (below_trans m last k (last_all ks u.0) h, above_last ks last k u.1 h)
  where
    last_all : (ks : List Bytes) → BelowAll m (ks ++ (last ∷ [])) → below m last ≡ true
    last_all [] a = a.0
    last_all (o ∷ ks) a = last_all ks a.1

-- the last of the keys, or `last` if there is none
abbrev last_of : Bytes → List Bytes → Bytes
last_of last [] = last
last_of last (k ∷ ks) = last_of k ks

last_behind : (last : Bytes) (ks : List Bytes) (k : Bytes) → last_of last (ks ++ (k ∷ [])) ≡ k
last_behind last [] k = refl
last_behind last (m ∷ ks) k = last_behind m ks k

by_last : {A : Type 0} (ks : List Bytes) → (ks ≡ [] → A) → ((front : List Bytes) (last : Bytes) → ks ≡ front ++ (last ∷ []) → A) → A
by_last [] f g = f refl
by_last (k ∷ ks) f g = by_last ks (λ e. g [] k (ap (λ (z : List Bytes). k ∷ z) e)) (λ front last e. g (k ∷ front) last (ap (λ (z : List Bytes). k ∷ z) e))

-- ---- records that are taken, then what stands behind them

-- keys before those behind them
abbrev with_keys : List Bytes → ParsedKeys → ParsedKeys
with_keys [] p = p
with_keys (k ∷ ks) p = with_key k (with_keys ks p)

with_keys_refused : (ks : List Bytes) (r : ℕ) → with_keys ks (refused r) ≡ refused r
unfolding with_key
with_keys_refused [] r = refl
with_keys_refused (k ∷ ks) r = ap (with_key k) (with_keys_refused ks r)

with_keys_all : (ks : List Bytes) → with_keys ks (keys []) ≡ keys ks
unfolding with_key
with_keys_all [] = refl
with_keys_all (k ∷ ks) = ap (with_key k) (with_keys_all ks)

records_front : (f done : ℕ) (last k r : Bytes) → done < 65535 → From 1 64 (length k) → below last k ≡ true
    → parse_records (suc f) done last (75 ∷ 89 ∷ length k ∷ k ++ r) ≡ with_key k (parse_records f (suc done) k r)
unfolding parse_records
records_front f done last k r d q h =
    let two : length k + 2 ≡ suc (suc (length k)) = omega arith in
    let n = length-append k r in
    rw (
      ne_eqb done 65535 (λ e. omega arith),
      le-ltb (suc (suc (length (k ++ r)))) 2 (omega arith),
      ne_eqb (length k) 0 (λ e. omega (arith, q.0)),
      le-ltb 64 (length k) q.1,
      two,
      le-ltb (suc (suc (length (k ++ r)))) (suc (suc (length k))) (omega arith),
      take-append_seam k r,
      h,
      two,
      take-append_seam k r,
      drop-append_seam k r,
      parse_records,
    )

records_read : (f done : ℕ) (last : Bytes) (ks : List Bytes) (rest : Bytes) (p : ParsedKeys) (total : ℕ) → All (λ k. From 1 64 (length k)) ks → Rising last ks → done + length ks ≡ total → total ≤ 65535
    → length (write_keys ks ++ rest) ≤ f → ((g : ℕ) → length rest ≤ g → parse_records g total (last_of last ks) rest ≡ p)
    → parse_records f done last (write_keys ks ++ rest) ≡ with_keys ks p
unfolding write_keys
records_read f done last [] rest p total q u e d l h = let z : done ≡ total = omega arith in rw z (h f l)
records_read zero done last (k ∷ ks) rest p total q u e d l h = absurd (omega arith)
records_read (suc f) done last (k ∷ ks) rest p total q u e d l h =
    let a = append_assoc k (write_keys ks) rest in
    let n = length-append k (write_keys ks ++ rest) in
    ap (λ (z : Bytes). parse_records (suc f) done last (75 ∷ 89 ∷ length k ∷ z)) a
    ∙ records_front f done last k (write_keys ks ++ rest) (omega arith) q.0 u.0
    ∙ ap (with_key k) (records_read f (suc done) k ks rest p total q.1 u.1 (omega arith) d (omega (arith, ap length a)) h)

-- What is read from a key list whose first records are taken.
taken_read : {list : Bytes} {ks : List Bytes} {rest : Bytes} → RecordsTaken list ks rest → (p : ParsedKeys)
    → ((g : ℕ) → length rest ≤ g → parse_records g (length ks) (last_of [] ks) rest ≡ p) → parse_keys list ≡ with_keys ks p
unfolding parse_keys
taken_read {ks = ks} {rest = rest} t p h =
    rw t.bytes (records_read (length (write_keys ks ++ rest)) 0 [] ks rest p (length ks) t.each (above_rising [] ks (first_above ks t.each) t.up) (omega arith) t.few (omega arith) h)

-- ---- the next record, read

module _ (f done : ℕ) (last : Bytes) where
  four_read : (b : ℕ) (s : Bytes) → done ≡ 65535 → parse_records (suc f) done last (b ∷ s) ≡ refused 4
  unfolding parse_records
  four_read b s e = rw (eq-eqb done 65535 e, parse_records)

  short_read : (b : ℕ) (s : Bytes) → done < 65535 → length s < 2 → parse_records (suc f) done last (b ∷ s) ≡ refused 1
  unfolding parse_records
  short_read b s d l = rw (ne_eqb done 65535 (λ e. omega arith), lt-ltb (length s) 2 l, parse_records)

  unmarked_read : (a b n : ℕ) (s : Bytes) → done < 65535 → (a ≡ 75 → b ≡ 89 → ⊥) → parse_records (suc f) done last (a ∷ b ∷ n ∷ s) ≡ refused 1
  unfolding parse_records
  unmarked_read a b n s d h = go (eqb a 75) refl
    where
      go : (t : Bool) → eqb a 75 ≡ t → parse_records (suc f) done last (a ∷ b ∷ n ∷ s) ≡ refused 1
      go false e = rw (ne_eqb done 65535 (λ e. omega arith), le-ltb (suc (suc (length s))) 2 (omega arith), e, parse_records)
      go true e = rw (ne_eqb done 65535 (λ e. omega arith), le-ltb (suc (suc (length s))) 2 (omega arith), e, ne_eqb b 89 (h (eqb-true a 75 e)), parse_records)

  length_read : (n : ℕ) (s : Bytes) → done < 65535 → (n ≡ 0) ⊎ (64 < n) → parse_records (suc f) done last (75 ∷ 89 ∷ n ∷ s) ≡ refused 2
  unfolding parse_records
  length_read n s d (inl h) = rw (ne_eqb done 65535 (λ e. omega arith), le-ltb (suc (suc (length s))) 2 (omega arith), eq-eqb n 0 h, parse_records)
  length_read n s d (inr h) = rw (ne_eqb done 65535 (λ e. omega arith), le-ltb (suc (suc (length s))) 2 (omega arith), ne_eqb n 0 (λ e. omega arith), lt-ltb 64 n h, parse_records)

  cut_off_read : (n : ℕ) (s : Bytes) → done < 65535 → From 1 64 n → length s < n → parse_records (suc f) done last (75 ∷ 89 ∷ n ∷ s) ≡ refused 1
  unfolding parse_records
  cut_off_read n s d q h =
      rw (ne_eqb done 65535 (λ e. omega arith), le-ltb (suc (suc (length s))) 2 (omega arith), ne_eqb n 0 (λ e. omega arith), le-ltb 64 n q.1, lt-ltb (suc (suc (length s))) (n + 2) (omega arith), parse_records)

  not_above_read : (k s : Bytes) → done < 65535 → From 1 64 (length k) → below last k ≡ false → parse_records (suc f) done last (75 ∷ 89 ∷ length k ∷ k ++ s) ≡ refused 3
  unfolding parse_records
  not_above_read k s d q h =
      let n = length-append k s in
      rw (
        ne_eqb done 65535 (λ e. omega arith),
        le-ltb (suc (suc (length (k ++ s)))) 2 (omega arith),
        ne_eqb (length k) 0 (λ e. omega arith),
        le-ltb 64 (length k) q.1,
        le-ltb (suc (suc (length (k ++ s)))) (length k + 2) (omega arith),
        take-append_seam k s,
        h,
        parse_records,
      )

-- a number that is read at the next record is the list's
refused_read : {list : Bytes} {ks : List Bytes} {b : ℕ} {s : Bytes} → RecordsTaken list ks (b ∷ s) → (r : ℕ) → ((f : ℕ) → parse_records (suc f) (length ks) (last_of [] ks) (b ∷ s) ≡ refused r) → parse_keys list ≡ refused r
refused_read {ks = ks} {b = b} {s = s} t r h = taken_read t (refused r) go ∙ with_keys_refused ks r
  where
    go : (g : ℕ) → length (b ∷ s) ≤ g → parse_records g (length ks) (last_of [] ks) (b ∷ s) ≡ refused r
    go zero l = absurd (omega arith)
    go (suc f) l = h f

-- The number of a refusal is the one that is read.
refusal_read : {list : Bytes} {r : ℕ} → ListRefusal list r → parse_keys list ≡ refused r
refusal_read (record_too_many ks b rest t e) = refused_read t 4 (λ f. four_read f (length ks) (last_of [] ks) b rest e)
refusal_read (record_short ks [] p h) = absurd (omega arith)
refusal_read (record_short ks (b ∷ s) p h) = refused_read p.before 1 (λ f. short_read f (length ks) (last_of [] ks) b s p.room (omega arith))
refusal_read (record_unmarked ks a b n rest p h) = refused_read p.before 1 (λ f. unmarked_read f (length ks) (last_of [] ks) a b n rest p.room h)
refusal_read (record_length ks n rest p h) = refused_read p.before 2 (λ f. length_read f (length ks) (last_of [] ks) n rest p.room h)
refusal_read (record_cut_off ks n rest p h) = refused_read p.before.before 1 (λ f. cut_off_read f (length ks) (last_of [] ks) n rest p.before.room p.size h)
refusal_read (record_not_above ks last k rest p h) =
    let l = last_behind [] ks last in
    refused_read p.before.before 3 (λ f. rw l (not_above_read f (length (ks ++ (last ∷ []))) last k rest p.before.room p.size h))

-- So are the keys of a list that is taken.
list_read : {list : Bytes} {ks : List Bytes} → RecordsTaken list ks [] → parse_keys list ≡ keys ks
unfolding parse_records
list_read {ks = ks} t = taken_read t (keys []) none ∙ with_keys_all ks
  where
    none : (g : ℕ) → 0 ≤ g → parse_records g (length ks) (last_of [] ks) [] ≡ keys []
    none zero l = refl
    none (suc g) l = refl

-- ---- every byte string is taken, or is turned down

write_keys_append : (ks ms : List Bytes) → write_keys (ks ++ ms) ≡ write_keys ks ++ write_keys ms
unfolding write_keys
write_keys_append [] ms = refl
write_keys_append (k ∷ ks) ms = ap (λ (z : Bytes). 75 ∷ 89 ∷ length k ∷ z) (ap (λ (z : Bytes). k ++ z) (write_keys_append ks ms) ∙ sym (append_assoc k (write_keys ks) (write_keys ms)))

-- one more record is taken
record_taken : {list : Bytes} {ks : List Bytes} (k s : Bytes) → Passes2 list ks (length k) (k ++ s) → All (λ m. below m k ≡ true) ks → RecordsTaken list (ks ++ (k ∷ [])) s
unfolding write_keys
record_taken {ks = ks} k s p a =
    let t = p.before.before in
    record {
      bytes = t.bytes ∙ ap (λ (z : Bytes). write_keys ks ++ 75 ∷ 89 ∷ length k ∷ z) (front k s) ∙ sym (append_assoc (write_keys ks) (write_keys (k ∷ [])) s) ∙ ap (λ (z : Bytes). z ++ s) (sym (write_keys_append ks (k ∷ [])));
      each = all_append (λ m. From 1 64 (length m)) ks (k ∷ []) t.each (p.size, tt);
      up = ascending_above ks k t.up a;
      few = omega (arith, p.before.room, length-append ks (k ∷ []));
    }
  where
    front : (k s : Bytes) → k ++ s ≡ (k ++ []) ++ s
    front k s = sym (append_assoc k [] s)

module _ {A : Type 0} (list : Bytes) (accepts : (ks : List Bytes) → RecordsTaken list ks [] → A) (refuses : (r : ℕ) → ListRefusal list r → A) where
  -- what is done where one more record is taken: of its key, and of the bytes behind it, which are fewer than `size`
  abbrev Next : List Bytes → ℕ → Type 0
  Next ks size = (k s : Bytes) → length s < size → RecordsTaken list (ks ++ (k ∷ [])) s → A

  from_key : (ks : List Bytes) (k s : Bytes) → Passes2 list ks (length k) (k ++ s) → (RecordsTaken list (ks ++ (k ∷ [])) s → A) → A
  from_key ks k s p next = by_last ks (λ e. next (record_taken k s p (rw e tt))) (λ front last e. go front last e (below last k) refl)
    where
      go : (front : List Bytes) (last : Bytes) → ks ≡ front ++ (last ∷ []) → (t : Bool) → below last k ≡ t → A
      go front last e true h = next (record_taken k s p (rw e (above_last front last k (subst Ascending e p.before.before.up) h)))
      go front last e false h = refuses 3 (record_not_above front last k s (subst (λ (z : List Bytes). Passes2 list z (length k) (k ++ s)) e p) h)

  from_2 : (ks : List Bytes) (n : ℕ) (s : Bytes) → Passes2 list ks n s → Next ks (suc (length s)) → (t : Bool) → ltb (length s) n ≡ t → A
  from_2 ks n s p next true e = refuses 1 (record_cut_off ks n s p (ltb-true (length s) n e))
  from_2 ks n s p next false e = from_key ks (take n s) (drop n s) (rw (length-take-le n s (ltb-false (length s) n e), take-append-drop n s) p) (next (take n s) (drop n s) (omega (arith, length-drop n s)))

  from_mark : (ks : List Bytes) (n : ℕ) (s : Bytes) → Passes4 list ks (75 ∷ 89 ∷ n ∷ s) → Next ks (suc (length s)) → (t u : Bool) → eqb n 0 ≡ t → ltb 64 n ≡ u → A
  from_mark ks n s p next true u e h = refuses 2 (record_length ks n s p (inl (eqb-true n 0 e)))
  from_mark ks n s p next false true e h = refuses 2 (record_length ks n s p (inr (ltb-true 64 n h)))
  from_mark ks n s p next false false e h = from_2 ks n s (record { before = p; size = (omega (arith, eqb-false n 0 e), ltb-false 64 n h) }) next (ltb (length s) n) refl

  from_4 : (ks : List Bytes) (b : ℕ) (s : Bytes) → Passes4 list ks (b ∷ s) → Next ks (suc (length s)) → A
  from_4 ks b [] p next = refuses 1 (record_short ks (b ∷ []) p (omega arith))
  from_4 ks b (x ∷ []) p next = refuses 1 (record_short ks (b ∷ x ∷ []) p (omega arith))
  from_4 ks b (x ∷ n ∷ s) p next = go (eqb b 75) (eqb x 89) refl refl
    where
      go : (t u : Bool) → eqb b 75 ≡ t → eqb x 89 ≡ u → A
      go false u e h = refuses 1 (record_unmarked ks b x n s p (λ y z. eqb-false b 75 e y))
      go true false e h = refuses 1 (record_unmarked ks b x n s p (λ y z. eqb-false x 89 h z))
      go true true e h = from_mark ks n s (rw (eqb-true b 75 e, eqb-true x 89 h) at p) (λ k v l t. next k v (omega arith) t) (eqb n 0) (ltb 64 n) refl refl

  from_record : (ks : List Bytes) (b : ℕ) (s : Bytes) → RecordsTaken list ks (b ∷ s) → Next ks (suc (length s)) → (t : Bool) → eqb (length ks) 65535 ≡ t → A
  from_record ks b s t next true e = refuses 4 (record_too_many ks b s t (eqb-true (length ks) 65535 e))
  from_record ks b s t next false e = from_4 ks b s (record { before = t; room = omega (arith, t.few, eqb-false (length ks) 65535 e) }) next

  from_records : (f : ℕ) (ks : List Bytes) (s : Bytes) → length s ≤ f → RecordsTaken list ks s → A
  from_records zero ks [] l t = accepts ks t
  from_records zero ks (b ∷ s) l t = absurd (omega arith)
  from_records (suc f) ks [] l t = accepts ks t
  from_records (suc f) ks (b ∷ s) l t = from_record ks b s t (λ k v h u. from_records f (ks ++ (k ∷ [])) v (omega arith) u) (eqb (length ks) 65535) refl

  -- A key list is taken whole, or is turned down at a record.
  by_records : A
  unfolding write_keys
  by_records = from_records (length list) [] list (omega arith) (record { bytes = refl; each = tt; up = tt; few = omega arith })

-- ---- both ways

-- a refusal is no list
no_keys : {A : Type 0} {r : ℕ} {ks : List Bytes} → refused r ≡ keys ks → A
no_keys h = let z : ◌≡◌ {A = ℕ} 0 1 = cc in absurd (omega arith)

-- A key list is refused with the number that the sentences on records name, and with no other.
pub list_refuses : (list : Bytes) (r : ℕ) → (parse_keys list ≡ refused r) ↔ ListRefusal list r
list_refuses list r = (to, refusal_read)
  where
    to : parse_keys list ≡ refused r → ListRefusal list r
    to h = by_records list (λ ks t. no_keys (sym h ∙ list_read t)) (λ q l. let e : refused q ≡ refused r = sym (refusal_read l) ∙ h in let n : q ≡ r = cc in subst (ListRefusal list) n l)

-- It is read as keys exactly where it is taken whole, and they are those of its records.
pub list_taken : (list : Bytes) (ks : List Bytes) → (parse_keys list ≡ keys ks) ↔ RecordsTaken list ks []
list_taken list ks = (to, list_read)
  where
    to : parse_keys list ≡ keys ks → RecordsTaken list ks []
    to h = by_records list (λ ms t. let e : keys ms ≡ keys ks = sym (list_read t) ∙ h in let n : ms ≡ ks = cc in subst (λ (z : List Bytes). RecordsTaken list z []) n t) (λ q l. no_keys (sym (refusal_read l) ∙ h))

-- keys of bytes have bytes as their records, and the other way round
pub bytes_write_keys : (ks : List Bytes) → Keys ks → IsBytes (write_keys ks)
unfolding write_keys
bytes_write_keys [] q = tt
bytes_write_keys (k ∷ ks) q = (omega arith, (omega arith, (omega (arith, q.0.fits), bytes_append k (write_keys ks) q.0.bytes (bytes_write_keys ks q.1))))

write_keys_bytes : (ks : List Bytes) → All (λ k. From 1 64 (length k)) ks → IsBytes (write_keys ks) → Keys ks
unfolding write_keys
write_keys_bytes [] q w = tt
write_keys_bytes (k ∷ ks) q w = let b = all_split (λ x. x < 256) k (write_keys ks) w.1.1.1 in (record { least = q.0.0; fits = q.0.1; bytes = b.0 }, write_keys_bytes ks q.1 b.1)

-- None of 1 to 4 applies to a byte string exactly when it is such records, and they give these keys.
pub keys_exactly : (s : Bytes) (ks : List Bytes) → IsBytes s → (parse_keys s ≡ keys ks) ↔ KeyList s ks
keys_exactly s ks w = (to, from)
  where
    to : parse_keys s ≡ keys ks → KeyList s ks
    to h =
        let t = (list_taken s ks).0 h in
        let e : s ≡ write_keys ks = t.bytes ∙ append-nil (write_keys ks) in
        record { bytes = e; each = write_keys_bytes ks t.each (subst IsBytes e w); up = t.up; few = t.few }

    from : KeyList s ks → parse_keys s ≡ keys ks
    from k = (list_taken s ks).1 (record {
      bytes = k.bytes ∙ sym (append-nil (write_keys ks));
      each = all_weaken Key (λ k. From 1 64 (length k)) (λ x q. (q.least, q.fits)) ks k.each;
      up = k.up;
      few = k.few;
    })
