-- What holds of a key list that document 01's definition accepts, record by record and by position: the builder's passes over the list rest on it.
use Rattle.std.specs.Prelude.{◌≡◌, refl, Bool, true, false, List, [], ◌∷◌, ℕ, zero, suc, ◌+◌, ◌*◌, ◌-◌, ◌≤◌, ◌<◌, length, get_or, drop, ltb, eqb, Ok, Err}
use Rattle.std.proofs.Common.{sym, ap, ◌∙◌, arith, ltb-true, ltb-false, eqb-true, drop_of_length-le}
use Rattle.std.proofs.lemmas.Bool.{eqb-false}
use Rattle.spec.specs.Bytes.{Bytes}
use Rattle.spec.specs.Keys.{below, ParsedKeys, refused, keys, with_key, parse_records, parse_keys}
use Rattle.bits.specs.Bits.{key}
use Rattle.build_laws.specs.KeyRecords.{Records, Rising, Listed}
use Rattle.build_list.specs.KeyList.{counted, key_list}
use Rattle.build_list.specs.RecordLaws.{read_many, read_short, read_unmarked, read_none, read_long, read_missing, read_whole}

-- a refusal is no list of keys
never : {A : Type 0} {r : ℕ} {ks : List Bytes} → refused r ≡ keys ks → A
never e = let z : ◌≡◌ {A = ℕ} 0 1 = cc in absurd (omega arith)

with_key_inv : (k : Bytes) (p : ParsedKeys) (ks : List Bytes) → with_key k p ≡ keys ks → (rest : List Bytes) × (ks ≡ k ∷ rest) × (p ≡ keys rest)
unfolding with_key
with_key_inv k (refused r) ks e = never e
with_key_inv k (keys ms) ks e = (ms, cc, refl)

-- one record of an accepted list: its key, and what is left
record Taken (s : Bytes) (at done f : ℕ) (last : Bytes) (ks : List Bytes) : Type 0 where
  rest : List Bytes
  is : ks ≡ key s (at + 3) (get_or s (at + 2) 0) ∷ rest
  room : done < 65535
  some : 0 < get_or s (at + 2) 0
  small : get_or s (at + 2) 0 ≤ 64
  fits : at + 3 + get_or s (at + 2) 0 ≤ length s
  above : below last (key s (at + 3) (get_or s (at + 2) 0)) ≡ true
  more : parse_records f (suc done) (key s (at + 3) (get_or s (at + 2) 0)) (drop (at + 3 + get_or s (at + 2) 0) s) ≡ keys rest

module _ (s : Bytes) (at done f : ℕ) (last : Bytes) (ks : List Bytes) (h : at < length s) (few : done ≤ 65535) (e : parse_records (suc f) done last (drop at s) ≡ keys ks) where
  -- the length byte
  abbrev n : ℕ
  n = get_or s (at + 2) 0

  taken : Taken s at done f last ks
  taken = one (eqb done 65535) refl
    where
      last_test : (room : done ≡ 65535 → ⊥) → 3 ≤ length s - at → get_or s at 0 ≡ 75 → get_or s (at + 1) 0 ≡ 89 → (n ≡ 0 → ⊥) → n ≤ 64 → n ≤ length s - (at + 3)
          → (t : Bool) → below last (key s (at + 3) n) ≡ t → Taken s at done f last ks
      last_test room three first second some small whole false q =
          never (sym ((read_whole s at done h room three first second n refl some small few whole).low f last q) ∙ e)
      last_test room three first second some small whole true q =
          let r = read_whole s at done h room three first second n refl some small few whole in
          let w = with_key_inv (key s (at + 3) n) (parse_records f (suc done) (key s (at + 3) n) (drop (at + 3 + n) s)) ks (sym (r.high f last q) ∙ e) in
          record { rest = w.0; is = w.1; room = r.few; some = omega arith; small = small; fits = r.within; above = q; more = w.2 }

      seven : (room : done ≡ 65535 → ⊥) → 3 ≤ length s - at → get_or s at 0 ≡ 75 → get_or s (at + 1) 0 ≡ 89 → (n ≡ 0 → ⊥) → n ≤ 64
          → (t : Bool) → ltb (length s - (at + 3)) n ≡ t → Taken s at done f last ks
      seven room three first second some small true q = never (sym (read_missing s at done h room three first second n refl some small (ltb-true _ _ q) f last) ∙ e)
      seven room three first second some small false q = last_test room three first second some small (ltb-false _ _ q) (below last (key s (at + 3) n)) refl

      six : (room : done ≡ 65535 → ⊥) → 3 ≤ length s - at → get_or s at 0 ≡ 75 → get_or s (at + 1) 0 ≡ 89 → (n ≡ 0 → ⊥) → (t : Bool) → ltb 64 n ≡ t → Taken s at done f last ks
      six room three first second some true q = never (sym (read_long s at done h room three first second n refl some (ltb-true _ _ q) f last) ∙ e)
      six room three first second some false q = seven room three first second some (ltb-false _ _ q) (ltb (length s - (at + 3)) n) refl

      five : (room : done ≡ 65535 → ⊥) → 3 ≤ length s - at → get_or s at 0 ≡ 75 → get_or s (at + 1) 0 ≡ 89 → (t : Bool) → eqb n 0 ≡ t → Taken s at done f last ks
      five room three first second true q = never (sym (read_none s at done h room three first second n refl (eqb-true _ _ q) f last) ∙ e)
      five room three first second false q = six room three first second (eqb-false _ _ q) (ltb 64 n) refl

      four : (room : done ≡ 65535 → ⊥) → 3 ≤ length s - at → eqb (get_or s at 0) 75 ≡ true → (t : Bool) → eqb (get_or s (at + 1) 0) 89 ≡ t → Taken s at done f last ks
      four room three p true q = five room three (eqb-true _ _ p) (eqb-true _ _ q) (eqb n 0) refl
      four room three p false q = never (sym (read_unmarked s at done h room three (rw (p, q)) f last) ∙ e)

      three : (room : done ≡ 65535 → ⊥) → 3 ≤ length s - at → (t : Bool) → eqb (get_or s at 0) 75 ≡ t → Taken s at done f last ks
      three room l true p = four room l p (eqb (get_or s (at + 1) 0) 89) refl
      three room l false p = never (sym (read_unmarked s at done h room l (rw p) f last) ∙ e)

      two : (room : done ≡ 65535 → ⊥) → (t : Bool) → ltb (length s - at) 3 ≡ t → Taken s at done f last ks
      two room true p = never (sym (read_short s at done h room (ltb-true _ _ p) f last) ∙ e)
      two room false p = three room (ltb-false _ _ p) (eqb (get_or s at 0) 75) refl

      one : (t : Bool) → eqb done 65535 ≡ t → Taken s at done f last ks
      one true p = never (sym (read_many s at done h (eqb-true _ _ p) f last) ∙ e)
      one false p = two (eqb-false _ _ p) (ltb (length s - at) 3) refl

-- the records from `at` on
record Left (s : Bytes) (at done : ℕ) (last : Bytes) (ks : List Bytes) : Type 0 where
  records : Records s at ks
  rising : Rising last ks
  few : done + length ks ≤ 65535
  short : length s ≤ at + 67 * length ks

left_none : (s : Bytes) (at done : ℕ) (last : Bytes) (ks : List Bytes) → done ≤ 65535 → length s ≤ at → keys [] ≡ keys ks → Left s at done last ks
left_none s at done last ks d h e =
    let z : ks ≡ [] = cc in
    rw z (record { records = h; rising = tt; few = omega arith; short = omega arith })

left : (f done : ℕ) (last : Bytes) (s : Bytes) (at : ℕ) (ks : List Bytes) → length s ≤ at + f → done ≤ 65535 → parse_records f done last (drop at s) ≡ keys ks → Left s at done last ks
unfolding parse_records
left zero done last s at ks h d e = left_none s at done last ks d (omega arith) e
left (suc f) done last s at ks h d e = go (ltb at (length s)) refl (λ k a m l. left f (suc done) k s a m l)
  where
    go : (t : Bool) → ltb at (length s) ≡ t
        → ((k : Bytes) (a : ℕ) (m : List Bytes) → length s ≤ a + f → suc done ≤ 65535 → parse_records f (suc done) k (drop a s) ≡ keys m → Left s a (suc done) k m)
        → Left s at done last ks
    go false q ih =
        let l : length s ≤ at = ltb-false at (length s) q in
        left_none s at done last ks d l (ap (parse_records (suc f) done last) (sym (drop_of_length-le s l)) ∙ e)
    go true q ih =
        let t = taken s at done f last ks (ltb-true at (length s) q) d e in
        let g = ih (key s (at + 3) (get_or s (at + 2) 0)) (at + 3 + get_or s (at + 2) 0) t.rest (omega arith) t.room t.more in
        rw t.is (record {
          records = (t.fits, t.some, t.small, refl, g.records);
          rising = (t.above, g.rising);
          few = omega (arith, g.few);
          short = omega (arith, g.short, t.small);
        })

-- an accepted list is listed
pub listed : (s : Bytes) (ks : List Bytes) → parse_keys s ≡ keys ks → Listed s ks
unfolding parse_keys
listed s ks e =
    let l = left (length s) 0 [] s 0 ks (omega arith) (omega arith) e in
    record { records = l.records; rising = l.rising; few = omega (arith, l.few); short = omega (arith, l.short) }

-- an answer with a count of keys comes from so many keys
pub judged_keys : (p : ParsedKeys) (n : ℕ) → Ok n ≡ key_list p → (ks : List Bytes) × (p ≡ keys ks) × (length ks ≡ n)
unfolding key_list counted
judged_keys (refused r) n e = let z : ◌≡◌ {A = ℕ} 0 1 = cc in absurd (omega arith)
judged_keys (keys ks) n e = let z : n ≡ 0 + length ks = cc in (ks, refl, omega arith)

-- an answer with a number comes from a list that the number turns down
pub judged_refused : (p : ParsedKeys) (r : ℕ) → Err r ≡ key_list p → p ≡ refused r
unfolding key_list counted
judged_refused (refused q) r e = let z : r ≡ q = cc in ap refused (sym z)
judged_refused (keys ks) r e = let z : ◌≡◌ {A = ℕ} 0 1 = cc in absurd (omega arith)
