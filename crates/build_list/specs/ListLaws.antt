-- A key list read record by record by position: the count of its keys or its number, and what holds of a list that is accepted.
use Rattle.std.specs.Prelude.{◌≡◌, [], length, drop, Ok, Err}
use Rattle.std.proofs.Math.Path.{refl, ap}
use Rattle.std.proofs.Common.{ap₂, ◌∙◌, arith, drop_of_length-le}
use Prim.Native.Nat.{ℕ, zero, suc, ◌+◌, ◌-◌, ◌≤◌, ◌<◌}
use Rattle.spec.specs.Bytes.{Bytes}
use Rattle.spec.specs.Keys.{ParsedKeys, refused, keys, with_key, parse_records, parse_keys}
use Rattle.bits.specs.Bits.{key}
use Rattle.build_list.specs.KeyList.{RecordJudged, counted, key_list}
use Rattle.image.specs.declared.refusals.Refusal.{Refusal}
use Rattle.image.specs.Refusals.{number_of}

-- the whole list, before its first record
pub judge_start : (s : Bytes) → key_list (parse_keys s) ≡ counted 0 (parse_records (length s - 0) 0 (key s 0 0) (drop 0 s))
unfolding key_list parse_keys
judge_start s = let e : length s ≡ length s - 0 = omega arith in ap (λ (f : ℕ). counted 0 (parse_records f 0 [] s)) e

-- a key more in front
counted_key : (c : ℕ) (k : Bytes) (p : ParsedKeys) → counted c (with_key k p) ≡ counted (c + 1) p
unfolding counted with_key
counted_key c k (refused r) = refl
counted_key c k (keys ks) = let e : c + suc (length ks) ≡ c + 1 + length ks = omega arith in ap Ok e

module _ (s : Bytes) (at count : ℕ) (last : Bytes) where
  -- behind the last record
  pub judge_end : (f : ℕ) → length s ≤ at → counted count (parse_records f count last (drop at s)) ≡ Ok count
  unfolding counted parse_records
  judge_end f h = ap (λ (t : Bytes). counted count (parse_records f count last t)) (drop_of_length-le s h) ∙ none f ∙ ap Ok (omega arith)
    where
      none : (f : ℕ) → counted count (parse_records f count last []) ≡ Ok (count + 0)
      none zero = refl
      none (suc f) = refl

  -- a record that turns the list down
  pub judge_number : (f : ℕ) (r : Refusal) → 0 < f → RecordJudged s at count last (Err r) → counted count (parse_records f count last (drop at s)) ≡ Err (number_of r)
  unfolding counted
  judge_number zero r h j = absurd (omega arith)
  judge_number (suc f) r h j = ap (counted count) (j f)

  -- a record that is taken
  pub judge_more : (f n : ℕ) → 0 < f → RecordJudged s at count last (Ok n)
      → counted count (parse_records f count last (drop at s)) ≡ counted (count + 1) (parse_records (f - 1) (count + 1) (key s (at + 3) n) (drop (at + 3 + n) s))
  judge_more zero n h j = absurd (omega arith)
  judge_more (suc f) n h j =
      let e : f ≡ suc f - 1 = omega arith in
      let d : suc count ≡ count + 1 = omega arith in
      ap (counted count) (j.high f) ∙ counted_key count (key s (at + 3) n) (parse_records f (suc count) (key s (at + 3) n) (drop (at + 3 + n) s))
      ∙ ap₂ (λ (g c : ℕ). counted (count + 1) (parse_records g c (key s (at + 3) n) (drop (at + 3 + n) s))) e d
