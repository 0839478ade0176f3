-- The records of leaves, one behind the other at the front of a buffer.
use Rattle.std.specs.Prelude.{ℕ, zero, suc, ◌+◌, ◌*◌, ◌/◌, ◌≤◌, ◌≡◌, List, [], ◌∷◌, ◌++◌, length, take, drop}
use Rattle.std.proofs.Math.Path.{refl}
use Rattle.std.proofs.Common.{sym, ap, ◌∙◌, append_assoc, append-nil, add-one, arith, length-append, length-drop, take_all}
use Rattle.std.proofs.Math.Option.{some}
use Rattle.std.proofs.Math.ListN.{get_elem?}
use Rattle.spec.specs.Bytes.{Bytes, concat}
use Rattle.spec.specs.Leaves.{Leaf}
use Rattle.spec.specs.WalkRecords.{record_size, leaf_record, leaf_records, records_from}
use Rattle.theory.proofs.WalkRecordLaws.{record_length}
use Rattle.bits.specs.Bits.{overlaid}
use Rattle.bits.proofs.Overlaying.{length_overlaid, overlaid_behind}

-- The records of n leaves from a place on stand at the front of the buffer; the bytes behind them are still those of out.
pub record Filled (ls : List Leaf) (place : ℕ) (out : Bytes) (n : ℕ) (buffer : Bytes) : Type 0 where
  -- there are as many leaves
  pub size : length (records_from ls place n) ≡ record_size * n
  pub bytes : buffer ≡ overlaid out 0 (records_from ls place n)

-- A buffer that was out has the records of the leaves from a place on at its front, of as many as it holds whole, n bytes, and all else stays.
pub record Fills (ls : List Leaf) (place : ℕ) (out buffer : Bytes) (n : ℕ) : Type 0 where
  pub size : n ≡ length (records_from ls place (length out / record_size))
  pub bytes : buffer ≡ records_from ls place (length out / record_size) ++ drop n out

-- one record more
records_more : (ls : List Leaf) (n : ℕ) (l : Leaf) → get_elem? ls n ≡ some l → leaf_records (take (suc n) ls) ≡ leaf_records (take n ls) ++ leaf_record l
unfolding leaf_records concat
records_more [] n l e = let z : ◌≡◌ {A = ℕ} 0 1 = cc in absurd (omega arith)
records_more (x ∷ ls) zero l e = let s : x ≡ l = cc in append-nil (leaf_record x) ∙ ap leaf_record s
records_more (x ∷ ls) (suc n) l e = ap (λ (z : Bytes). leaf_record x ++ z) (records_more ls n l e) ∙ sym (append_assoc (leaf_record x) (leaf_records (take n ls)) (leaf_record l))

-- the member at a place, counted from a place before it
found_behind : (ls : List Leaf) (place n : ℕ) → get_elem? (drop place ls) n ≡ get_elem? ls (place + n)
found_behind ls zero n = let z : n ≡ 0 + n = omega arith in ap (get_elem? ls) z
found_behind [] (suc place) n = refl
found_behind (x ∷ ls) (suc place) n = let z : suc (place + n) ≡ suc place + n = omega arith in found_behind ls place n ∙ ap (get_elem? (x ∷ ls)) z

module _ (ls : List Leaf) (place : ℕ) (out : Bytes) where
  -- no record
  pub filled_none : Filled ls place out 0 out
  unfolding leaf_records concat
  filled_none = record { size = refl; bytes = refl }

  module _ (n : ℕ) (buffer : Bytes) (f : Filled ls place out n buffer) where
    -- the buffer keeps its length
    pub filled_length : record_size * n ≤ length out → length buffer ≡ length out
    filled_length h = ap length f.bytes ∙ length_overlaid out 0 (records_from ls place n) (omega (arith, f.size))

    -- one record more, written behind them
    pub filled_more : (l : Leaf) (after : Bytes) → record_size * n + record_size ≤ length out → get_elem? ls (place + n) ≡ some l → after ≡ overlaid buffer (record_size * n) (leaf_record l) → Filled ls place out (n + 1) after
    filled_more l after h e g =
        let xs : Bytes = records_from ls place n in
        let more : records_from ls place (n + 1) ≡ xs ++ leaf_record l = rw (add-one n) (records_more (drop place ls) n l (found_behind ls place n ∙ e)) in
        let w : length (leaf_record l) ≡ record_size = record_length l in
        record {
          size = ap length more ∙ omega (arith, length-append xs (leaf_record l), f.size);
          bytes = overlaid_behind out buffer after xs (leaf_record l) 0 (record_size * n) (omega (arith, f.size)) (omega arith) f.bytes g ∙ ap (overlaid out 0) (sym more);
        }

    -- the bytes that are written, of all leaves that are asked for
    written_all : take n (drop place ls) ≡ take (length out / record_size) (drop place ls) → Fills ls place out buffer (record_size * n)
    written_all e =
        let ks : List Leaf = take (length out / record_size) (drop place ls) in
        let size : record_size * n ≡ length (leaf_records ks) = sym f.size ∙ ap (λ (xs : List Leaf). length (leaf_records xs)) e in
        let z : 0 + length (leaf_records ks) ≡ record_size * n = omega arith in
        record { size = size; bytes = f.bytes ∙ ap (λ (xs : List Leaf). overlaid out 0 (leaf_records xs)) e ∙ ap (λ (k : ℕ). leaf_records ks ++ drop k out) z }

    -- the buffer is full
    pub filled_full : n ≡ length out / record_size → Fills ls place out buffer (record_size * n)
    filled_full e = written_all (ap (λ (k : ℕ). take k (drop place ls)) e)

    -- there is no leaf behind them
    pub filled_done : n ≤ length out / record_size → length ls ≤ place + n → Fills ls place out buffer (record_size * n)
    filled_done h e = written_all (take_all n (drop place ls) (omega (arith, length-drop place ls)) ∙ sym (take_all (length out / record_size) (drop place ls) (omega (arith, length-drop place ls))))
