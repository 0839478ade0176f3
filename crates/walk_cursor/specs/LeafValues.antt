-- Leaves by value as a walk gives them, with zeros behind the cut key and above the suffix bits; and as records of bytes.
use Rattle.std.specs.Prelude.{ℕ, ◌+◌, ◌-◌, ◌≤◌, ◌≡◌, refl, [], ◌∷◌, ◌++◌, length, take, drop, set, replicate}
use Rattle.std.proofs.Common.{sym, ap, ◌∙◌, add-one, arith, length-append, length-take-le, take_at, take-take, drop_at}
use Rattle.std.proofs.lemmas.List.{length-replicate, replicate-append-replicate}
use Rattle.std.proofs.lemmas.List.Edits.{sets-eq}
use Rattle.std.proofs.Math.Seq.{take-append_seam, take-append-add}
use Rattle.spec.specs.Bytes.{Bytes, le32, low_first, low_bits}
use Rattle.spec.specs.Leaves.{Leaf}
use Rattle.spec.specs.WalkRecords.{record_size, kind_byte, cut_field, leaf_record}
use Rattle.theory.proofs.Bits.{low_bits_first}
use Rattle.bits.specs.Bits.{overlaid}
use Rattle.bits.proofs.Overlaying.{overlaid_behind}
use Rattle.bits.proofs.UnpackLaws.{length_low_bits}
use Rattle.image.specs.declared.Leaf.{Leaf as Value}
use Rattle.image.specs.Value.{leaf_of, Sized, value_of}

-- ---- the cut key with zeros behind it

-- so many zeros
abbrev zeros : ℕ → Bytes
zeros n = replicate n 0

-- the zeros behind a key
zeros_behind : (n : ℕ) → n ≤ 64 → drop n (zeros 64) ≡ take (64 - n) (zeros 64)
zeros_behind n h =
    let e : 64 ≡ n + (64 - n) = omega arith in
    let f : 64 ≡ 64 - n + n = omega arith in
    ap (λ (k : ℕ). drop n (zeros k)) e ∙ ap (drop n) (sym (replicate-append-replicate n (64 - n) 0)) ∙ drop_at (zeros n) (zeros (64 - n)) n (length-replicate n 0)
    ∙ sym (ap (λ (k : ℕ). take (64 - n) (zeros k)) f ∙ ap (take (64 - n)) (sym (replicate-append-replicate (64 - n) n 0)) ∙ take_at (zeros (64 - n)) (zeros n) (64 - n) (length-replicate (64 - n) 0))

-- a key of at most 64 bytes, copied over the front of 64 zeros
pub field_overlaid : (k : Bytes) → length k ≤ 64 → overlaid (replicate 64 0) 0 k ≡ cut_field k
field_overlaid k h =
    let e : 64 ≡ length k + (64 - length k) = omega arith in
    let z : 0 + length k ≡ length k = omega arith in
    ap (λ (n : ℕ). k ++ drop n (zeros 64)) z ∙ ap (λ (r : Bytes). k ++ r) (zeros_behind (length k) h)
    ∙ sym (ap (λ (n : ℕ). take n (k ++ zeros 64)) e ∙ take-append-add k (zeros 64) (64 - length k))

-- ---- the leaf

-- A leaf by value with its cut key copied over zeros, and its suffix bits as a number, is the one that a walk gives.
pub value_padded : (v : Value) → length v.cut ≡ 64 → Sized v → (field : Bytes) (x : ℕ) → field ≡ overlaid (replicate 64 0) 0 (take v.len v.cut) → x ≡ low_first (low_bits v.width v.suffix)
    → record { cut = field; len = v.len; exact = v.exact; suffix = x; width = v.width } ≡ value_of (leaf_of v)
value_padded v whole s field x e f =
    let n : length (take v.len v.cut) ≡ v.len = length-take-le v.len v.cut (omega arith) in
    let c : field ≡ cut_field (take v.len v.cut) = e ∙ field_overlaid (take v.len v.cut) (omega arith) in
    let l : v.len ≡ length (take v.len v.cut) = sym n in
    let w : v.width ≡ length (low_bits v.width v.suffix) = sym (length_low_bits v.width v.suffix) in
    λ i. record { cut = c i; len = l i; exact = v.exact; suffix = f i; width = w i }

-- The leaf of document 01 that it stands for.
pub leaf_of_value : (l : Leaf) → length l.cut ≤ 64 → leaf_of (value_of l) ≡ l
leaf_of_value l h =
    let c : take (length l.cut) (cut_field l.cut) ≡ l.cut = take-take (length l.cut) 64 (l.cut ++ zeros 64) h ∙ take-append_seam l.cut (zeros 64) in
    let x : low_bits (length l.suffix) (low_first l.suffix) ≡ l.suffix = low_bits_first l.suffix in
    λ i. record { cut = c i; exact = l.exact; suffix = x i }

-- ---- the record

-- a leaf by value as a record: kind, length, cut key with zeros behind it, and suffix
abbrev pub value_record : Value → Bytes
value_record v = kind_byte v.exact ∷ v.len ∷ (v.cut ++ le32 v.suffix)

-- of a leaf that a walk gives it is the leaf's record
pub value_record_is : (l : Leaf) → value_record (value_of l) ≡ leaf_record l
unfolding leaf_record
value_record_is l = refl

-- The parts of a record, written one behind the other, are the record.
pub record_overlaid : (out : Bytes) (at : ℕ) (v : Value) (keyed after : Bytes) → at + record_size ≤ length out → length v.cut ≡ 64
    → keyed ≡ overlaid (set (set out at (kind_byte v.exact)) (at + 1) v.len) (at + 2) v.cut → after ≡ overlaid keyed (at + 66) (le32 v.suffix) → after ≡ overlaid out at (value_record v)
unfolding le32
record_overlaid out at v keyed after room whole e f =
    let front : Bytes = kind_byte v.exact ∷ v.len ∷ [] in
    let started : set (set out at (kind_byte v.exact)) (at + 1) v.len ≡ overlaid out at front = rw (add-one at) (sets-eq front out at (omega arith)) in
    let named : keyed ≡ overlaid out at (front ++ v.cut) = overlaid_behind out _ keyed front v.cut at (at + 2) refl (omega arith) started e in
    overlaid_behind out keyed after (front ++ v.cut) (le32 v.suffix) at (at + 66) (omega (arith, length-append front v.cut)) (omega arith) named f
