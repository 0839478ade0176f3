-- The records that a walk writes: how long they are, when the call refuses, and what it leaves of the buffer lent to it.
use Rattle.std.specs.Prelude.{ℕ, zero, suc, ◌*◌, ◌/◌, ◌<◌, ◌≤◌, ◌≡◌, Bool, true, false, ◌↔◌, length, take, drop, replicate}
use Rattle.std.proofs.Math.Path.{refl, ap}
use Rattle.std.proofs.Common.{sym, subst, ◌∙◌, arith, length-append, length-take, length-drop}
use mathlib.Core.List.{List, [], ◌∷◌, ◌++◌}
use Rattle.std.proofs.Math.Option.{Option, none, some}
use mathlib.Core.Logic.Iff
use Rattle.std.proofs.Math.ListN.{get_elem?}
use Rattle.std.proofs.lemmas.List.{length-replicate}
use Rattle.std.proofs.Math.Seq.{take-nil, drop-nil}
use Rattle.spec.specs.Bytes.{Bytes, concat, le32, low_first}
use Rattle.spec.specs.Leaves.{Leaf}
use Rattle.spec.specs.Nodes.{read_leaves}
use Rattle.spec.specs.Answer.{written, refuse, success}
use Rattle.spec.specs.Check.{verdict, accepted, check}
use Rattle.spec.specs.Walk.{Stand, stand_at, open_walk}
use Rattle.spec.specs.WalkRecords.{record_size, kind_byte, cut_field, leaf_record, leaf_records, records_from, written_by, walk_records}
use Rattle.theory.specs.Terms.{IsBytes}
use Rattle.theory.proofs.Lists.{le_or_lt, bytes_append, bytes_take, bytes_le32, all_take, all_drop}
use Rattle.theory.proofs.LeafLists.{WellSized, AllWellSized}
use Rattle.theory.specs.Demands.{WalkRefusal, place_refused, Kept}
use Rattle.theory.proofs.OutcomeLaws.{no_written, refuse_answer, success_refused, success_written, success_length, refuse_kept, success_kept}
use Rattle.theory.proofs.AskLaws.{walk_correct}
use Rattle.theory.proofs.RefusalLaws.{walk_refuses, judged_alike}
use Rattle.theory.proofs.RefusalNumbers.{check_accepts, check_cases}
use Rattle.spec.specs.Answer as Answer
use Rattle.spec.specs.Walk as Walk

-- ---- records

-- a cut key's field has 64 bytes
pub field_length : (k : Bytes) → length (cut_field k) ≡ 64
field_length k = omega (arith, length-take 64 (k ++ replicate 64 0), length-append k (replicate 64 0), length-replicate {A = ℕ} 64 0)

-- a number of 32 bits has four bytes
le32_length : (x : ℕ) → length (le32 x) ≡ 4
unfolding le32
le32_length x = refl

-- a record has its size
pub record_length : (l : Leaf) → length (leaf_record l) ≡ record_size
unfolding leaf_record
record_length l = omega (arith, field_length l.cut, length-append (cut_field l.cut) (le32 (low_first l.suffix)), le32_length (low_first l.suffix))

-- so have several, one behind the other
pub records_length : (ls : List Leaf) → length (leaf_records ls) ≡ record_size * length ls
unfolding leaf_records concat
records_length [] = refl
records_length (l ∷ ls) = omega (arith, length-append (leaf_record l) (leaf_records ls), record_length l, records_length ls)

-- the records of as many leaves as a buffer holds fit into it
pub records_fit : (ls : List Leaf) (place room : ℕ) → length (records_from ls place (room / record_size)) ≤ room
records_fit ls place room = omega (arith, records_length (take (room / record_size) (drop place ls)), length-take (room / record_size) (drop place ls))

-- there are no more records than leaves
pub records_few : (ls : List Leaf) (place n : ℕ) → length (records_from ls place n) ≤ record_size * length ls
records_few ls place n = omega (arith, records_length (take n (drop place ls)), length-take n (drop place ls), length-drop place ls)

-- behind the last leaf there is none
none_behind : (ls : List Leaf) (place : ℕ) → get_elem? ls place ≡ none → drop place ls ≡ []
none_behind [] place e = drop-nil place
none_behind (x ∷ ls) zero e = let z : ◌≡◌ {A = ℕ} 0 1 = cc in absurd (omega arith)
none_behind (x ∷ ls) (suc place) e = none_behind ls place e

-- and no record
no_records : (ls : List Leaf) (place n : ℕ) → get_elem? ls place ≡ none → records_from ls place n ≡ []
unfolding leaf_records concat
no_records ls place n e = ap (λ (xs : List Leaf). leaf_records (take n xs)) (none_behind ls place e) ∙ ap leaf_records (take-nil n)

-- ---- records are bytes

bytes_zeros : (n : ℕ) → IsBytes (replicate n 0)
bytes_zeros zero = tt
bytes_zeros (suc n) = (omega arith, bytes_zeros n)

kind_small : (e : Bool) → kind_byte e < 256
kind_small true = omega arith
kind_small false = omega arith

-- a record of a leaf with a key of at most 64 bytes
bytes_record : (n : ℕ) (l : Leaf) → WellSized n l → IsBytes (leaf_record l)
unfolding leaf_record
bytes_record n l w =
    (kind_small l.exact, (omega (arith, w.key.fits), bytes_append (cut_field l.cut) (le32 (low_first l.suffix)) (bytes_take 64 (l.cut ++ replicate 64 0) (bytes_append l.cut (replicate 64 0) w.key.bytes (bytes_zeros 64))) (bytes_le32 (low_first l.suffix))))

bytes_records : (n : ℕ) (ls : List Leaf) → AllWellSized n ls → IsBytes (leaf_records ls)
unfolding leaf_records concat
bytes_records n [] w = tt
bytes_records n (l ∷ ls) w = bytes_append (leaf_record l) (leaf_records ls) (bytes_record n l w.0) (bytes_records n ls w.1)

-- the records of some of the leaves
pub bytes_records_from : (n : ℕ) (ls : List Leaf) → AllWellSized n ls → (place k : ℕ) → IsBytes (records_from ls place k)
bytes_records_from n ls w place k = bytes_records n (take k (drop place ls)) (all_take (WellSized n) k (drop place ls) (all_drop (WellSized n) place ls w))

-- ---- the call

module _ (b : Bytes) (place : ℕ) (out : Bytes) where
  -- what is written, by what the walk says at its place
  records_by : (w : Stand) → open_walk b place ≡ w → walk_records b place out ≡ written_by (read_leaves b) place out w
  unfolding walk_records
  records_by w e = ap (written_by (read_leaves b) place out) e

  -- what a walk that is refused writes
  pub records_refused : (r : ℕ) → open_walk b place ≡ Walk.refused r → walk_records b place out ≡ refuse r out
  unfolding written_by
  records_refused r e = records_by (Walk.refused r) e

  -- what any other writes: the records of the leaves from the place on, of which there are none where the walk is done
  by_leaf : (o : Option Leaf) → get_elem? (read_leaves b) place ≡ o
      → written_by (read_leaves b) place out (elim o [ none ↦ Walk.done | some l ↦ Walk.leaf l ]) ≡ success (records_from (read_leaves b) place (length out / record_size)) out
  unfolding written_by
  by_leaf none e = ap (λ (z : Bytes). success z out) (sym (no_records (read_leaves b) place (length out / record_size) e))
  by_leaf (some l) e = refl

  -- A walk over an accepted image writes the records of the leaves from its place on, of as many as the buffer holds whole.
  pub records_written : verdict b ≡ 0 → place ≤ length (read_leaves b) → walk_records b place out ≡ success (records_from (read_leaves b) place (length out / record_size)) out
  unfolding stand_at
  records_written v h = records_by (stand_at (read_leaves b) place) ((walk_correct b (read_leaves b) v refl).stands place h) ∙ by_leaf (get_elem? (read_leaves b) place) refl

  -- what it writes is a success, unless the walk is refused
  by_stand : {A : Type 0} → ((r : ℕ) → open_walk b place ≡ Walk.refused r → A) → ((k : Bytes) → length k ≤ length out → walk_records b place out ≡ success k out → A) → A
  unfolding written_by leaf_records concat
  by_stand {A} f g = go (open_walk b place) refl
    where
      go : (w : Stand) → open_walk b place ≡ w → A
      go (Walk.refused r) e = f r e
      go (Walk.leaf l) e = g (records_from (read_leaves b) place (length out / record_size)) (records_fit (read_leaves b) place (length out)) (records_by (Walk.leaf l) e)
      go Walk.done e = g [] (omega arith) (records_by Walk.done e)

  -- The call refuses with the number with which the walk refuses to be opened, and with no other.
  pub walk_records_refuses : (r : ℕ) → ((walk_records b place out).answer ≡ Answer.refused r) ↔ WalkRefusal b place r
  walk_records_refuses r = Iff.trans (to, from) (walk_refuses b place r)
    where
      from : open_walk b place ≡ Walk.refused r → (walk_records b place out).answer ≡ Answer.refused r
      from e = (refuse_answer r r out _ (records_refused r e)).1 refl

      to : (walk_records b place out).answer ≡ Answer.refused r → open_walk b place ≡ Walk.refused r
      to h = by_stand (λ q e. e ∙ ap Walk.refused ((refuse_answer q r out _ (records_refused q e)).0 h)) (λ k l e. success_refused k out r _ e h)

  -- After a refusal the buffer has not changed; after success it keeps its length and the bytes behind those written.
  pub walk_records_kept : Kept out (walk_records b place out)
  walk_records_kept = by_stand (λ r e. subst (Kept out) (sym (records_refused r e)) (refuse_kept r out)) (λ k l e. subst (Kept out) (sym e) (success_kept k out l))

  -- What it writes over an image are the records of the image's leaves, which is accepted.
  pub records_answered : (n : ℕ) → (walk_records b place out).answer ≡ written n
      → (verdict b ≡ 0) × (take n (walk_records b place out).final ≡ records_from (read_leaves b) place (length out / record_size)) × (n ≡ length (records_from (read_leaves b) place (length out / record_size)))
  records_answered n h = check_cases b (λ c. over_accepted c) (λ r c. no_written r n out _ (records_refused r ((judged_alike b).walk_refused r c place)) h)
    where
      Answered : Type 0
      Answered = (verdict b ≡ 0) × (take n (walk_records b place out).final ≡ records_from (read_leaves b) place (length out / record_size)) × (n ≡ length (records_from (read_leaves b) place (length out / record_size)))

      at_place : verdict b ≡ 0 → place ≤ length (read_leaves b) → Answered
      at_place v l =
          let w = records_written v l in
          (v, success_written (records_from (read_leaves b) place (length out / record_size)) out n _ w h, success_length (records_from (read_leaves b) place (length out / record_size)) out n _ w h)

      over_accepted : check b ≡ accepted → Answered
      over_accepted c =
          le_or_lt place (length (read_leaves b)) (at_place ((check_accepts b).0 c))
          (λ l. no_written 17 n out _ (records_refused 17 ((walk_refuses b place 17).1 (place_refused c l))) h)
