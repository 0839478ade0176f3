-- What ask, the walk and the printer give over an accepted image; and the reply read where the reply to the i-th question stands.
-- The demands on replies stand on this.
use Rattle.std.specs.Prelude.{ℕ, zero, suc, ◌+◌, ◌<◌, ◌≤◌, ◌≡◌, refl, cond, Bool, true, false, List, [], ◌∷◌, ◌++◌, length, get_or, drop, ltb, eqb}
use Rattle.std.proofs.Common.{ap, ◌∙◌, ap₂, append_assoc, arith, ltb-true, ltb-false, lt-ltb, le-ltb}
use Rattle.std.proofs.Math.Option.{some}
use Rattle.std.proofs.Math.ListN.{get_elem?}
use Rattle.std.proofs.lemmas.List.{length-map}
use Rattle.std.proofs.Math.Seq.{take-append_seam, drop-append_seam}
use Rattle.spec.specs.Bytes.{Bytes, any, bit, concat, le32, from32, ascii}
use Rattle.spec.specs.Keys.{below}
use Rattle.spec.specs.Leaves.{Leaf, real, reals, lowest, highest}
use Rattle.spec.specs.Frame.{read_settings}
use Rattle.spec.specs.Nodes.{read_leaves}
use Rattle.spec.specs.Rules.{Rule, rule, rule_number}
use Rattle.spec.specs.Questions.{Sought, may_hold, point, range, stem_end, begins_with, counted, meets, greater, seek, seek_from, found, Question, QP, QS, QB, QR, QC, Reply, keyless, sought, reply, reply_bytes, replies, read_reply, reply_at, ParsedQuestions, refused, taken, parse_questions, questions_of}
use Rattle.spec.specs.Answer.{Outcome, refuse, success, write}
use Rattle.spec.specs.Check.{verdict}
use Rattle.spec.specs.Ask.{ask}
use Rattle.spec.specs.Walk.{Stand, done, stand_at, open_walk, next_place, next}
use Rattle.spec.specs.Print.{longest_input, decimal, listing, print}
use Rattle.theory.specs.Terms.{IsBytes, Bound, Proper, All, WalkCorrect, Taken}
use Rattle.theory.proofs.Lists.{count_bound, bytes_append, bytes_le32}
use Rattle.theory.proofs.LeafLists.{AllRealSized}
use Rattle.theory.proofs.Rules.{rule_number_range}
use Rattle.theory.proofs.SeekLaws.{sought_possible}
use Rattle.theory.proofs.OutcomeLaws.{success_answer, no_written, write_fits, write_short}
use Rattle.theory.proofs.Frame.{from32_le32}
use Rattle.spec.specs.Questions as Questions
use Rattle.spec.specs.Walk as Walk

-- ---- replies read from reply bytes

read_reply_bytes : (r : Reply) (s : Bytes) → r.number < 4294967296 → read_reply (reply_bytes r ++ s) ≡ r
unfolding read_reply reply_bytes le32
read_reply_bytes r s h =
    let n : from32 (le32 r.number ++ (length r.key ∷ r.key ++ s)) ≡ r.number = from32_le32 r.number (length r.key ∷ r.key ++ s) h in
    let k = take-append_seam r.key s in
    λ i. record { letter = r.letter; number = n i; key = k i }

drop_reply_bytes : (r : Reply) (s : Bytes) → drop (get_or (reply_bytes r ++ s) 7 0 + 8) (reply_bytes r ++ s) ≡ s
unfolding reply_bytes le32
drop_reply_bytes r s =
    let e : length r.key + 8 ≡ suc (suc (suc (suc (suc (suc (suc (suc (length r.key)))))))) = omega arith in
    rw (e, drop-append_seam r.key s)

-- ---- numbers of replies fit 32 bits

bit_small : (b : Bool) → bit b < 4294967296
bit_small true = omega arith
bit_small false = omega arith

seek_place : (i : ℕ) (ls : List Leaf) (start : Bytes) → i + length ls < 4294967295 → (sought (seek_from i ls start)).number < 4294967296
unfolding seek_from sought keyless
seek_place i [] start h = omega arith
seek_place i (l ∷ ls) start h = go (below (highest l) start) (seek_place (suc i) ls start (omega arith))
  where
    go : (b : Bool) → (sought (seek_from (suc i) ls start)).number < 4294967296 → (sought (cond b (seek_from (suc i) ls start) (found i (greater start (lowest l))))).number < 4294967296
    go true ih = ih
    go false ih = omega arith

-- as many leaves with their hash bits struck out
pub reals_length : (H : ℕ) (ls : List Leaf) → length (reals H ls) ≡ length ls
unfolding reals
reals_length H ls = length-map ls (real H)

-- the number of a reply over at most 65,535 leaves
pub number_small : (H : ℕ) (ls : List Leaf) → length ls ≤ 65535 → (q : Question) → (reply H ls q).number < 4294967296
unfolding reply keyless point range begins_with counted seek
number_small H ls h (QP k) = bit_small (any (may_hold H k) ls)
number_small H ls h (QS start) = seek_place 0 (reals H ls) start (omega (arith, reals_length H ls))
number_small H ls h (QB stem) = bit_small (any (meets stem (stem_end stem)) (reals H ls))
number_small H ls h (QR lo hi) = bit_small (any (meets lo hi) (reals H ls))
number_small H ls h (QC lo hi) = omega (arith, count_bound (meets lo hi) (reals H ls), reals_length H ls)

-- The reply that stands i-th is the i-th question's.
pub reply_written : (H : ℕ) (ls : List Leaf) → length ls ≤ 65535 → (i : ℕ) (qs : List Question) (q : Question) (t : Bytes) → get_elem? qs i ≡ some q → reply_at i (replies H ls qs ++ t) ≡ reply H ls q
unfolding reply_at replies concat
reply_written H ls h i [] q t e = let z : ◌≡◌ {A = ℕ} 0 1 = cc in absurd (omega arith)
reply_written H ls h zero (p ∷ qs) q t e =
    let same : p ≡ q = cc in
    ap read_reply (append_assoc (reply_bytes (reply H ls p)) (replies H ls qs) t) ∙ read_reply_bytes (reply H ls p) (replies H ls qs ++ t) (number_small H ls h p) ∙ ap (reply H ls) same
reply_written H ls h (suc i) (p ∷ qs) q t e =
    ap (λ (z : Bytes). reply_at i (drop (get_or z 7 0 + 8) z)) (append_assoc (reply_bytes (reply H ls p)) (replies H ls qs) t)
    ∙ ap (reply_at i) (drop_reply_bytes (reply H ls p) (replies H ls qs ++ t))
    ∙ reply_written H ls h i qs q t e

-- ---- replies are bytes

bytes_reply : (r : Reply) → r.letter < 256 → Bound r.key → IsBytes (reply_bytes r)
unfolding reply_bytes
bytes_reply r h q = (omega arith, (omega arith, (h, bytes_append (le32 r.number) (length r.key ∷ r.key) (bytes_le32 r.number) (omega (arith, q.fits), q.bytes))))

-- a reply without a key
no_key : Bound []
no_key = record { fits = omega arith; bytes = tt }

-- a point's key is one byte
rule_key : (r : Rule) → Bound (rule_number r ∷ [])
rule_key r = record { fits = omega arith; bytes = (omega (arith, (rule_number_range r).1), tt) }

bytes_reply_to : (H n : ℕ) (ls : List Leaf) → AllRealSized n (reals H ls) → (q : Question) → Proper q → IsBytes (reply_bytes (reply H ls q))
unfolding reply keyless sought seek
bytes_reply_to H n ls o (QP k) p = bytes_reply (reply H ls (QP k)) (omega arith) (rule_key (rule H ls k))
bytes_reply_to H n ls o (QB stem) p = bytes_reply (reply H ls (QB stem)) (omega arith) no_key
bytes_reply_to H n ls o (QR lo hi) p = bytes_reply (reply H ls (QR lo hi)) (omega arith) no_key
bytes_reply_to H n ls o (QC lo hi) p = bytes_reply (reply H ls (QC lo hi)) (omega arith) no_key
bytes_reply_to H n ls o (QS start) p = go (seek (reals H ls) start) refl
  where
    go : (s : Sought) → seek (reals H ls) start ≡ s → IsBytes (reply_bytes (sought s))
    go Questions.none e = bytes_reply (sought Questions.none) (omega arith) no_key
    go (found j r) e = let k = (sought_possible start p n 0 (reals H ls) o j r e).0 in bytes_reply (sought (found j r)) (omega arith) (record { fits = k.fits; bytes = k.bytes })

-- The replies over the leaves of an accepted image are bytes, for questions that are taken.
pub bytes_replies : (H n : ℕ) (ls : List Leaf) → AllRealSized n (reals H ls) → (qs : List Question) → All Proper qs → IsBytes (replies H ls qs)
unfolding replies concat
bytes_replies H n ls o [] p = tt
bytes_replies H n ls o (q ∷ qs) p = bytes_append (reply_bytes (reply H ls q)) (replies H ls qs) (bytes_reply_to H n ls o q p.0) (bytes_replies H n ls o qs p.1)

-- ---- ask

questions_of_file : (file : Bytes) (qs : List Question) → parse_questions file ≡ taken qs → questions_of file ≡ qs
unfolding questions_of
questions_of_file file qs h = ap {B = List Question} (λ (a : ParsedQuestions). elim a [ refused r ↦ [] | taken qs ↦ qs ]) h

-- ask, by what its tests say
pub ask_is : (b file out : Bytes) (v : ℕ) (a : ParsedQuestions) → verdict b ≡ v → parse_questions file ≡ a
    → ask b file out ≡ elim (eqb v 0) [ false ↦ refuse v out | true ↦ elim a [ refused r ↦ refuse r out | taken qs ↦ write 25 (replies (read_settings b).hash_width (read_leaves b) qs) out ] ]
unfolding ask
ask_is b file out v a e f =
    ap₂ {C = Outcome} (λ (v : ℕ) (a : ParsedQuestions). elim (eqb v 0) [ false ↦ refuse v out | true ↦ elim a [ refused r ↦ refuse r out | taken qs ↦ write 25 (replies (read_settings b).hash_width (read_leaves b) qs) out ] ]) e f

-- what ask does with a file that it takes
pub record Answered (b file out : Bytes) : Type 0 where
  pub questions_are : parse_questions file ≡ taken (questions_of file)
  pub room : length (replies (read_settings b).hash_width (read_leaves b) (questions_of file)) ≤ length out
  pub writes : ask b file out ≡ success (replies (read_settings b).hash_width (read_leaves b) (questions_of file)) out

module _ (b file out : Bytes) (v : verdict b ≡ 0) where
  -- a file that is taken is answered
  pub ask_answers : Taken b file out → Answered b file out
  ask_answers t = one (parse_questions file) refl
    where
      two : (qs : List Question) → parse_questions file ≡ taken qs → (s : Bool) → ltb (length out) (length (replies (read_settings b).hash_width (read_leaves b) qs)) ≡ s → Answered b file out
      two qs e true f = no_written 25 t.0 out (ask b file out) (ask_is b file out 0 (taken qs) v e ∙ write_short 25 (replies (read_settings b).hash_width (read_leaves b) qs) out (ltb-true (length out) (length (replies (read_settings b).hash_width (read_leaves b) qs)) f)) t.1
      two qs e false f =
          let q = questions_of_file file qs e in
          let r = ltb-false (length out) (length (replies (read_settings b).hash_width (read_leaves b) qs)) f in
          let w = ask_is b file out 0 (taken qs) v e ∙ write_fits 25 (replies (read_settings b).hash_width (read_leaves b) qs) out r in
          record { questions_are = rw q e; room = rw q r; writes = rw q w }

      one : (a : ParsedQuestions) → parse_questions file ≡ a → Answered b file out
      one (refused r) e = no_written r t.0 out (ask b file out) (ask_is b file out 0 (refused r) v e) t.1
      one (taken qs) e = two qs e (ltb (length out) (length (replies (read_settings b).hash_width (read_leaves b) qs))) refl

  -- a file is taken where none of 21 to 25 applies
  pub ask_takes : (qs : List Question) → parse_questions file ≡ taken qs → length (replies (read_settings b).hash_width (read_leaves b) qs) ≤ length out → Taken b file out
  ask_takes qs e h =
      let a : List ℕ = replies (read_settings b).hash_width (read_leaves b) qs in
      (length a, ap (λ (o : Outcome). o.answer) (ask_is b file out 0 (taken qs) v e ∙ write_fits 25 a out h) ∙ success_answer a out)

-- ---- the walk

-- the walk opened at a place, by what its tests say
pub walk_is : (b : Bytes) (place v : ℕ) (ls : List Leaf) → verdict b ≡ v → read_leaves b ≡ ls
    → open_walk b place ≡ elim (eqb v 0) [ false ↦ Walk.refused v | true ↦ elim (ltb (length ls) place) [ true ↦ Walk.refused 17 | false ↦ stand_at ls place ] ]
unfolding open_walk
walk_is b place v ls e f =
    ap₂ {C = Stand} (λ (v : ℕ) (ls : List Leaf). elim (eqb v 0) [ false ↦ Walk.refused v | true ↦ elim (ltb (length ls) place) [ true ↦ Walk.refused 17 | false ↦ stand_at ls place ] ]) e f

-- where a move leads
pub step_is : (b : Bytes) (place : ℕ) (t : Bool) → ltb place (length (read_leaves b)) ≡ t → next b place ≡ open_walk b (elim t [ true ↦ suc place | false ↦ place ])
unfolding next next_place
step_is b place t e = ap {B = Stand} (λ (t : Bool). open_walk b (elim t [ true ↦ suc place | false ↦ place ])) e

-- behind the last leaf
stand_done : (ls : List Leaf) → stand_at ls (length ls) ≡ done
unfolding stand_at
stand_done [] = refl
stand_done (l ∷ ls) = stand_done ls

module _ (b : Bytes) (ls : List Leaf) (v : verdict b ≡ 0) (e : read_leaves b ≡ ls) where
  stands : (place : ℕ) → place ≤ length ls → open_walk b place ≡ stand_at ls place
  stands place h = walk_is b place 0 ls v e ∙ ap {B = Stand} (λ (t : Bool). elim t [ true ↦ Walk.refused 17 | false ↦ stand_at ls place ]) (le-ltb (length ls) place h)

  -- the walk over an accepted image
  pub walk_correct : WalkCorrect b ls
  walk_correct =
      let n : length (read_leaves b) ≡ length ls = ap length e in
      let done_at : open_walk b (length ls) ≡ done = stands (length ls) (omega arith) ∙ stand_done ls in
      record {
        stands = stands;
        goes_on = λ place h. step_is b place true (lt-ltb place (length (read_leaves b)) (omega arith)) ∙ stands (suc place) h;
        ends = (done_at, step_is b (length ls) false (le-ltb (length ls) (length (read_leaves b)) (omega arith)) ∙ done_at);
        beyond = λ place h. walk_is b place 0 ls v e ∙ ap {B = Stand} (λ (t : Bool). elim t [ true ↦ Walk.refused 17 | false ↦ stand_at ls place ]) (lt-ltb (length ls) place h);
      }

-- ---- the printer

-- the printer's text, by what its tests say
print_is : (b : Bytes) (t : Bool) (v : ℕ) → ltb longest_input (length b) ≡ t → verdict b ≡ v
    → print b ≡ elim t [ true ↦ ascii "too long" ++ (10 ∷ []) | false ↦ elim (eqb v 0) [ false ↦ ascii "refused " ++ decimal v ++ (10 ∷ []) | true ↦ listing (read_leaves b) ] ]
unfolding print
print_is b t v e f =
    ap₂ {C = Bytes} (λ (t : Bool) (v : ℕ). elim t [ true ↦ ascii "too long" ++ (10 ∷ []) | false ↦ elim (eqb v 0) [ false ↦ ascii "refused " ++ decimal v ++ (10 ∷ []) | true ↦ listing (read_leaves b) ] ]) e f

-- over an accepted image of at most 65,536 bytes
pub print_correct : (b : Bytes) (ls : List Leaf) → verdict b ≡ 0 → read_leaves b ≡ ls → length b ≤ longest_input → print b ≡ listing ls
print_correct b ls v e h = print_is b false 0 (le-ltb longest_input (length b) h) v ∙ ap listing e
