-- The three demands hold, and what is said of the calls over an accepted image.
use Rattle.std.specs.Prelude.{ℕ, suc, ◌/◌, ◌+◌, ◌<◌, ◌≤◌, ◌≡◌, true, false, List, [], ◌∷◌, ◌++◌, ◌↔◌, length, get_or, take, drop, ltb, eqb}
use Rattle.std.proofs.Math.Path.{refl}
use Rattle.std.proofs.Common.{sym, ap, ap₂, subst, ◌∙◌, true≢false, arith}
use Rattle.std.proofs.Math.Option.{some}
use mathlib.Core.Logic.Iff
use Rattle.spec.specs.Bytes.{Bytes, count, begins}
use Rattle.spec.specs.Keys.{below, write_keys, keys_of, within}
use Rattle.spec.specs.Leaves.{Leaf, leaves, reals}
use Rattle.spec.specs.Image.{Settings, slot_width, image}
use Rattle.spec.specs.Frame.{read_settings}
use Rattle.spec.specs.Nodes.{read_leaves}
use Rattle.spec.specs.Rules.{Rule, rule_number, applies, rule}
use Rattle.spec.specs.Questions.{point, range, begins_with, counted, seek, Sought, found, Question, QP, QS, QB, QR, QC, Reply, keyless, sought, reply, replies, reply_at, taken, parse_questions, questions_of, question_at}
use Rattle.spec.specs.Answer.{success, refuse, write, Outcome}
use Rattle.spec.specs.Build.{in_range, build}
use Rattle.spec.specs.Check.{verdict, accepted, check}
use Rattle.spec.specs.Struck.{struck}
use Rattle.spec.specs.Ask.{ask}
use Rattle.theory.specs.Terms.{IsBytes, In, Bound, KeyList, Proper, reply_alone}
use Rattle.theory.proofs.Lists.{all_at}
use Rattle.theory.proofs.LeafLists.{Realizable, AllRealSized, leaf_equal}
use Rattle.theory.proofs.KeyLeaves.{leaves_possible_keys, reals_none, reals_leaves, reals_realizable}
use Rattle.theory.proofs.Choices.{HasLeaves, has_leaves_exactly, has_leaves_length}
use Rattle.theory.proofs.RangeLaws.{CountCorrect, point_stored, point_held, point_denied, range_held, range_denied, count_correct}
use Rattle.theory.proofs.Rules.{one_rule, point_rule, rule_number_injective}
use Rattle.theory.proofs.Stems.{begins_held, begins_denied}
use Rattle.theory.proofs.SeekLaws.{SeekCorrect, seek_none, seek_found}
use Rattle.theory.proofs.ReadBack.{read_back, settings_back}
use Rattle.theory.proofs.KeyFiles.{keys_exactly, bytes_write_keys}
use Rattle.theory.proofs.QuestionFiles.{questions_exactly}
use Rattle.theory.specs.Demands.{BuildsWith, Builds, HasInRange, HasWithStem, Count, NextKey, None, Agree, Demand1, Demand2, RulesCorrect, ListsTold, StoredTold, RepliesCorrect, SameRealLeaves, OtherSettingsEqual, SameAnswers, WalkRefusal, refused_image, place_refused, Demand3, AcceptedCalls, Demands}
use Rattle.theory.proofs.OneQuestionLaws.{same_one, one_refuses, one_replies, one_rule_byte, seek_kept}
use Rattle.theory.proofs.OutcomeLaws.{final_is, write_fits, success_written, success_answer}
use Rattle.theory.proofs.BuildLaws.{built_from, built_fits, keys_of_list, in_range_exactly, build_writes, length_builds, built_length, build_writes_image}
use Rattle.theory.proofs.AskLaws.{bytes_replies, reply_written, Answered, ask_answers, ask_takes, walk_correct, print_correct}
use Rattle.theory.proofs.ImageBytes.{image_bytes}
use Rattle.theory.proofs.RefusalNumbers.{check_accepts, check_refuses}
use Rattle.spec.specs.Walk.{Stand, stand_at, open_walk, next_place, next}
use Rattle.spec.specs.WalkRecords.{record_size, records_from, written_by, walk_records}
use Rattle.spec.specs.OneQuestion.{reply_number}
use Rattle.spec.specs.Print.{listing}
use Rattle.theory.proofs.WalkRecordLaws.{bytes_records_from, records_written, records_answered, walk_records_refuses, walk_records_kept}
use Rattle.theory.proofs.LengthBounds.{leaves_are, settings_are, real_sizes, length_short, build_short, ask_short, walk_records_short}
use Rattle.theory.proofs.EntryBound.{entries_bound}
use Rattle.theory.proofs.RefusalLaws.{length_refuses, build_refuses, ask_refuses, ask_writes_replies, walk_refuses, next_refuses, judged_alike, build_kept, ask_kept}
use Rattle.theory.proofs.LiteralImage.{Buildable}
use Rattle.theory.proofs.AcceptImage.{image_accepted}
use Rattle.theory.proofs.Struck.{struck_accepted, struck_leaves, struck_settings, struck_bytes}
use Rattle.spec.specs.Answer as Answer
use Rattle.spec.specs.Questions as Questions
use Rattle.spec.specs.Walk as Walk
use Rattle.spec.specs.Questions as Questions
use Rattle.theory.proofs.Accept as Accept

-- ---- leaf lists that agree

-- leaf lists that agree are equal
agree_same : (ls ms : List Leaf) → Agree ls ms → ls ≡ ms
agree_same [] [] a = refl
agree_same [] (m ∷ ms) a = absurd a
agree_same (l ∷ ls) [] a = absurd a
agree_same (l ∷ ls) (m ∷ ms) a = ap₂ ◌∷◌ (leaf_equal l m a.0.0 a.0.1 a.0.2) (agree_same ls ms a.1)

-- and a leaf list agrees with itself
agree_self : (ls : List Leaf) → Agree ls ls
agree_self [] = tt
agree_self (l ∷ ls) = ((refl, refl, refl), agree_self ls)

-- ---- images that lists build

-- a list that builds b, with settings st
module _ (st : Settings) (list b : Bytes) (w : BuildsWith st list b) where
  list_answer : (build list st (length b) w.output).answer ≡ Answer.written (length b)
  list_answer = ap (λ (o : Outcome). o.answer) w.writes ∙ success_answer b w.output

  list_keys : KeyList list (keys_of list)
  list_keys = (build_writes_image list w.bytes st (length b) w.output (length b) list_answer).1

  list_image : b ≡ image st (leaves st.hash_width st.real_width (keys_of list))
  list_image =
      sym (success_written b w.output (length b) (build list st (length b) w.output) w.writes list_answer)
      ∙ (build_writes_image list w.bytes st (length b) w.output (length b) list_answer).2

  list_fits : Buildable st (leaves st.hash_width st.real_width (keys_of list))
  list_fits = built_fits st (keys_of list) (built_from st list (keys_of list) w.range list_keys)

  list_settings : read_settings b ≡ st
  list_settings = ap read_settings list_image ∙ settings_back st (leaves st.hash_width st.real_width (keys_of list))

  -- its leaves are read back from the image, which the check accepts
  list_read : read_leaves b ≡ leaves st.hash_width st.real_width (keys_of list)
  list_read = ap read_leaves list_image ∙ read_back st (leaves st.hash_width st.real_width (keys_of list)) list_fits

  list_accepted : verdict b ≡ 0
  list_accepted = ap verdict list_image ∙ image_accepted st (leaves st.hash_width st.real_width (keys_of list)) list_fits

-- A list that builds an image has its cut keys and real bits.
same_real_leaves : (list b : Bytes) → Builds list b → SameRealLeaves list b
same_real_leaves list b w =
    let st : Settings = w.0 in
    let ks : List Bytes = keys_of list in
    let s : read_settings b ≡ st = list_settings st list b w.1 in
    let e : leaves 0 (read_settings b).real_width ks ≡ reals (read_settings b).hash_width (read_leaves b) =
    ap (λ (su : Settings). leaves 0 su.real_width ks) s
    ∙ sym (reals_leaves st.hash_width st.real_width ks)
    ∙ sym (ap₂ (λ (su : Settings) (ls : List Leaf). reals su.hash_width ls) s (list_read st list b w.1)) in
    (w.1.bytes, list_keys st list b w.1, subst (Agree (leaves 0 (read_settings b).real_width ks)) e (agree_self (leaves 0 (read_settings b).real_width ks)))

-- a key list builds its image
key_list_builds : (st : Settings) (list : Bytes) (ks : List Bytes) → IsBytes list → in_range st ≡ true → KeyList list ks → (out : Bytes) → length (image st (leaves st.hash_width st.real_width ks)) ≤ length out
    → build list st (length (image st (leaves st.hash_width st.real_width ks))) out ≡ success (image st (leaves st.hash_width st.real_width ks)) out
key_list_builds st list ks w r k out h = build_writes list st ks out r ((keys_exactly list ks w).1 k) ∙ write_fits 7 (image st (leaves st.hash_width st.real_width ks)) out h

-- the reply written for the i-th question
reply_is : (b file out : Bytes) (st : Settings) (ls : List Leaf) → Answered b file out → read_settings b ≡ st → read_leaves b ≡ ls → length ls ≤ 65535 → (i : ℕ) (q : Question) → question_at file i ≡ some q → reply_at i (ask b file out).final ≡ reply st.hash_width ls q
unfolding question_at
reply_is b file out st ls a d e h i q f =
    let r : Bytes = replies (read_settings b).hash_width (read_leaves b) (questions_of file) in
    ap (reply_at i) (final_is r out (ask b file out) a.writes ∙ ap₂ (λ (st : Settings) (z : List Leaf). replies st.hash_width z (questions_of file) ++ drop (length r) out) d e)
    ∙ reply_written st.hash_width ls h i (questions_of file) q (drop (length r) out) f

-- a seek's reply is none exactly when the seek found none; places are below 65,535
none_is : (s : Sought) → ((j : ℕ) (r : Bytes) → s ≡ found j r → j < 65535) → None (sought s) ↔ (s ≡ Questions.none)
unfolding sought keyless
none_is Questions.none h = (λ z. refl, λ z. (refl, refl))
none_is (found j r) h = (
  λ z. absurd (omega (arith, h j r refl, z.0)),
  λ z. let y : ◌≡◌ {A = ℕ} 0 1 = cc in absurd (omega arith),
)

-- ---- the reply to each question

module _ (h : ℕ) (ls : List Leaf) where
  reply_point : (k : Bytes) → (reply h ls (QP k)).number ≡ point h ls k
  unfolding reply
  reply_point k = refl

  reply_rule : (k : Bytes) → (reply h ls (QP k)).key ≡ rule_number (rule h ls k) ∷ []
  unfolding reply
  reply_rule k = refl

  reply_range : (lo hi : Bytes) → (reply h ls (QR lo hi)).number ≡ range (reals h ls) lo hi
  unfolding reply keyless
  reply_range lo hi = refl

  reply_stem : (stem : Bytes) → (reply h ls (QB stem)).number ≡ begins_with (reals h ls) stem
  unfolding reply keyless
  reply_stem stem = refl

  reply_count : (lo hi : Bytes) → (reply h ls (QC lo hi)).number ≡ counted (reals h ls) lo hi
  unfolding reply keyless
  reply_count lo hi = refl

  reply_seek : (start : Bytes) → reply h ls (QS start) ≡ sought (seek (reals h ls) start)
  unfolding reply
  reply_seek start = refl

sought_found : (j : ℕ) (r : Bytes) → sought (found j r) ≡ record { letter = 83; number = j; key = r }
unfolding sought
sought_found j r = refl

-- ---- demand 1

build_bytes : (list : Bytes) → IsBytes list → (st : Settings) (stated : ℕ) (out : Bytes) (n : ℕ) → (build list st stated out).answer ≡ Answer.written n → IsBytes (take n (build list st stated out).final)
build_bytes list w st stated out n h =
    let i = build_writes_image list w st stated out n h in
    rw i.2 (image_bytes st (leaves st.hash_width st.real_width (keys_of list)) (built_fits st (keys_of list) (built_from st list (keys_of list) i.0 i.1)))

ask_bytes : (b file : Bytes) → IsBytes b → IsBytes file → (out : Bytes) (n : ℕ) → (ask b file out).answer ≡ Answer.written n → IsBytes (take n (ask b file out).final)
ask_bytes b file s w out n h =
    let r = ask_writes_replies b file out n h in
    let o = Accept.accepted_is_image b s ((check_accepts b).0 r.0) in
    let q = (questions_exactly file (questions_of file) w).0 r.1 in
    rw (r.2, settings_are b o, leaves_are b o) (bytes_replies o.settings.hash_width o.settings.real_width o.leaves (real_sizes b o) (questions_of file) q.each)

walk_records_bytes : (b : Bytes) → IsBytes b → (place : ℕ) (out : Bytes) (n : ℕ) → (walk_records b place out).answer ≡ Answer.written n → IsBytes (take n (walk_records b place out).final)
walk_records_bytes b s place out n h =
    let w = records_answered b place out n h in
    let o = Accept.accepted_is_image b s w.0 in
    rw (w.1, leaves_are b o) (bytes_records_from (slot_width o.settings) o.leaves o.fits.well_sized place (length out / record_size))

-- Demand 1.
pub demand_1 : Demand1
demand_1 = record {
  length_refuses = length_refuses;
  build_refuses = build_refuses;
  length_builds = length_builds;
  built_length = built_length;
  entries_bound = entries_bound;
  check_refuses = check_refuses;
  ask_refuses = ask_refuses;
  walk_refuses = walk_refuses;
  next_refuses = next_refuses;
  walk_records_refuses = walk_records_refuses;
  build_kept = build_kept;
  ask_kept = ask_kept;
  walk_records_kept = walk_records_kept;
  build_bytes = build_bytes;
  ask_bytes = ask_bytes;
  walk_records_bytes = walk_records_bytes;
  length_short = length_short;
  build_short = build_short;
  ask_short = ask_short;
  walk_records_short = walk_records_short;
}

-- ---- demand 2

-- Demand 2.
pub demand_2 : Demand2
demand_2 = record {
  layout = λ st list b w. list_image st list b w;
  built = key_list_builds;
  read_back = λ st list b w. (list_read st list b w, list_settings st list b w);
  all_replies = λ st list b w file out t.
      (ask_answers b file out (list_accepted st list b w) t).writes ∙ ap₂ (λ (su : Settings) (z : List Leaf). success (replies su.hash_width z (questions_of file)) out) (list_settings st list b w) (list_read st list b w);
  each_reply = λ st list b w file out t i q e.
      reply_is b file out st (leaves st.hash_width st.real_width (keys_of list)) (ask_answers b file out (list_accepted st list b w) t) (list_settings st list b w) (list_read st list b w) (list_fits st list b w).few i q e;
  walk = λ st list b w. walk_correct b (leaves st.hash_width st.real_width (keys_of list)) (list_accepted st list b w) (list_read st list b w);
  records = λ st list b w place h out.
      let e = list_read st list b w in
      records_written b place out (list_accepted st list b w) (omega (arith, ap length e)) ∙ ap (λ (z : List Leaf). success (records_from z place (length out / record_size)) out) e;
  print = λ st list b w h. print_correct b (leaves st.hash_width st.real_width (keys_of list)) (list_accepted st list b w) (list_read st list b w) h;
}

-- ---- demand 3

-- an accepted image without hash bits, as the laws of acceptance give it
module _ (b : Bytes) (o : Accept.ImageOfLeaves b) (no-hash-width : o.settings.hash_width ≡ 0) where
  -- its leaves have real bits alone
  no_hash : reals o.settings.hash_width o.leaves ≡ o.leaves
  no_hash = ap (λ (h : ℕ). reals h o.leaves) no-hash-width ∙ reals_none o.leaves

  good : Realizable o.settings.real_width o.leaves
  good = subst (Realizable o.settings.real_width) no_hash (reals_realizable o.settings.hash_width o.settings.real_width o.leaves o.fits.realizable)

  sized : AllRealSized o.settings.real_width o.leaves
  sized = subst (AllRealSized o.settings.real_width) no_hash (real_sizes b o)

  -- a list that builds the image has its leaves
  list_has : (list : Bytes) → Builds list b → HasLeaves o.settings.real_width (keys_of list) o.leaves
  list_has list w =
      let x = list_keys w.0 list b w.1 in
      let s : w.0 ≡ o.settings = sym (list_settings w.0 list b w.1) ∙ settings_are b o in
      let l : leaves w.0.hash_width w.0.real_width (keys_of list) ≡ o.leaves = sym (list_read w.0 list b w.1) ∙ leaves_are b o in
      record { keys = x.each; up = x.up; same_leaves = ap₂ (λ (h n : ℕ). leaves h n (keys_of list)) (sym (ap (λ (z : Settings). z.hash_width) s ∙ no-hash-width)) (sym (ap (λ (z : Settings). z.real_width) s)) ∙ l }

  -- a list of keys that have the image's leaves builds it
  list_builds : (list : Bytes) → IsBytes list → KeyList list (keys_of list) → leaves 0 o.settings.real_width (keys_of list) ≡ o.leaves → Builds list b
  list_builds list small k e =
      let st : Settings = o.settings in
      let r : in_range st ≡ true = (in_range_exactly st).1 (o.fits.version_known, o.fits.dense_range, o.fits.real_range, o.fits.hash_range) in
      let i : image st (leaves st.hash_width st.real_width (keys_of list)) ≡ b = ap (λ (h : ℕ). image st (leaves h st.real_width (keys_of list))) no-hash-width ∙ ap (image st) e ∙ sym o.image_is in
      let x : build list st (length b) b ≡ success b b = subst (λ (z : Bytes). build list st (length z) b ≡ success z b) i (key_list_builds st list (keys_of list) small r k b (omega (arith, ap length i))) in
      (st, record { bytes = small; range = r; output = b; room = omega arith; writes = x }, ap (λ (z : Settings). z.version) (sym (settings_are b o)))

  -- keys that have the image's leaves, as a list, build it
  keys_build : (ks : List Bytes) → HasLeaves o.settings.real_width ks o.leaves → Builds (write_keys ks) b × (keys_of (write_keys ks) ≡ ks)
  keys_build ks w =
      let k : KeyList (write_keys ks) ks = record { bytes = refl; each = w.keys; up = w.up; few = omega (arith, o.fits.few, has_leaves_length ks o.leaves w) } in
      let small : IsBytes (write_keys ks) = bytes_write_keys ks w.keys in
      let e : keys_of (write_keys ks) ≡ ks = keys_of_list (write_keys ks) ks ((keys_exactly (write_keys ks) ks small).1 k) in
      (list_builds (write_keys ks) small (rw e k) (rw e w.same_leaves), e)

  -- some list builds it
  built_by : (list : Bytes) × Builds list b
  built_by = let ks = (has_leaves_exactly o.settings.real_width o.leaves).1 (good, sized) in (write_keys ks.0, (keys_build ks.0 ks.1).0)

  -- what holds of every list, or of some, as keys and as bytes
  every : (P : List Bytes → Type 0) → ((ks : List Bytes) → HasLeaves o.settings.real_width ks o.leaves → P ks) ↔ ((list : Bytes) → Builds list b → P (keys_of list))
  every P = (
    λ f list w. f (keys_of list) (list_has list w),
    λ f ks w. let x = keys_build ks w in subst P x.1 (f (write_keys ks) x.0),
  )

  some_list : (P : List Bytes → Type 0) → ((ks : List Bytes) × HasLeaves o.settings.real_width ks o.leaves × P ks) ↔ ((list : Bytes) × Builds list b × P (keys_of list))
  some_list P = (
    λ w. let x = keys_build w.0 w.1 in (write_keys w.0, x.0, subst P (sym x.1) w.2),
    λ w. (keys_of w.0, list_has w.0 w.1, w.2),
  )

  -- a count and a seek over the leaves, of the lists that build the image
  count_lists : (lo hi : Bytes) (c : ℕ) → CountCorrect o.settings.real_width o.leaves lo hi c → Count b lo hi c
  count_lists lo hi c w = record {
    reached = (some_list (λ ks. count (within lo hi) ks ≡ c)).0 w.reached;
    most = (every (λ ks. count (within lo hi) ks ≤ c)).0 w.most;
    near = (every (λ ks. c ≤ count (within lo hi) ks + 2)).0 w.near;
  }

  found_lists : (start : Bytes) (place : ℕ) (key : Bytes) → SeekCorrect o.settings.real_width o.leaves start place key → NextKey b start place key
  found_lists start place key w = record {
    after = w.after;
    held = (some_list (λ ks. In key ks)).0 w.held;
    smallest = (every (λ ks. (k : Bytes) → In k ks → below k start ≡ false → below k key ≡ false)).0 w.smallest;
    placed = (every (λ ks. In key ks → (place < length ks) × (get_or ks place [] ≡ key))).0 w.placed;
  }

  -- a place is below 65,535
  found_place : (start : Bytes) (place : ℕ) (key : Bytes) → SeekCorrect o.settings.real_width o.leaves start place key → place < 65535
  found_place start place key w =
      let h = w.held in
      omega (arith, (w.placed h.0 h.1 h.2).0, has_leaves_length h.0 o.leaves h.1, o.fits.few)

  -- a seek from a start that is not none
  found_at : (start : Bytes) → Bound start → (j : ℕ) (r : Bytes) → seek o.leaves start ≡ found j r → SeekCorrect o.settings.real_width o.leaves start j r
  found_at start p j r h = seek_found o.leaves start good sized p j r h

  -- a seek that is not none
  found_reply : (start : Bytes) → Bound start → (None (sought (seek o.leaves start)) → ⊥)
      → NextKey b start (sought (seek o.leaves start)).number (sought (seek o.leaves start)).key
  found_reply start p f = go (seek o.leaves start) refl f
    where
      go : (s : Sought) → seek o.leaves start ≡ s → (None (sought s) → ⊥) → NextKey b start (sought s).number (sought s).key
      go Questions.none e f = absurd (f ((none_is Questions.none (λ j r h. let z : ◌≡◌ {A = ℕ} 0 1 = cc in absurd (omega arith))).1 refl))
      go (found j r) e f = rw (sought_found j r) (found_lists start j r (found_at start p j r e))

-- an accepted image, a question file that is taken, and what ask writes
module _ (b : Bytes) (o : Accept.ImageOfLeaves b) (file out : Bytes) (small : IsBytes file) (a : Answered b file out) where
  proper : (i : ℕ) (q : Question) → question_at file i ≡ some q → Proper q
  unfolding question_at
  proper i q e = all_at Proper (questions_of file) i q ((questions_exactly file (questions_of file) small).0 a.questions_are).each e

  reply_on : (i : ℕ) (q : Question) → question_at file i ≡ some q → reply_at i (ask b file out).final ≡ reply o.settings.hash_width o.leaves q
  reply_on i q e = reply_is b file out o.settings o.leaves a (settings_are b o) (leaves_are b o) o.fits.few i q e

  number_on : (i : ℕ) (q : Question) → question_at file i ≡ some q → (reply_at i (ask b file out).final).number ≡ (reply o.settings.hash_width o.leaves q).number
  number_on i q e = ap (λ (r : Reply). r.number) (reply_on i q e)

  -- a point's key is the byte of one rule exactly
  rule_on : (i : ℕ) (k : Bytes) → question_at file i ≡ some (QP k) → (reply_at i (ask b file out).final).key ≡ rule_number (rule o.settings.hash_width o.leaves k) ∷ []
  rule_on i k e = ap (λ (r : Reply). r.key) (reply_on i (QP k) e) ∙ reply_rule o.settings.hash_width o.leaves k

  rule_exactly : (k : Bytes) (r : Rule) → (rule_number (rule o.settings.hash_width o.leaves k) ∷ [] ≡ rule_number r ∷ []) ↔ (applies (read_settings b).hash_width (read_leaves b) k r ≡ true)
  rule_exactly k r =
      let w = one_rule o.settings.hash_width o.leaves o.fits.realizable o.fits.well_sized k r in
      rw (settings_are b o, leaves_are b o) (
        λ h. w.1 (rule_number_injective (rule o.settings.hash_width o.leaves k) r (cc)),
        λ h. ap (λ (r : Rule). rule_number r ∷ []) (w.0 h),
      )

  rules_valid : RulesCorrect b file (ask b file out).final
  rules_valid = record {
    decided = λ i k e. (
      rule o.settings.hash_width o.leaves k,
      rule_on i k e,
      number_on i (QP k) e ∙ reply_point o.settings.hash_width o.leaves k ∙ point_rule o.settings.hash_width o.leaves o.fits.realizable o.fits.well_sized k (proper i (QP k) e).fits,
    );
    rule = λ i k e r. rw (rule_on i k e) (rule_exactly k r);
  }

  -- a stored key is never denied by a point
  stored_key : (i : ℕ) (k : Bytes) → question_at file i ≡ some (QP k) → (list : Bytes) → Builds list b → In k (keys_of list) → (reply_at i (ask b file out).final).number ≡ 1
  stored_key i k e list w m =
      let st : Settings = w.0 in
      let x = list_keys st list b w.1 in
      let s : o.settings ≡ st = sym (settings_are b o) ∙ list_settings st list b w.1 in
      let l : o.leaves ≡ leaves st.hash_width st.real_width (keys_of list) = sym (leaves_are b o) ∙ list_read st list b w.1 in
      number_on i (QP k) e ∙ reply_point o.settings.hash_width o.leaves k ∙ ap₂ (λ (su : Settings) (ls : List Leaf). point su.hash_width ls k) s l
      ∙ point_stored (list_fits st list b w.1).well_sized x.each (leaves_possible_keys st.hash_width st.real_width (keys_of list) x.each) m

  -- an image c without hash bits whose leaves are the image's with their hash bits struck out
  module _ (c : Bytes) (p : Accept.ImageOfLeaves c) (no-hash-width : p.settings.hash_width ≡ 0) (same : reals o.settings.hash_width o.leaves ≡ p.leaves) where
    range_on : (i : ℕ) (lo hi : Bytes) → question_at file i ≡ some (QR lo hi) → (reply_at i (ask b file out).final).number ≡ range p.leaves lo hi
    range_on i lo hi e = number_on i (QR lo hi) e ∙ reply_range o.settings.hash_width o.leaves lo hi ∙ ap (λ (ls : List Leaf). range ls lo hi) same

    stem_on : (i : ℕ) (stem : Bytes) → question_at file i ≡ some (QB stem) → (reply_at i (ask b file out).final).number ≡ begins_with p.leaves stem
    stem_on i stem e = number_on i (QB stem) e ∙ reply_stem o.settings.hash_width o.leaves stem ∙ ap (λ (ls : List Leaf). begins_with ls stem) same

    count_on : (i : ℕ) (lo hi : Bytes) → question_at file i ≡ some (QC lo hi) → (reply_at i (ask b file out).final).number ≡ counted p.leaves lo hi
    count_on i lo hi e = number_on i (QC lo hi) e ∙ reply_count o.settings.hash_width o.leaves lo hi ∙ ap (λ (ls : List Leaf). counted ls lo hi) same

    sought_on : (i : ℕ) (start : Bytes) → question_at file i ≡ some (QS start) → reply_at i (ask b file out).final ≡ sought (seek p.leaves start)
    sought_on i start e = reply_on i (QS start) e ∙ reply_seek o.settings.hash_width o.leaves start ∙ ap (λ (ls : List Leaf). sought (seek ls start)) same

    lists_told : ListsTold c file (ask b file out).final
    lists_told = record {
      range = λ i lo hi e.
          let r = proper i (QR lo hi) e in
          rw (range_on i lo hi e)
          (Iff.trans (range_denied p.leaves lo hi (good c p no-hash-width) (sized c p no-hash-width) r.lower r.order) (every c p no-hash-width (λ ks. (k : Bytes) → In k ks → within lo hi k ≡ false)));
      stem = λ i stem e.
          rw (stem_on i stem e)
          (Iff.trans (begins_denied p.leaves stem (good c p no-hash-width) (sized c p no-hash-width) (proper i (QB stem) e)) (every c p no-hash-width (λ ks. (k : Bytes) → In k ks → begins stem k ≡ false)));
      count = λ i lo hi e.
          let r = proper i (QC lo hi) e in
          rw (count_on i lo hi e) (count_lists c p no-hash-width lo hi (counted p.leaves lo hi) (count_correct p.leaves lo hi (good c p no-hash-width) (sized c p no-hash-width) r.lower r.order));
      none = λ i start e.
          let r = proper i (QS start) e in
          rw (sought_on i start e)
          (Iff.trans (none_is (seek p.leaves start) (λ j k h. found_place c p no-hash-width start j k (found_at c p no-hash-width start r j k h)))
          (Iff.trans (seek_none p.leaves start (good c p no-hash-width) (sized c p no-hash-width) r) (every c p no-hash-width (λ ks. (k : Bytes) → In k ks → below k start ≡ true))));
      next = λ i start e f.
          let x = sought_on i start e in
          rw x (found_reply c p no-hash-width start (proper i (QS start) e) (λ z. f (rw x z)));
    }

    -- a range or a stem gets 1 exactly if a list that builds c has a key there
    range_one : (i : ℕ) (lo hi : Bytes) → question_at file i ≡ some (QR lo hi) → ((reply_at i (ask b file out).final).number ≡ 1) ↔ ((list : Bytes) × Builds list c × HasInRange list lo hi)
    range_one i lo hi e =
        let r = proper i (QR lo hi) e in
        rw (range_on i lo hi e)
        (Iff.trans (range_held p.leaves lo hi (good c p no-hash-width) (sized c p no-hash-width) r.lower r.order) (some_list c p no-hash-width (λ ks. (k : Bytes) × In k ks × (within lo hi k ≡ true))))

    stem_one : (i : ℕ) (stem : Bytes) → question_at file i ≡ some (QB stem) → ((reply_at i (ask b file out).final).number ≡ 1) ↔ ((list : Bytes) × Builds list c × HasWithStem list stem)
    stem_one i stem e =
        rw (stem_on i stem e)
        (Iff.trans (begins_held p.leaves stem (good c p no-hash-width) (sized c p no-hash-width) (proper i (QB stem) e)) (some_list c p no-hash-width (λ ks. (k : Bytes) × In k ks × (begins stem k ≡ true))))

    -- if the lists that build the image build c too
    stored_told : ((list : Bytes) → Builds list b → Builds list c) → StoredTold b file (ask b file out).final
    stored_told f = record {
      key = stored_key;
      range = λ i lo hi e list w h. (range_one i lo hi e).1 (list, f list w, h);
      stem = λ i stem e list w h. (stem_one i stem e).1 (list, f list w, h);
      count = λ i lo hi e list w. let n = lists_told.count i lo hi e in (n.most list (f list w), n.near list (f list w));
      seek = λ i start e list w k m h.
          let some : None (reply_at i (ask b file out).final) → ⊥ = λ z. true≢false (sym ((lists_told.none i start e).0 z list (f list w) k m) ∙ h) in
          (some, (lists_told.next i start e some).smallest list (f list w) k m h);
    }

  -- with h 0
  point_on : o.settings.hash_width ≡ 0 → (i : ℕ) (k : Bytes) → question_at file i ≡ some (QP k) → (reply_at i (ask b file out).final).number ≡ point 0 o.leaves k
  point_on z i k e = number_on i (QP k) e ∙ reply_point o.settings.hash_width o.leaves k ∙ ap (λ (h : ℕ). point h o.leaves k) z

  replies_valid : o.settings.hash_width ≡ 0 → RepliesCorrect b file (ask b file out).final
  replies_valid z = record {
    key = λ i k e. rw (point_on z i k e) (Iff.trans (point_denied o.leaves k (good b o z) (sized b o z) (proper i (QP k) e)) (every b o z (λ ks. In k ks → ⊥)));
    rules = rules_valid;
    others = lists_told b o z (no_hash b o z);
    stored = stored_told b o z (no_hash b o z) (λ list w. w);
    held = record {
      key = λ i k e h.
          (some_list b o z (λ ks. In k ks)).0 ((point_held o.leaves k (good b o z) (sized b o z) (proper i (QP k) e)).0 (sym (point_on z i k e) ∙ h));
      range = λ i lo hi e. (range_one b o z (no_hash b o z) i lo hi e).0;
      stem = λ i stem e. (stem_one b o z (no_hash b o z) i stem e).0;
    };
  }

-- an image whose header says h 0
none_hashed : (b : Bytes) (o : Accept.ImageOfLeaves b) → (read_settings b).hash_width ≡ 0 → o.settings.hash_width ≡ 0
none_hashed b o z = ap (λ (st : Settings). st.hash_width) (sym (settings_are b o)) ∙ z

-- accepted images with as many hash bits and the same leaves get the same from every call
same_answers : (b c : Bytes) → verdict b ≡ 0 → verdict c ≡ 0 → (read_settings b).hash_width ≡ (read_settings c).hash_width → read_leaves b ≡ read_leaves c → SameAnswers b c
unfolding ask open_walk next next_place walk_records
same_answers b c v w d e = record {
  ask = λ file out.
      ap₂ (λ (x h : ℕ). elim (eqb x 0) as (λ z. Outcome) [ false ↦ refuse x out | true ↦ elim (parse_questions file) [ Questions.refused r ↦ refuse r out | taken qs ↦ write 25 (replies h (read_leaves b) qs) out ] ]) same d
      ∙ ap (λ (ls : List Leaf). elim (eqb (verdict c) 0) as (λ z. Outcome) [ false ↦ refuse (verdict c) out | true ↦ elim (parse_questions file) [ Questions.refused r ↦ refuse r out | taken qs ↦ write 25 (replies (read_settings c).hash_width ls qs) out ] ]) e;
  open_walk = opened;
  next = λ place. ap (open_walk b) (ap (λ (ls : List Leaf). elim (ltb place (length ls)) as (λ z. ℕ) [ true ↦ suc place | false ↦ place ]) e) ∙ opened (next_place c place);
  walk_records = λ place out. ap₂ (λ (ls : List Leaf) (s : Stand). written_by ls place out s) e (opened place);
  print = λ h l. print_correct b (read_leaves b) v refl h ∙ ap listing e ∙ sym (print_correct c (read_leaves c) w refl l);
}
  where
    same : verdict b ≡ verdict c
    same = v ∙ sym w

    opened : (place : ℕ) → open_walk b place ≡ open_walk c place
    opened place = ap₂ (λ (x : ℕ) (ls : List Leaf). elim (eqb x 0) as (λ z. Stand) [ false ↦ Walk.refused x | true ↦ elim (ltb (length ls) place) [ true ↦ Walk.refused 17 | false ↦ stand_at ls place ] ]) same e

-- one list's images in both versions, other settings equal, have as many hash bits and the same leaves
versions_alike : (st su : Settings) (list b c : Bytes) → OtherSettingsEqual st su → BuildsWith st list b → BuildsWith su list c → ((read_settings b).hash_width ≡ (read_settings c).hash_width) × (read_leaves b ≡ read_leaves c)
versions_alike st su list b c e w x = (
  ap (λ (z : Settings). z.hash_width) (list_settings st list b w) ∙ e.2 ∙ sym (ap (λ (z : Settings). z.hash_width) (list_settings su list c x)),
  list_read st list b w ∙ ap₂ (λ (h n : ℕ). leaves h n (keys_of list)) e.2 e.1 ∙ sym (list_read su list c x),
)

-- ---- order 4

-- an accepted image, as the laws of acceptance give it, and the same with its hash bits struck out
module _ (b : Bytes) (small : IsBytes b) (v : verdict b ≡ 0) (o : Accept.ImageOfLeaves b) where
  -- what is left is accepted,
  struck_verdict : verdict (struck b) ≡ 0
  struck_verdict = ((struck_accepted b small (omega (arith, o.fits.hash_range, ap (λ (st : Settings). st.hash_width) (settings_are b o)))).0 v).2

  struck_image : Accept.ImageOfLeaves (struck b)
  struck_image = Accept.accepted_is_image (struck b) (struck_bytes b small) struck_verdict

  -- without hash bits,
  struck_none : struck_image.settings.hash_width ≡ 0
  struck_none = ap (λ (st : Settings). st.hash_width) (sym (settings_are (struck b) struck_image) ∙ struck_settings b small v)

  -- and with the real bits of the image's leaves
  struck_same : reals o.settings.hash_width o.leaves ≡ struck_image.leaves
  struck_same = ap₂ reals (sym (ap (λ (st : Settings). st.hash_width) (settings_are b o))) (sym (leaves_are b o)) ∙ sym (struck_leaves b small v) ∙ leaves_are (struck b) struck_image

  struck_width : struck_image.settings.real_width ≡ (read_settings b).real_width
  struck_width = ap (λ (st : Settings). st.real_width) (sym (settings_are (struck b) struck_image) ∙ struck_settings b small v)

  real_leaves : reals (read_settings b).hash_width (read_leaves b) ≡ struck_image.leaves
  real_leaves = sym (struck_leaves b small v) ∙ leaves_are (struck b) struck_image

  -- The lists that build what is left are those of the same cut keys and real bits.
  struck_lists : (list : Bytes) → Builds list (struck b) ↔ SameRealLeaves list b
  struck_lists list = (
    λ w. let x = list_keys w.0 list (struck b) w.1 in
        let h = list_has (struck b) struck_image struck_none list w in
        let e : leaves 0 (read_settings b).real_width (keys_of list) ≡ reals (read_settings b).hash_width (read_leaves b) = ap (λ (n : ℕ). leaves 0 n (keys_of list)) (sym struck_width) ∙ h.same_leaves ∙ sym real_leaves in
        (w.1.bytes, x, subst (Agree (leaves 0 (read_settings b).real_width (keys_of list))) e (agree_self (leaves 0 (read_settings b).real_width (keys_of list)))),
    λ a. let e : leaves 0 struck_image.settings.real_width (keys_of list) ≡ struck_image.leaves = ap (λ (n : ℕ). leaves 0 n (keys_of list)) struck_width ∙ agree_same (leaves 0 (read_settings b).real_width (keys_of list)) (reals (read_settings b).hash_width (read_leaves b)) a.2 ∙ real_leaves in
        list_builds (struck b) struck_image struck_none list a.0 a.1 e,
  )

-- Demand 3.
pub demand_3 : Demand3
demand_3 = record {
  accepted_exactly = λ b s z. (
    λ c. let o = Accept.accepted_is_image b s ((check_accepts b).0 c) in built_by b o (none_hashed b o z),
    λ w. (check_accepts b).1 (list_accepted w.1.0 w.0 b w.1.1),
  );
  built_accepted = λ list b w. (check_accepts b).1 (list_accepted w.0 list b w.1);
  hashed_exactly = λ b s h.
      let e = struck_accepted b s h.1 in (
        λ c. let r = e.0 ((check_accepts b).0 c) in (r.0, r.1, (check_accepts (struck b)).1 r.2),
        λ r. (check_accepts b).1 (e.1 (r.0, r.1, (check_accepts (struck b)).0 r.2)),
      );
  struck_lists = λ b s c. let v = (check_accepts b).0 c in struck_lists b s v (Accept.accepted_is_image b s v);
  built_lists = same_real_leaves;
  alike = judged_alike;
  taken_exactly = λ b c file s out.
      let v = (check_accepts b).0 c in (
        λ t. let a = ask_answers b file out v t in (questions_of file, (questions_exactly file (questions_of file) s).0 a.questions_are, a.room),
        λ f. ask_takes b file out v f.0 ((questions_exactly file f.0 s).1 f.1) f.2,
      );
  valid = λ b s z c file sf out t.
      let v = (check_accepts b).0 c in
      let o = Accept.accepted_is_image b s v in
      replies_valid b o file out sf (ask_answers b file out v t) (none_hashed b o z);
  hashed_valid = λ b s h c file sf out t.
      let v = (check_accepts b).0 c in
      let o = Accept.accepted_is_image b s v in
      let a = ask_answers b file out v t in
      record {
        stored = stored_told b o file out sf a (struck b) (struck_image b s v o) (struck_none b s v o) (struck_same b s v o) (λ list w. (struck_lists b s v o list).1 (same_real_leaves list b w));
        rules = rules_valid b o file out sf a;
        others = lists_told b o file out sf a (struck b) (struck_image b s v o) (struck_none b s v o) (struck_same b s v o);
      };
  one_image = λ st list other b c w x. (
    λ e. let same : leaves st.hash_width st.real_width (keys_of list) ≡ leaves st.hash_width st.real_width (keys_of other) = sym (list_read st list b w) ∙ ap read_leaves e ∙ list_read st other c x in
        subst (λ (ms : List Leaf). Agree (leaves st.hash_width st.real_width (keys_of list)) ms) same (agree_self (leaves st.hash_width st.real_width (keys_of list))),
    λ g. list_image st list b w ∙ ap (image st) (agree_same (leaves st.hash_width st.real_width (keys_of list)) (leaves st.hash_width st.real_width (keys_of other)) g) ∙ sym (list_image st other c x),
  );
  both_versions = λ st su list b c e w x.
      let s = versions_alike st su list b c e w x in
      same_answers b c (list_accepted st list b w) (list_accepted su list c x) s.0 s.1;
}

-- ---- the calls over an accepted image

-- the numbers of a walk over an accepted image
accepted_walk_refuses : (b : Bytes) → check b ≡ accepted → (place : ℕ) (out : Bytes) (r : ℕ) → ((walk_records b place out).answer ≡ Answer.refused r) ↔ ((r ≡ 17) × (length (read_leaves b) < place))
accepted_walk_refuses b c place out r = Iff.trans (walk_records_refuses b place out r) (to, λ w. rw w.0 (place_refused c w.1))
  where
    to : {r : ℕ} → WalkRefusal b place r → (r ≡ 17) × (length (read_leaves b) < place)
    to (refused_image e n) = let z : ◌≡◌ {A = ℕ} 0 1 = cc in absurd (omega arith)
    to (place_refused e l) = (refl, l)

-- What holds of the calls over an accepted image.
pub accepted_calls : AcceptedCalls
accepted_calls = record {
  calls = λ b s c.
      let v = (check_accepts b).0 c in
      let o = Accept.accepted_is_image b s v in
      let few : length (read_leaves b) ≤ 65535 = omega (arith, o.fits.few, ap length (leaves_are b o)) in
      record {
        as_asked = λ q. one_replies b v q few;
        number = λ q out t. ap reply_number ((one_replies b v q few (reply_alone b q out) out).1 (t, refl)).0;
        rule = λ k out t. one_rule_byte b v k (reply_alone b (QP k) out) ((one_replies b v (QP k) few (reply_alone b (QP k) out) out).1 (t, refl)).0;
        refuses = one_refuses b v;
        key_kept = seek_kept o.settings.real_width b v (rw (settings_are b o, leaves_are b o) (real_sizes b o));
        walks = λ place h out. records_written b place out v h;
        walk_refuses = accepted_walk_refuses b c;
        walk_kept = walk_records_kept b;
      };
  both_versions = λ st su list b c e w x.
      let s = versions_alike st su list b c e w x in
      record { one = same_one b c s.0 s.1; walk = (demand_3.both_versions st su list b c e w x).walk_records };
}

-- The three demands hold, and what is said of the calls over an accepted image.
pub demands : Demands
demands = record { first = demand_1; second = demand_2; third = demand_3; over_accepted = accepted_calls }
