-- The answer to one question as one number decodes, because a number in a reply is less than 2^32.
use Prim.Native.Nat.{ℕ, zero, suc, ◌<◌, ◌≤◌}
use mathlib.Core.Path.{◌≡◌, refl, ap, ◌∙◌}
use native.Mathlib.Omega.{arith}
use lib.ListN.{length, get_or}
use Rattle.spec.specs.Bytes.{Bytes}
use Rattle.spec.specs.Frame.{read_settings}
use Rattle.spec.specs.Nodes.{read_leaves}
use Rattle.spec.specs.Rules.{rule}
use Rattle.spec.specs.Questions.{Question, QP, Reply, reply}
use Rattle.spec.specs.Answer.{refusal_weight}
use Rattle.spec.specs.Check.{verdict}
use Rattle.spec.specs.OneQuestion.{question_refusal, Answered, replied, refused, ask_one, Numbered, refused_with, reply_number, reply_rule, given_number, numbered_code}
use Rattle.theory.specs.Terms.{IsBytes}
use Rattle.theory.proofs.Rules.{rule_number_range}
use Rattle.theory.proofs.Accept.{accepted_is_image}
use Rattle.theory.proofs.AskLaws.{number_small}
use Rattle.theory.proofs.LengthBounds.{leaves_are}
use Rattle.theory.proofs.OneQuestionLaws.{one_refused, one_replied}
use Rattle.ask_files.specs.ReplyLaws.{point_reply}
use Rattle.std.specs.Prelude.{Result, Ok, Err}
use Rattle.spec.specs.Answer.{answer_code}
use Rattle.image.specs.declared.refusals.Refusal.{Refusal}
use Rattle.image.specs.Refusals.{by_number}
use Rattle.image.specs.Outcomes.{answer_of}
use Rattle.accepted.specs.Numbers.{numbered_of}
use Rattle.range_filter_accepted.specs.CodedNumber.{CodedNumber}

-- an accepted image has few leaves
few_leaves : (b : Bytes) → IsBytes b → verdict b ≡ 0 → length (read_leaves b) ≤ 65535
few_leaves b s v = let o = accepted_is_image b s v in omega (arith, ap length (leaves_are b o), o.fits.few)

-- a number of an answer to one question is small, where that of its reply is
short_answer : (b : Bytes) (q : Question) (give : Answered → Numbered) → ((n : ℕ) → give (refused n) ≡ refused_with n) → given_number (give (replied (reply (read_settings b).hash_width (read_leaves b) q))) < refusal_weight
    → given_number (give (ask_one b q)) < refusal_weight
short_answer b q give keeps h = go (question_refusal q) refl
  where
    go : (r : ℕ) → question_refusal q ≡ r → given_number (give (ask_one b q)) < refusal_weight
    go zero e = rw (one_replied b q e) h
    go (suc r) e = rw (one_refused b q (suc r) e (omega arith), keeps (suc r)) (omega arith)

-- The number in a reply is less than 2^32.
pub number_short : (b : Bytes) → IsBytes b → verdict b ≡ 0 → (q : Question) → given_number (reply_number (ask_one b q)) < refusal_weight
number_short b s v q = short_answer b q reply_number (λ n. refl) (number_small (read_settings b).hash_width (read_leaves b) (few_leaves b s v) q)

-- So is the rule behind a point's.
pub rule_short : (b k : Bytes) → given_number (reply_rule (ask_one b (QP k))) < refusal_weight
rule_short b k = short_answer b (QP k) reply_rule (λ n. refl) (omega (arith, ap (λ (r : Reply). get_or r.key 0 0) (point_reply (read_settings b).hash_width (read_leaves b) k), (rule_number_range (rule (read_settings b).hash_width (read_leaves b) k)).1))

-- A number of a reply and an answer of the same number or refusal are the same number.
same_code : (w : Result ℕ Refusal) → answer_code (answer_of (by_number w)) ≡ numbered_code (numbered_of w)
same_code (Ok n) = refl
same_code (Err r) = refl

-- The number of an answer that is small decodes.
pub coded_number : (w : Result ℕ Refusal) (j : Result ℕ ℕ) (a : Numbered) (r : ℕ) → numbered_of w ≡ a → j ≡ by_number w → r ≡ answer_code (answer_of j) → given_number a < refusal_weight → CodedNumber r a
coded_number w j a r e i f h =
    let c : r ≡ numbered_code a = f ∙ ap (λ (k : Result ℕ ℕ). answer_code (answer_of k)) i ∙ same_code w ∙ ap numbered_code e in
    record { code = c; refusal = omega arith; number = omega arith }
