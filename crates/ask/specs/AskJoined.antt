-- The public call ask from its parts: the check's verdict, the judged question file, the length of the replies, and the replies in the buffer.
use Rattle.std.specs.Prelude.{ℕ, ◌≤◌, ◌<◌, ◌≡◌, refl, List, ◌++◌, length, drop}
use Rattle.std.proofs.Common.{sym, ap, ap₂, ◌∙◌, ne_eqb}
use Rattle.spec.specs.Bytes.{Bytes}
use Rattle.spec.specs.Frame.{read_settings}
use Rattle.spec.specs.Nodes.{read_leaves}
use Rattle.spec.specs.Questions.{Question, refused, taken, parse_questions, replies}
use Rattle.spec.specs.Answer.{Outcome, refuse, success}
use Rattle.spec.specs.Answer as Answer
use Rattle.spec.specs.Check.{verdict}
use Rattle.spec.specs.Ask.{ask}
use Rattle.theory.proofs.AskLaws.{ask_is}
use Rattle.theory.proofs.OutcomeLaws.{write_fits, write_short}

-- a refusal: its number, and the buffer as it was
abbrev pub refusal : ℕ → Bytes → Outcome
refusal r out = record { answer = Answer.refused r; final = out }

-- success: the bytes written, and the buffer with them
abbrev pub written : ℕ → Bytes → Outcome
written n new = record { answer = Answer.written n; final = new }

-- What ask gives for an image, a question file and a buffer, by what its parts say.
pub record Joined (b file out : Bytes) : Type 0 where
  pub not_accepted : (v : ℕ) → v ≡ verdict b → (v ≡ 0 → ⊥) → ask b file out ≡ refusal v out
  pub turned_down : (r : ℕ) → verdict b ≡ 0 → parse_questions file ≡ refused r → ask b file out ≡ refusal r out
  pub too_long : (qs : List Question) → verdict b ≡ 0 → parse_questions file ≡ taken qs → length out < length (replies (read_settings b).hash_width (read_leaves b) qs) → ask b file out ≡ refusal 25 out
  pub answered : (qs : List Question) (n : ℕ) (new : Bytes) → verdict b ≡ 0 → parse_questions file ≡ taken qs → n ≡ length (replies (read_settings b).hash_width (read_leaves b) qs) → n ≤ length out
      → new ≡ replies (read_settings b).hash_width (read_leaves b) qs ++ drop n out → ask b file out ≡ written n new

refuse_is : (r : ℕ) (out : Bytes) → refuse r out ≡ refusal r out
unfolding refuse
refuse_is r out = refl

success_is : (b out : Bytes) → success b out ≡ written (length b) (b ++ drop (length b) out)
unfolding success
success_is b out = refl

pub ask_joined : (b file out : Bytes) → Joined b file out
ask_joined b file out = record {
  not_accepted = λ v e h. ask_is b file out v (parse_questions file) (sym e) refl ∙ rw (ne_eqb v 0 h) (refuse_is v out);
  turned_down = λ r e h. ask_is b file out 0 (refused r) e h ∙ refuse_is r out;
  too_long = λ qs e h l. ask_is b file out 0 (taken qs) e h ∙ write_short 25 (replies (read_settings b).hash_width (read_leaves b) qs) out l ∙ refuse_is 25 out;
  answered = λ qs n new e h size room bytes. ask_is b file out 0 (taken qs) e h ∙ write_fits 25 (replies (read_settings b).hash_width (read_leaves b) qs) out (rw size at room) ∙ success_is (replies (read_settings b).hash_width (read_leaves b) qs) out
      ∙ ap₂ written (sym size) (ap (λ (m : ℕ). replies (read_settings b).hash_width (read_leaves b) qs ++ drop m out) (sym size) ∙ sym bytes);
}
