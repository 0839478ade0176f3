-- Document 01, "Turning a file down": the public call ask. An image, a question file and a reply buffer give the answer and the buffer's final bytes.
use Rattle.std.specs.Prelude.{ℕ, true, false, eqb}
use Rattle.spec.specs.Bytes.{Bytes}
use Rattle.spec.specs.Frame.{read_settings}
use Rattle.spec.specs.Nodes.{read_leaves}
use Rattle.spec.specs.Answer.{Outcome, refuse, write}
use Rattle.spec.specs.Check.{verdict}
use Rattle.spec.specs.Questions.{refused, taken, parse_questions, replies}

-- the check's numbers; then the questions' 24, 21, 22, 23; then 25, replies longer than the reply buffer
unfoldable pub ask : Bytes → Bytes → Bytes → Outcome
unfolding verdict parse_questions refuse write replies read_settings read_leaves
ask b file out =
    let v : ℕ = verdict b in
    elim (eqb v 0) [
      | false ↦ refuse v out
      | true ↦
          elim (parse_questions file) [ refused r ↦ refuse r out | taken qs ↦ write 25 (replies (read_settings b).hash_width (read_leaves b) qs) out ]
    ]
