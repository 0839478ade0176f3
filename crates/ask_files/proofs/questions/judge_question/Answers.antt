-- The mark's tests, and what the keys that its letter asks for give.
use native.Mathlib.Omega.{arith}
use Rattle.ask_files.specs.QuestionAt.{question_short, question_unmarked}
use Rattle.ask_files.proofs.ReadLaws.{one_key_read, two_keys_read, wrong_letter}
use Rattle.ask_files.proofs.questions.judge_question.Goals as goal

pub returns-then-s-at-lt2 : goal.returns-then-s-at-lt2
returns-then-s-at-lt2 c =
    question_short c.args.s.now c.args.at c.if-s-at-lt2.true

pub returns-then-s-at-ne81 : goal.returns-then-s-at-ne81
returns-then-s-at-ne81 c =
    question_unmarked c.args.s.now c.args.at c.if-s-at-lt2.false c.if-s-at-ne81.true

pub returns-in-Some-One : goal.returns-in-Some-One
returns-in-Some-One c =
    one_key_read c.args.s.now c.args.at c.if-s-at-lt2.false (omega arith) (rw c.in-Some-One.field-0-is at c.in-Some-One.ensures) c.read_key.result c.read_key.ensures

pub returns-in-Some-Two : goal.returns-in-Some-Two
returns-in-Some-Two c =
    two_keys_read c.args.s.now c.args.at c.if-s-at-lt2.false (omega arith) (rw c.in-Some-Two.field-0-is at c.in-Some-Two.ensures) c.read_bounds.result c.read_bounds.ensures

pub returns-in-None : goal.returns-in-None
returns-in-None c =
    wrong_letter c.args.s.now c.args.at c.if-s-at-lt2.false (omega arith) c.in-None.ensures
