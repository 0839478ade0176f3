-- Each letter with the question that its keys make.
use Rattle.spec.specs.Questions.{QP, QS, QB, QR, QC}
use Rattle.ask_files.specs.QuestionAt.{letter_point, letter_seek, letter_begins, letter_range, letter_count, letter_none}
use native.Mathlib.Omega.{arith}
use Rattle.ask_files.proofs.questions.keys_asked.Goals as goal

pub returns-in-80 : goal.returns-in-80
returns-in-80 c = (QP, letter_point c.args.letter c.in-80.is)

pub returns-in-83 : goal.returns-in-83
returns-in-83 c = (QS, letter_seek c.args.letter c.in-83.is)

pub returns-in-66 : goal.returns-in-66
returns-in-66 c = (QB, letter_begins c.args.letter c.in-66.is)

pub returns-in-82 : goal.returns-in-82
returns-in-82 c = (QR, letter_range c.args.letter c.in-82.is)

pub returns-in-67 : goal.returns-in-67
returns-in-67 c = (QC, letter_count c.args.letter c.in-67.is)

pub returns-in_default : goal.returns-in_default
returns-in_default c = letter_none c.args.letter (λ e. omega arith) (λ e. omega arith) (λ e. omega arith) (λ e. omega arith) (λ e. omega arith)
