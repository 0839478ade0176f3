-- The questions passed are counted, and the rest of the file decides. Each question takes at least a byte, so a byte of fuel is left for each.
use mathlib.Core.Path.{◌≡◌}
use Prim.Native.Nat.{◌-◌, ◌≤◌}
use lib.ListN.{length, drop}
use Rattle.spec.specs.Questions.{parse_questions, parse_from}
use Rattle.ask_files.specs.Questions.{counted, question_file}
use Rattle.ask_files.proofs.questions.judge_file.Given as goal

abbrev pub invariant-loop-at : goal.invariant-loop-at
invariant-loop-at l = (l.count ≤ l.at) × (l.at ≤ length l.s) × (l.count ≤ 1024) × (question_file (parse_questions l.s) ≡ counted l.count (parse_from (length l.s - l.count) l.count (drop l.at l.s)))

abbrev pub decreases-loop-at : goal.decreases-loop-at
decreases-loop-at l = length l.s - l.at
