-- The tests on the key at an offset, in their order.
use native.Mathlib.Omega.{arith}
use Rattle.ask_files.specs.KeyAt.{key_none, key_long, key_missing}
use Rattle.ask_files.proofs.ReadLaws.{key_end}
use Rattle.ask_files.proofs.questions.read_key.Goals as goal

pub returns-then-s-at : goal.returns-then-s-at
returns-then-s-at c =
    let a = c.args in
    key_none a.s.now a.at c.if-s-at.true

pub returns-then-n-gt-MAX_KEY_BYTES : goal.returns-then-n-gt-MAX_KEY_BYTES
returns-then-n-gt-MAX_KEY_BYTES c =
    let a = c.args in
    key_long a.s.now a.at c.if-s-at.false (omega arith)

pub returns-then-s-at-2 : goal.returns-then-s-at-2
returns-then-s-at-2 c =
    let a = c.args in
    key_missing a.s.now a.at c.if-s-at.false (omega arith) (omega arith)

pub returns : goal.returns
returns c =
    let a = c.args in
    key_end a.s.now a.at c.from-n.result (record { inside = c.if-s-at.false; small = omega arith; fits = omega arith }) (omega arith)
