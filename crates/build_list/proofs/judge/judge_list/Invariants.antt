use mathlib.Core.Path.{◌≡◌}
use Prim.Native.Nat.{◌+◌, ◌-◌, ◌≤◌}
use Rattle.bits.specs.Bits.{key}
use Rattle.build_list.specs.KeyList.{counted, key_list}
use lib.ListN.{length, drop}
use Rattle.spec.specs.Keys.{parse_keys, parse_records}
use Rattle.build_list.proofs.judge.judge_list.Given as goal

abbrev pub invariant-loop-at : goal.invariant-loop-at
invariant-loop-at l = (l.last + l.m ≤ l.at) × (l.count ≤ l.at) × (l.at ≤ length l.s) × (l.count ≤ 65535) × (key_list (parse_keys l.s) ≡ counted l.count (parse_records (length l.s - l.count) l.count (key l.s l.last l.m) (drop l.at l.s)))

abbrev pub decreases-loop-at : goal.decreases-loop-at
decreases-loop-at l = length l.s - l.at
