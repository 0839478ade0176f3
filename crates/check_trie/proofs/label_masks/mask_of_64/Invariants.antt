-- The loop: the mask of the labels from i on, eight at a time.
use mathlib.Core.Path.{◌≡◌}
use Prim.Native.Nat.{◌+◌, ◌-◌, ◌%◌, ◌≤◌}
use Rattle.check_levels.specs.MaskLaws.{mask}
use Rattle.check_trie.proofs.label_masks.mask_of_64.Given as goal

abbrev pub invariant-loop-i : goal.invariant-loop-i
invariant-loop-i g l = (l.i ≤ 64) × (l.i % 8 ≡ 0) × (l.m ≡ mask (λ k. g.test (l.at + l.i + k)) (64 - l.i))

abbrev pub decreases-loop-i : goal.decreases-loop-i
decreases-loop-i g l = l.i
