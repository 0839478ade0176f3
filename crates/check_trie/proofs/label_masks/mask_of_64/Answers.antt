-- The loop: the mask of the labels from i on, eight at a time.
use mathlib.Core.Path.{◌≡◌, sym}
use Prim.Native.Nat.{◌+◌, ◌-◌}
use native.Mathlib.Omega.{arith}
use Rattle.check_levels.specs.MaskLaws.{mask, mask_none, mask_lt, mask_eight, mask_room}
use borrow.Author.Rules.{rules}
use Rattle.check_trie.proofs.label_masks.mask_of_64.Goals as goal

pub loop-i-init : goal.loop-i-init
loop-i-init g c =
    (omega arith, omega arith, sym (mask_none _))

pub overflow_mul-m : goal.overflow_mul-m
overflow_mul-m g c =
    let l = c.loop-i in
    let r = mask_room (λ k. g.test (c.args.at + l.i + k)) l.i l.m (omega arith) l.invariant.2 in
    search rules

pub overflow_add-m : goal.overflow_add-m
overflow_add-m g c =
    let l = c.loop-i in
    let r = mask_room (λ k. g.test (c.args.at + l.i + k)) l.i l.m (omega arith) l.invariant.2 in
    let e : c.eight.result ≡ mask (λ k. g.test (c.args.at + (l.i - 8) + k)) 8 = c.requires.1.1.1 (l.i - 8) c.eight.result (omega arith) c.eight.ensures in
    let b = mask_lt (λ k. g.test (c.args.at + (l.i - 8) + k)) 8 in
    search rules

pub loop-i-preserved : goal.loop-i-preserved
loop-i-preserved g c =
    let l = c.loop-i in
    let e : c.eight.result ≡ mask (λ k. g.test (c.args.at + (l.i - 8) + k)) 8 = c.requires.1.1.1 (l.i - 8) c.eight.result (omega arith) c.eight.ensures in
    (omega arith, omega arith, mask_eight g.test c.args.at l.i l.m c.eight.result (omega arith) (omega arith) l.invariant.2 e)
