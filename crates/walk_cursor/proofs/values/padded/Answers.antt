-- The cut key is copied over zeros, and the suffix is the number of its low bits.
use Rattle.std.proofs.Common.{◌≡◌, ℕ, ◌+◌, List, ◌++◌, length, take, drop, replicate, ap, ◌∙◌, arith, length-take-le}
use Rattle.walk_cursor.specs.LeafValues.{value_padded}
use Rattle.walk_cursor.proofs.values.padded.Goals as goal

pub slice_bounds-cut-end : goal.slice_bounds-cut-end
slice_bounds-cut-end c =
    let cut_length : length c.args.l.cut ≡ 64 = c.well_formed.0.1.1.0.1.0.1 in
    omega (arith, cut_length, c.requires.0)

pub returns : goal.returns
returns c =
    let l = c.args.l in
    let cut_length : length l.cut ≡ 64 = c.well_formed.0.1.1.0.1.0.1 in
    let z : l.len ≡ 0 + length (take l.len l.cut) = omega (arith, length-take-le l.len l.cut (omega (arith, cut_length, c.requires.0))) in
    value_padded l cut_length c.requires _ _ (ap (λ (xs : List ℕ). xs ++ drop l.len (replicate 64 0)) c.copy_from_slice.ensures.after ∙ ap (λ (n : ℕ). take l.len l.cut ++ drop n (replicate 64 0)) z) c.suffix_number.ensures
