use Rattle.std.proofs.Common.{◌≡◌, ℕ, ◌+◌, ◌≤◌, List, ◌++◌, length, take, rules, sym, ap, ap₂, ◌∙◌, subst, le_refl, length-take-le, drop_at}
use Rattle.std.proofs.Math.Seq.{take-add}
use Rattle.std.proofs.lemmas.List.{take-append-le}
use Rattle.std.proofs.lemmas.Slice.{take-put_mid_below}
use Rattle.std.proofs.KnownBytes.{Consumes-trans}
use Rattle.std.specs.Io.KnownBytes.{Consumes}
use borrow.Rule.Slice.PartMut.{put_mid}
use Rattle.print_pages.proofs.input.read_full.Goals as goal

-- the front of a buffer, of which the part from a on has been written anew
front_more : (a k n : ℕ) (xs ys : List ℕ) → a ≤ length xs → n ≤ length ys → take (a + n) (put_mid a k xs ys) ≡ take a xs ++ take n ys
front_more a k n xs ys within fits =
    take-add a n (put_mid a k xs ys)
    ∙ ap₂ ◌++◌ (take-put_mid_below a k xs ys a (le_refl a) within) (ap (take n) (drop_at (take a xs) _ a (length-take-le a xs within)) ∙ take-append-le n ys _ fits)

pub loop-len-preserved : goal.loop-len-preserved
loop-len-preserved g c =
    let i = c.loop-len.invariant in
    let read = c.in_ok-read in
    record {
      within = search rules;
      given =
          subst (Consumes _ _) (sym (front_more c.loop-len.len _ read.read c.loop-len.buffer c.read.new.buf i.within read.ensures.bound.0))
          (Consumes-trans _ _ _ _ _ i.given read.ensures.bytes.0);
    }
