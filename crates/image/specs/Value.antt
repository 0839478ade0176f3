-- Leaves by value, and the leaves of document 01 that they stand for.
use Rattle.std.specs.Prelude.{◌≤◌, length, take}
use Rattle.spec.specs.Bytes.{low_first, low_bits}
use Rattle.spec.specs.Leaves.{Leaf}
use Rattle.spec.specs.WalkRecords.{cut_field}
use Rattle.image.specs.declared.Leaf.{Leaf as Value}

-- the cut key, the kind and the suffix bits, the first one first
abbrev pub leaf_of : Value → Leaf
leaf_of v = record { cut = take v.len v.cut; exact = v.exact; suffix = low_bits v.width v.suffix }

-- the cut key lies within the array, and the suffix has at most 32 bits
abbrev pub Sized : Value → Type 0
Sized v = (v.len ≤ 64) × (v.width ≤ 32)

-- The leaf by value that a walk gives: zeros stand behind the cut key, and above the suffix bits.
abbrev pub value_of : Leaf → Value
value_of l = record { cut = cut_field l.cut; len = length l.cut; exact = l.exact; suffix = low_first l.suffix; width = length l.suffix }
