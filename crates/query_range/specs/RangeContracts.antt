-- What the functions along both bounds of a range ask.
use Rattle.std.specs.Prelude.{ℕ, ◌<◌, ◌≡◌, length, get_or}
use Rattle.spec.specs.Bytes.{Bytes}
use Rattle.image.specs.declared.Frame.{Frame}
use Rattle.query_range.specs.RangeWays.{KeyAt}

-- Both bounds lead to node m with their first d bytes, and go on with different ones.
pub record Parted (s : Bytes) (f : Frame) (lo hi : Bytes) (m d : ℕ) : Type 0 where
  pub lower : KeyAt s f lo m d
  pub upper : KeyAt s f hi m d
  pub lo_more : d < length lo
  pub hi_more : d < length hi
  pub differ : get_or lo d 0 ≡ get_or hi d 0 → ⊥
