-- What a function that writes a record asks.
use Rattle.std.specs.Prelude.{ℕ, ◌+◌, ◌≤◌, length}
use Rattle.spec.specs.Bytes.{Bytes}
use Rattle.spec.specs.WalkRecords.{record_size}
use Rattle.image.specs.declared.Leaf.{Leaf as Value}

-- The leaf's record fits into out from at.
pub record Room (out : Bytes) (at : ℕ) (l : Value) : Type 0 where
  pub within : at + record_size ≤ length out
  -- the key's length fits a byte
  pub key : l.len ≤ 64
