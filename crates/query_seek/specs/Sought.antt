-- What a seek gives by value, against document 01's seek.
use Rattle.std.specs.Prelude.{◌≤◌, ◌≡◌, take, Option, None, Some, IfSome}
use Rattle.spec.specs.Bytes.{Bytes}
use Rattle.image.specs.declared.Frame.{Frame}
use Rattle.nav_nodes.specs.Accepted.{real_leaves}
use Rattle.spec.specs.Questions.{Sought as Answer, none, found, seek}
use Rattle.query_seek.specs.declared.seek.Sought.{Sought}

-- what is found, its key at the front of a buffer: none, or a leaf's number in key order with a key
abbrev pub sought_of : Option Sought → Bytes → Answer
sought_of None key = none
sought_of (Some r) key = found r.number (take r.len key)

-- A seek from the start finds this, its key at the front of `key`.
pub record IsSought (s : Bytes) (f : Frame) (start : Bytes) (sought : Option Sought) (key : Bytes) : Type 0 where
  -- leaf and key are those of document 01's seek
  pub answer : sought_of sought key ≡ seek (real_leaves s f) start
  -- a key has at most 64 bytes
  pub key_in : IfSome sought (λ r. r.len ≤ 64)
  -- the number of a leaf is below 2 ^ 16
  pub number_in : IfSome sought (λ r. r.number ≤ 65535)
