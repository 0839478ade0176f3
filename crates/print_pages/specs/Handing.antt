-- What a function that hands on the text of an input gives.
use Rattle.std.specs.Prelude.{◌≤◌, ◌≡◌, true, length}
use Rattle.spec.specs.Bytes.{Bytes}
use Rattle.spec.specs.Print.{print}
use Rattle.print_pages.specs.declared.output.Sent.{Sent}

-- So many first bytes of the text have been handed on, and all where it is said.
pub record Handed (s : Bytes) (r : Sent) : Type 0 where
  pub within : r.bytes ≤ length (print s)
  pub whole : r.all ≡ true → r.bytes ≡ length (print s)
