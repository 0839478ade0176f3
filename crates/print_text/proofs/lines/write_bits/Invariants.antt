use mathlib.Core.Path.{◌≡◌}
use mathlib.Core.List.{map}
use Prim.Native.Nat.{◌≤◌}
use lib.ListN.{length}
use Rattle.spec.specs.Bytes.{low_bits}
use Rattle.print_text.specs.Writing.{Written}
use Rattle.print_text.specs.Texts.{bit_digit}
use Rattle.print_text.proofs.lines.write_bits.Given as goal

abbrev pub invariant-loop-i : goal.invariant-loop-i
invariant-loop-i l = (l.i ≤ l.width) × (length l.out ≡ length l.initial.out) × Written l.initial.out l.at (map bit_digit (low_bits l.i l.suffix)) l.out l.next
