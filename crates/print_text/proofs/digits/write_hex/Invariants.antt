use mathlib.Core.Path.{◌≡◌}
use Prim.Native.Nat.{◌≤◌}
use lib.ListN.{length, take}
use Rattle.print_text.specs.Writing.{Written}
use Rattle.spec.specs.Print.{hex}
use Rattle.print_text.proofs.digits.write_hex.Given as goal

abbrev pub invariant-loop-byte : goal.invariant-loop-byte
invariant-loop-byte l = (l.byte-index ≤ length l.key) × (length l.out ≡ length l.initial.out) × Written l.initial.out l.at (hex (take l.byte-index l.key)) l.out l.next
