-- The records of the leaves passed stand at the front of the buffer.
use Prim.Native.Nat.{◌+◌, ◌≤◌}
use Rattle.spec.specs.Nodes.{read_leaves}
use Rattle.walk_states.specs.Filling.{Filled}
use Rattle.walk_cursor.specs.Stands.{Stands, cursor_of}
use Rattle.walk_records.proofs.write_leaves.Given as goal

abbrev pub invariant-loop-count : goal.invariant-loop-count
invariant-loop-count l = (l.count ≤ l.room) × Stands l.from.image.bytes.now l.from.image.frame (cursor_of l.trail l.end (l.from.cursor.place + l.count)) × Filled (read_leaves l.from.image.bytes.now) l.from.cursor.place l.initial.out l.count l.out
