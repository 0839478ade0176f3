-- The tables of an image that passed the numbers 11 to 15: those of its sparse bodies are right.
use Rattle.std.proofs.Common.{sym, ◌∙◌}
use Rattle.spec.specs.Bytes.{Bytes}
use Rattle.image.specs.declared.Frame.{Frame}
use Rattle.check_tables.specs.Tables.{dense_agrees, sparse_agrees, tables_are}
use Rattle.check_levels.specs.Indexed.{Indexed}
use Rattle.check_slots.specs.Passed.{PassedTo15, bits_pass}
use Rattle.theory.proofs.Lists.{and_both}

-- ranks and levels may be taken from the tables
pub indexed : (s : Bytes) (f : Frame) → PassedTo15 s f → Indexed s f
indexed s f j = record { louds = (bits_pass s f j).louds; agrees = (and_both (dense_agrees s f) (sparse_agrees s f) (sym (tables_are s f j.frame) ∙ j.ranks)).1 }
