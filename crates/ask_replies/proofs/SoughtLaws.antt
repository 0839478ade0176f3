-- The reply to a seek by what the seek gives: none, or a leaf.
use Prim.Native.Nat.{ℕ}
use mathlib.Core.Path.{◌≡◌, sym, ap, ◌∙◌}
use mathlib.Core.List.{List, []}
use Rattle.std.specs.Prelude.{Option, None, Some, take}
use Rattle.spec.specs.Bytes.{Bytes}
use Rattle.spec.specs.Leaves.{Leaf, reals}
use Rattle.spec.specs.Questions.{QS, seek, reply}
use Rattle.ask_files.specs.ReplyLaws.{answer, seek_reply_found, seek_reply_none}
use Rattle.query_seek.specs.declared.seek.Sought.{Sought}
use Rattle.query_seek.specs.Sought.{sought_of}

module _ (H : ℕ) (ls : List Leaf) (start : Bytes) (sought : Option Sought) (key : Bytes) (e : sought_of sought key ≡ seek (reals H ls) start) where
  -- none: FFFFFFFF without a key
  pub none_sought : sought ≡ None → answer 83 0xFFFFFFFF [] ≡ reply H ls (QS start)
  none_sought h = sym (seek_reply_none H ls start (sym e ∙ ap (λ (l : Option Sought). sought_of l key) h))

  -- a leaf: its number and a key
  pub some_sought : (r : Sought) → sought ≡ Some r → answer 83 r.number (take r.len key) ≡ reply H ls (QS start)
  some_sought r h = sym (seek_reply_found H ls start r.number (take r.len key) (sym e ∙ ap (λ (l : Option Sought). sought_of l key) h))
