-- Number 16 by its three tests, one after the other.
use Rattle.std.specs.Prelude.{ℕ, ◌+◌, ◌-◌, ◌*◌, ◌<◌, ◌≡◌, refl, Bool, true, false, ◌&&◌, ◌||◌, not}
use Rattle.std.proofs.Common.{ap, ap₂, ◌∙◌}
use Rattle.spec.specs.Bytes.{Bytes}
use Rattle.image.specs.declared.Frame.{Frame}
use Rattle.check_levels.specs.Positions.{bits, is_set}
use Rattle.check_levels.specs.Bodies.{dl_body, dc_body, dp_body, sl_body, sc_body, sb_body, sv_body}
use Rattle.check_levels.specs.Ranges.{from_pass}
use Rattle.check_slots.specs.NodeSlots.{clear_none, slot_clear}
use Rattle.check_slots.specs.DenseExact.{dense_slot}
use Rattle.check_slots.specs.SparseExact.{is_extra, sparse_slot}
use Rattle.check_slots.specs.Passed.{slots_pass, PassedTo15}
use Rattle.check_slots.specs.LevelStarts.{dense_leaf_count}
use Rattle.check_slots.specs.SlotTests.{clear_at, dense_clear, sparse_clear, level_slot, last_levels_clear, number_16}

-- slots without bits are clear
pub no_bits : (s : Bytes) (f : Frame) → PassedTo15 s f → 0 < f.leaves → f.width ≡ 0 → slots_pass s f ≡ true
no_bits s f j some z =
    number_16 s f j some
    ∙ ap₂ ◌&&◌
    (ap₂ ◌&&◌ (from_pass _ 0 f.dense.nodes (λ i a b. pass (is_set (dp_body s f) i) 0 (dense_slot (dl_body s f) (dc_body s f) (dp_body s f) i)))
    (from_pass _ 0 f.sparse.entries (λ i a b. pass (is_extra (sl_body s f) (sb_body s f) f.sparse.entries i) 0 (sparse_slot (sc_body s f) (dense_leaf_count f) i))))
    (ap₂ ◌&&◌ (from_pass (clear_at s f (f.hash_width + 8)) (level_slot s f 62) (level_slot s f 63 - level_slot s f 62) (λ i a b. none (f.hash_width + 8) i))
    (from_pass (clear_at s f f.hash_width) (level_slot s f 63) (f.leaves - level_slot s f 63) (λ i a b. none f.hash_width i)))
  where
    none : (m v : ℕ) → clear_at s f m v ≡ true
    none m v = ap (λ (w : ℕ). slot_clear m w (bits (sv_body s f) (f.leaves * f.width)) v) z ∙ clear_none m

    pass : (b : Bool) (m v : ℕ) → (not b || clear_at s f m v) ≡ true
    pass true m v = none m v
    pass false m v = refl

-- Number 16 by its three tests, one after the other
module _ (s : Bytes) (f : Frame) (j : PassedTo15 s f) (some : 0 < f.leaves) where
  -- the first fails
  pub dense_fails : dense_clear s f ≡ false → slots_pass s f ≡ false
  dense_fails e = number_16 s f j some ∙ ap (λ (t : Bool). t && sparse_clear s f && last_levels_clear s f) e

  -- the second fails
  pub sparse_fails : dense_clear s f ≡ true → sparse_clear s f ≡ false → slots_pass s f ≡ false
  sparse_fails d e = number_16 s f j some ∙ ap₂ (λ (t u : Bool). t && u && last_levels_clear s f) d e

  -- the third decides
  pub levels_decide : dense_clear s f ≡ true → sparse_clear s f ≡ true → slots_pass s f ≡ last_levels_clear s f
  levels_decide d e = number_16 s f j some ∙ ap₂ (λ (t u : Bool). t && u && last_levels_clear s f) d e
