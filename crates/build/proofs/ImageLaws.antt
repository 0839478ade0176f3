-- The cases of the image of an accepted list: its length, 8, 7, and the image in the output.
use Prim.Native.Nat.{ℕ, ◌+◌, ◌≤◌, ◌<◌}
use mathlib.Core.Path.{◌≡◌, sym, ap, ap₂, ◌∙◌}
use mathlib.Core.List.{◌++◌}
use lib.ListN.{length, drop}
use Rattle.spec.specs.Bytes.{Bytes}
use Rattle.spec.specs.Keys.{keys_of}
use Rattle.spec.specs.Image.{Settings}
use Rattle.spec.specs.Answer.{refuse, success}
use Rattle.spec.specs.Build.{write_stated}
use Rattle.theory.proofs.BuildLaws.{stated_wrong, stated_right}
use Rattle.theory.proofs.OutcomeLaws.{write_fits, write_short}
use Rattle.std.specs.Prelude.{Ok, Err}
use Rattle.image.specs.declared.refusals.Refusal.TheVariants.{OutputTooShort, StatedLengthWrong}
use Rattle.image.specs.Outcomes.{outcome}
use Rattle.build_keys.specs.CountPass.{list_counts}
use Rattle.build_keys.specs.declared.LevelCounts.{LevelCounts}
use Rattle.build_records.specs.Plan.{Planned, plan_settings, start_at, plan_image, plan_levels, plan_end}
use Rattle.build_records.specs.declared.Plan.{Plan}
use Rattle.build.specs.Image.{image_of}
use native.Mathlib.Omega.{arith}

module _ (list : Bytes) (p : Plan) (w : Planned list p) (c : LevelCounts) (k : c ≡ list_counts (keys_of list)) (st : Settings) (e : plan_settings p ≡ st) where
  planned_image : plan_image list p ≡ image_of list st
  planned_image = ap (image_of list) e

  -- its length is where its last record ends
  pub image_end : (end : ℕ) → end ≡ start_at p 12 + length (plan_levels p c.nodes) → end ≡ length (image_of list st)
  image_end end d = d ∙ plan_end list p w c k ∙ ap length planned_image

  module _ (end : ℕ) (d : end ≡ start_at p 12 + length (plan_levels p c.nodes)) (stated : ℕ) (out : Bytes) where
    -- 8: the stated length is not the image's
    pub length_not_stated : (stated ≡ end → ⊥) → outcome (Err StatedLengthWrong) out ≡ write_stated stated (image_of list st) out
    unfolding refuse
    length_not_stated h = sym (stated_wrong stated (image_of list st) out (λ s. h (s ∙ sym (image_end end d))))

    -- 7: the image is longer than the output
    pub too_long : stated ≡ end → length out < end → outcome (Err OutputTooShort) out ≡ write_stated stated (image_of list st) out
    unfolding refuse
    too_long s h = sym (stated_right stated (image_of list st) out (s ∙ image_end end d) ∙ write_short 7 (image_of list st) out (omega (arith, image_end end d)))

    -- the image has room in the output
    pub image_room : end ≤ length out → length (plan_image list p) ≤ length out
    image_room h = omega (arith, d, plan_end list p w c k)

    -- the image stands at the output's front
    pub image_built : (q : Bytes) → stated ≡ end → end ≤ length out → q ≡ plan_image list p ++ drop (length (plan_image list p)) out → outcome (Ok end) q ≡ write_stated stated (image_of list st) out
    unfolding success
    image_built q s h f =
        ap₂ (λ (n : ℕ) (z : Bytes). outcome (Ok n) z) (d ∙ plan_end list p w c k) f
        ∙ ap (λ (b : Bytes). success b out) planned_image
        ∙ sym (stated_right stated (image_of list st) out (s ∙ image_end end d) ∙ write_fits 7 (image_of list st) out (omega (arith, image_end end d)))
