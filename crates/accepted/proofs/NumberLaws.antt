-- The answer of a call over an accepted image, from what its tests say.
use Prim.Native.Nat.{ℕ, suc, ◌+◌, ◌<◌, ◌≤◌}
use mathlib.Core.Path.{◌≡◌, sym, ap, ap₂, ◌∙◌}
use mathlib.Core.List.{[], ◌∷◌, ◌++◌}
use native.Mathlib.Omega.{arith}
use lib.ListN.{length, get_or, take, drop, set}
use Rattle.spec.specs.Bytes.{Bytes}
use Rattle.spec.specs.Frame.{read_settings}
use Rattle.spec.specs.Nodes.{read_leaves}
use Rattle.spec.specs.Rules.{rule, rule_number, rule_says}
use Rattle.spec.specs.Questions.{Question, QP, Reply, point, reply}
use Rattle.spec.specs.OneQuestion.{question_refusal, number, Answered, replied, refused, ask_one, reply_number, reply_rule, key_written}
use Rattle.spec.specs.Check.{verdict}
use Rattle.theory.specs.Terms.{IsBytes}
use Rattle.theory.proofs.Rules.{point_rule}
use Rattle.theory.proofs.Accept.{accepted_is_image}
use Rattle.theory.proofs.LengthBounds.{leaves_are}
use Rattle.theory.proofs.OneQuestionLaws.{one_refused, one_replied}
use Rattle.bits.specs.Bits.{overlaid}
use Rattle.ask_files.specs.ReplyLaws.{point_reply}
use Rattle.std.specs.Prelude.{Ok, Err}
use Rattle.image.specs.declared.refusals.Refusal.{Refusal}
use Rattle.image.specs.Refusals.{number_of, number_positive}
use Rattle.image.specs.declared.Frame.{Frame}
use Rattle.nav_nodes.specs.Accepted.{Accepted}
use Rattle.accepted.specs.Numbers.{numbered_of}

module _ (s : Bytes) (q : Question) where
  -- a question that is turned down
  module _ (r : Refusal) (e : number_of r ≡ question_refusal q) where
    turned : ask_one s q ≡ refused (number_of r)
    turned = one_refused s q (number_of r) (sym e) (omega (arith, number_positive r))

    pub refused_number : numbered_of (Err r) ≡ reply_number (ask_one s q)
    refused_number = sym (ap reply_number turned)

    pub refused_rule : numbered_of (Err r) ≡ reply_rule (ask_one s q)
    refused_rule = sym (ap reply_rule turned)

    -- the buffer for a key stays
    pub refused_key : (out : Bytes) → out ≡ key_written (ask_one s q) out
    refused_key out = sym (ap (λ (a : Answered). key_written a out) turned)

  -- a question that is taken
  module _ (e : question_refusal q ≡ 0) (f : Frame) (a : Accepted s f) where
    -- by the hash bits that the frame says
    answered : ask_one s q ≡ replied (reply f.hash_width (read_leaves s) q)
    answered = one_replied s q e ∙ ap (λ (h : ℕ). replied (reply h (read_leaves s) q)) a.hash_is

    pub replied_number : (x : ℕ) → x ≡ (reply f.hash_width (read_leaves s) q).number → numbered_of (Ok x) ≡ reply_number (ask_one s q)
    replied_number x h = ap number h ∙ sym (ap reply_number answered)

    -- the length of the reply's key and the key stand at the front of the buffer
    pub replied_key : (out key : Bytes) (n : ℕ) → take n key ≡ (reply f.hash_width (read_leaves s) q).key → n ≡ length (take n key) → 0 < length out
        → overlaid (set out 0 n) 1 (take n key) ≡ key_written (ask_one s q) out
    replied_key (x ∷ out) key n k size h =
        let same : n ∷ (take n key ++ drop (length (take n key)) out) ≡ key_written (replied (reply f.hash_width (read_leaves s) q)) (x ∷ out) = ap₂ {C = Bytes} (λ (m : ℕ) (z : Bytes). m ∷ (z ++ drop (length z) out)) (size ∙ ap length k) k in
        let one : 1 + length (take n key) ≡ suc (length (take n key)) = omega arith in
        rw one (same ∙ sym (ap (λ (r : Answered). key_written r (x ∷ out)) answered))
    replied_key [] key n k size h = absurd (omega arith)

-- a point: what its rule says, and the rule
module _ (s : Bytes) (k : Bytes) (e : question_refusal (QP k) ≡ 0) where
  pub point_number : IsBytes s → verdict s ≡ 0 → length k ≤ 64 → (x : ℕ) → x ≡ rule_says (rule (read_settings s).hash_width (read_leaves s) k) → numbered_of (Ok x) ≡ reply_number (ask_one s (QP k))
  point_number small v short x h =
      let o = accepted_is_image s small v in
      let p : point (read_settings s).hash_width (read_leaves s) k ≡ rule_says (rule (read_settings s).hash_width (read_leaves s) k) = rw (leaves_are s o) (point_rule (read_settings s).hash_width o.leaves o.fits.realizable o.fits.well_sized k short) in
      ap number (h ∙ sym p ∙ sym (ap (λ (r : Reply). r.number) (point_reply (read_settings s).hash_width (read_leaves s) k))) ∙ sym (ap reply_number (one_replied s (QP k) e))

  pub point_rule_is : (x : ℕ) → x ≡ rule_number (rule (read_settings s).hash_width (read_leaves s) k) → numbered_of (Ok x) ≡ reply_rule (ask_one s (QP k))
  point_rule_is x h = ap number (h ∙ sym (ap (λ (r : Reply). get_or r.key 0 0) (point_reply (read_settings s).hash_width (read_leaves s) k))) ∙ sym (ap reply_rule (one_replied s (QP k) e))
