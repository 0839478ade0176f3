-- What refusing, writing and succeeding answer, and what they leave of the buffer lent: the laws that build and ask share.
use Rattle.std.specs.Prelude.{ℕ, ◌<◌, ◌≤◌, ◌≡◌, refl, Bool, true, false, ◌++◌, ◌↔◌, length, take, drop, ltb}
use Rattle.std.proofs.Common.{ap, ◌∙◌, arith, length-append, length-drop, ltb-true, ltb-false, lt-ltb, le-ltb}
use Rattle.std.proofs.Math.Seq.{take-append_seam, drop-append_seam}
use Rattle.spec.specs.Bytes.{Bytes}
use Rattle.spec.specs.Answer.{Answer, written, Outcome, refuse, success, write}
use Rattle.theory.specs.Demands.{Kept}

-- bytes that fit are written
pub write_fits : (r : ℕ) (b out : Bytes) → length b ≤ length out → write r b out ≡ success b out
unfolding write
write_fits r b out h = rw (le-ltb (length out) (length b) h, write)

-- bytes that do not fit give the number
pub write_short : (r : ℕ) (b out : Bytes) → length out < length b → write r b out ≡ refuse r out
unfolding write
write_short r b out h = rw (lt-ltb (length out) (length b) h, write)

-- ---- answers

-- a refusal writes nothing
pub no_written : {A : Type 0} (r n : ℕ) (out : Bytes) (o : Outcome) → o ≡ refuse r out → o.answer ≡ written n → A
unfolding refuse
no_written r n out o e h =
    let f : o.answer ≡ Answer.refused r = ap (λ (o : Outcome). o.answer) e in
    let z : ◌≡◌ {A = ℕ} 0 1 = cc in
    absurd (omega arith)

-- the answer of a success
pub success_answer : (a out : Bytes) → (success a out).answer ≡ written (length a)
unfolding success
success_answer a out = refl

-- a refusal answers with its number
pub refuse_answer : (q r : ℕ) (out : Bytes) (o : Outcome) → o ≡ refuse q out → (o.answer ≡ Answer.refused r) ↔ (q ≡ r)
unfolding refuse
refuse_answer q r out o e =
    let f : o.answer ≡ Answer.refused q = ap (λ (o : Outcome). o.answer) e in
    (λ h. cc, λ h. f ∙ ap Answer.refused h)

-- a success is no refusal
pub success_refused : {A : Type 0} (a out : Bytes) (r : ℕ) (o : Outcome) → o ≡ success a out → o.answer ≡ Answer.refused r → A
unfolding success
success_refused a out r o e h =
    let f : o.answer ≡ written (length a) = ap (λ (o : Outcome). o.answer) e in
    let z : ◌≡◌ {A = ℕ} 0 1 = cc in
    absurd (omega arith)

-- a call that writes, or refuses with q where the bytes are longer than the buffer
pub write_answer : (q r : ℕ) (b out : Bytes) (o : Outcome) → o ≡ write q b out → (o.answer ≡ Answer.refused r) ↔ ((q ≡ r) × (length out < length b))
write_answer q r b out o e = (λ h. go (ltb (length out) (length b)) refl h, λ h. (refuse_answer q r out o (e ∙ write_short q b out h.1)).1 h.0)
  where
    go : (t : Bool) → ltb (length out) (length b) ≡ t → o.answer ≡ Answer.refused r → (q ≡ r) × (length out < length b)
    go true f h = let l = ltb-true (length out) (length b) f in ((refuse_answer q r out o (e ∙ write_short q b out l)).0 h, l)
    go false f h = success_refused b out r o (e ∙ write_fits q b out (ltb-false (length out) (length b) f)) h

-- the bytes that a success writes
pub success_written : (b out : Bytes) (n : ℕ) (o : Outcome) → o ≡ success b out → o.answer ≡ written n → take n o.final ≡ b
unfolding success
success_written b out n o e h =
    let f : o.answer ≡ written (length b) = ap (λ (o : Outcome). o.answer) e in
    let s : length b ≡ n = cc in
    let g : o.final ≡ b ++ drop (length b) out = ap (λ (o : Outcome). o.final) e in
    rw (g, ← s) (take-append_seam b (drop (length b) out))

-- and how many they are
pub success_length : (b out : Bytes) (n : ℕ) (o : Outcome) → o ≡ success b out → o.answer ≡ written n → n ≡ length b
unfolding success
success_length b out n o e h =
    let f : o.answer ≡ written (length b) = ap (λ (o : Outcome). o.answer) e in
    cc

-- what a success leaves
pub final_is : (a out : Bytes) (o : Outcome) → o ≡ success a out → o.final ≡ a ++ drop (length a) out
unfolding success
final_is a out o e = ap (λ (o : Outcome). o.final) e

-- ---- buffers

-- a refusal keeps the buffer
pub refuse_kept : (r : ℕ) (out : Bytes) → Kept out (refuse r out)
unfolding refuse
refuse_kept r out = record {
  refusal = λ s e. refl;
  success = λ n e. let z : ◌≡◌ {A = ℕ} 0 1 = cc in absurd (omega arith);
}

-- a success keeps its length and the bytes behind those written
pub success_kept : (b out : Bytes) → length b ≤ length out → Kept out (success b out)
unfolding success
success_kept b out h = record {
  refusal = λ r e. let z : ◌≡◌ {A = ℕ} 0 1 = cc in absurd (omega arith);
  success = λ n e.
      let s : length b ≡ n = cc in
      (omega arith, omega (arith, length-append b (drop (length b) out), length-drop (length b) out), rw (← s) (drop-append_seam b (drop (length b) out)));
}

-- so does a call that writes what fits
pub write_kept : (r : ℕ) (b out : Bytes) → Kept out (write r b out)
write_kept r b out = go (ltb (length out) (length b)) refl
  where
    go : (t : Bool) → ltb (length out) (length b) ≡ t → Kept out (write r b out)
    go true e = rw (write_short r b out (ltb-true (length out) (length b) e)) (refuse_kept r out)
    go false e = let h = ltb-false (length out) (length b) e in rw (write_fits r b out h) (success_kept b out h)
