-- What the reader of the frame answers.
use Rattle.std.specs.Prelude.{ℕ, ◌≤◌, ◌≡◌, true, false, length, get_or, Option, None, Some, Result, Ok, Err, ok_or}
use Rattle.std.proofs.Common.{refl, sym, ap, ◌∙◌}
use Rattle.std.proofs.Math.Option as spec
use Rattle.spec.specs.Bytes.{Bytes}
use Rattle.spec.specs.Image.{rows}
use Rattle.spec.specs.Frame.{rows_of}
use Rattle.theory.specs.Terms.{From}
use Rattle.theory.specs.Demands.{CheckRefusal}
use Rattle.image.specs.Records.{row_at, stands, record_end, records_end}
use Rattle.image.specs.Refusals.{number_of}
use Rattle.image.specs.declared.refusals.Refusal.{Refusal}
use Rattle.check_frame.specs.FrameLaws.{end_level}
use Rattle.check_frame.specs.declared.ranked.RankedFrame.{RankedFrame}

-- record number i at an offset: where it ends, or that it does not stand there
abbrev pub RecordFound : Bytes → ℕ → ℕ → Option ℕ → Type 0
RecordFound s i at (Some e) = (stands (row_at i) s at ≡ true) × (e ≡ record_end s at)
RecordFound s i at None = stands (row_at i) s at ≡ false

-- where records end, if they stand, as the document's option
abbrev pub end_found : Option ℕ → spec.Option ℕ
end_found (Some e) = spec.some e
end_found None = spec.none

-- An end that was found is the one that is used; where none was, the refusal is the one given.
pub end_used : (o : Option ℕ) (r : Refusal) (e : ℕ) → ok_or o r ≡ Ok e → end_found o ≡ spec.some e
end_used (Some n) r e h = let q : n ≡ e = cc in ap spec.some q
end_used None r e h = absurd cc

pub end_refused : (o : Option ℕ) (r x : Refusal) → ok_or o r ≡ Err x → (end_found o ≡ spec.none) × (x ≡ r)
end_refused (Some n) r x h = absurd cc
end_refused None r x h = (refl, cc)

-- where the twelve records end, if they stand: within the image
abbrev pub TwelveFound : Bytes → Option ℕ → Type 0
TwelveFound s (Some e) = (records_end rows s 22 ≡ spec.some e) × (e ≤ length s)
TwelveFound s None = records_end rows s 22 ≡ spec.none

-- In version 2 what is found of LV behind the twelve is what is found of all.
pub level_found : (s : Bytes) (e : ℕ) → records_end rows s 22 ≡ spec.some e → get_or s 2 0 ≡ 2 → (r : Option ℕ) → RecordFound s 12 e r → end_found r ≡ records_end (rows_of s) s 22
level_found s e h v (Some m) q = ap spec.some q.1 ∙ sym (end_level s e h v true q.0)
level_found s e h v None q = sym (end_level s e h v false q)

-- what reading the frame gives: the image with a frame of it; or a refusal by 11 or 12, the number with which the check refuses it
abbrev pub ReadAs : Bytes → Result RankedFrame Refusal → Type 0
ReadAs s (Ok r) = r.image.bytes.now ≡ s
ReadAs s (Err r) = From 11 12 (number_of r) × CheckRefusal s (number_of r)
