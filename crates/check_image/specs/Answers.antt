-- What the public call check answers, as document 01's numbers, and what accepting an image gives.
use Rattle.std.specs.Prelude.{◌≡◌, Result, Ok, Err}
use Rattle.spec.specs.Bytes.{Bytes}
use Rattle.spec.specs.Check.{verdict, Checked, accepted, refused}
use Rattle.theory.specs.Demands.{CheckRefusal}
use Rattle.theory.proofs.CheckStages.{refusal_verdict}
use Rattle.image.specs.FrameOf.{FrameOf}
use Rattle.image.specs.Refusals.{number_of}
use Rattle.image.specs.declared.refusals.Refusal.{Refusal}
use Rattle.image.specs.declared.AcceptedImage.{AcceptedImage}

-- the document's answer for each case
abbrev pub answer : Result (Unit {0}) Refusal → Checked
answer (Ok _) = accepted
answer (Err r) = refused (number_of r)

-- what judging an image says: its verdict is 0; or a refusal by the verdict's number
abbrev pub Judged : Bytes → Result (Unit {0}) Refusal → Type 0
Judged s (Ok _) = verdict s ≡ 0
Judged s (Err r) = verdict s ≡ number_of r

-- what accepting an image gives: the image, with a frame of it and a verdict of 0; or a refusal by the verdict's number
abbrev pub CheckedAs : Bytes → Result AcceptedImage Refusal → Type 0
CheckedAs s (Ok a) = (a.bytes.now ≡ s) × FrameOf s a.frame × (verdict s ≡ 0)
CheckedAs s (Err r) = verdict s ≡ number_of r

-- A refusal is by the verdict's number.
pub refuses : {s : Bytes} (r : Refusal) → CheckRefusal s (number_of r) → verdict s ≡ number_of r
refuses r h = refusal_verdict h
