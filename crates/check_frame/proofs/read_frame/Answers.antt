-- The tests in their order: each that fails gives 11 or 12, and where all pass the header and the records stand and their lengths agree.
use Prim.Native.Nat.{ℕ, ◌≤◌}
use mathlib.Core.Path.{◌≡◌, sym, ap, ◌∙◌}
use mathlib.Core.Option.{some}
use native.Mathlib.Omega.{arith}
use lib.ListN.{length, get_or}
use Rattle.std.proofs.lemmas.Result.{err_from_is_err_and}
use Rattle.spec.specs.Bytes.{Bytes}
use Rattle.spec.specs.Frame.{rows_of}
use Rattle.image.specs.Header.{ReadsHeader}
use Rattle.image.specs.Records.{records_end}
use Rattle.image.specs.declared.Header.{Header}
use Rattle.image.specs.declared.refusals.Refusal.TheVariants.{FrameWrong}
use Rattle.check_frame.specs.FrameLaws.{header_short, header_first, header_second, header_stands, records_standing, records_absent, records_short, FrameStands, settings_wrong, lengths_wrong}
use Rattle.check_frame.specs.Found.{end_used, end_refused}
use Rattle.check_frame.proofs.read_frame.Goals as goal

-- what the tests of number 11 have shown
stood : (s : Bytes) (h : Header) (e : ℕ) → 22 ≤ length s → get_or s 0 0 ≡ 72 → get_or s 1 0 ≡ 68 → records_end (rows_of s) s 22 ≡ some e → e ≡ length s → ReadsHeader s h → FrameStands s h
stood s h e long first second all whole reads = record {
  header = header_stands s long first second;
  records = records_standing s long (all ∙ ap some whole);
  reads = reads;
}

pub returns-then-image-lt-HEADER-clause-read : goal.returns-then-image-lt-HEADER-clause-read
returns-then-image-lt-HEADER-clause-read c =
    (omega arith, header_short c.args.image.now c.if-image-lt-HEADER.true)

pub returns-then-image-ne72-clause-read : goal.returns-then-image-ne72-clause-read
returns-then-image-ne72-clause-read c =
    (omega arith, header_first c.args.image.now c.if-image-ne72.true)

pub returns-then-image-ne68-clause-read : goal.returns-then-image-ne68-clause-read
returns-then-image-ne68-clause-read c =
    (omega arith, header_second c.args.image.now c.if-image-ne68.true)

pub returns-in_err-end-clause-read : goal.returns-in_err-end-clause-read
returns-in_err-end-clause-read c =
    let p = err_from_is_err_and c.from_residual.result c.from_residual.ensures.1 in
    let q = end_refused c.last_end.result FrameWrong c.in_err-end.field-0.0 (sym c.ok_or.ensures.value ∙ c.in_err-end.was) in
    rw (p.1, p.2, q.1) (omega arith, records_absent c.args.image.now c.if-image-lt-HEADER.false (sym c.last_end.ensures ∙ q.0))

pub returns-then-end-image-clause-read : goal.returns-then-end-image-clause-read
returns-then-end-image-clause-read c =
    let end = sym c.last_end.ensures ∙ end_used c.last_end.result FrameWrong c.in_ok-end.end (sym c.ok_or.ensures.value ∙ c.in_ok-end.was) in
    (omega arith, records_short c.args.image.now c.in_ok-end.end c.if-image-lt-HEADER.false end c.if-end-image.true)

pub returns-then-not-settings_valid-clause-read : goal.returns-then-not-settings_valid-clause-read
returns-then-not-settings_valid-clause-read c =
    let end = sym c.last_end.ensures ∙ end_used c.last_end.result FrameWrong c.in_ok-end.end (sym c.ok_or.ensures.value ∙ c.in_ok-end.was) in
    let p = stood c.args.image.now c.read_header-h.result c.in_ok-end.end c.if-image-lt-HEADER.false c.if-image-ne72.false c.if-image-ne68.false end c.if-end-image.false c.read_header-h.ensures in
    (omega arith, settings_wrong c.args.image.now c.read_header-h.result p (sym c.settings_valid.ensures ∙ c.if-not-settings_valid.true))

pub lengths_valid-requires : goal.lengths_valid-requires
lengths_valid-requires c =
    let end = sym c.last_end.ensures ∙ end_used c.last_end.result FrameWrong c.in_ok-end.end (sym c.ok_or.ensures.value ∙ c.in_ok-end.was) in
    let p = stood c.args.image.now c.read_header-h.result c.in_ok-end.end c.if-image-lt-HEADER.false c.if-image-ne72.false c.if-image-ne68.false end c.if-end-image.false c.read_header-h.ensures in
    (p.reads.short, p.records)

pub returns-then-not-lengths_valid-clause-read : goal.returns-then-not-lengths_valid-clause-read
returns-then-not-lengths_valid-clause-read c =
    let end = sym c.last_end.ensures ∙ end_used c.last_end.result FrameWrong c.in_ok-end.end (sym c.ok_or.ensures.value ∙ c.in_ok-end.was) in
    let p = stood c.args.image.now c.read_header-h.result c.in_ok-end.end c.if-image-lt-HEADER.false c.if-image-ne72.false c.if-image-ne68.false end c.if-end-image.false c.read_header-h.ensures in
    (omega arith, lengths_wrong c.args.image.now c.read_header-h.result p (sym c.lengths_valid.ensures ∙ c.if-not-lengths_valid.true))

pub laid_out-requires : goal.laid_out-requires
laid_out-requires c =
    let end = sym c.last_end.ensures ∙ end_used c.last_end.result FrameWrong c.in_ok-end.end (sym c.ok_or.ensures.value ∙ c.in_ok-end.was) in
    record {
      stands = stood c.args.image.now c.read_header-h.result c.in_ok-end.end c.if-image-lt-HEADER.false c.if-image-ne72.false c.if-image-ne68.false end c.if-end-image.false c.read_header-h.ensures;
      settings = sym c.settings_valid.ensures ∙ c.if-not-settings_valid.false;
      lengths = sym c.lengths_valid.ensures ∙ c.if-not-lengths_valid.false;
    }
