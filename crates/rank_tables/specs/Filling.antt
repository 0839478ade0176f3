-- A table of 32-bit entries, written entry by entry behind the finished body that it is counted in. Used by the writers of ranks and of samples.
use Rattle.std.specs.Prelude.{ℕ, ◌+◌, ◌-◌, ◌*◌, ◌≤◌, ◌≡◌, refl, length}
use Rattle.std.proofs.Common.{sym, ap, ◌∙◌, arith}
use borrow.Rule.Slice.PartMut.{put_mid, mid_of}
use Rattle.spec.specs.Bytes.{Bytes, le32}
use Rattle.bits.specs.Bits.{part, overlaid}
use Rattle.bits.proofs.Overlaying.{length_overlaid, overlaid_nil, lent_overlaid, length_le32}
use Rattle.bits.proofs.SliceParts.{part_kept}
use Rattle.rank_tables.specs.TableEntries.{table_of, table_none, table_entry_overlaid, length_table}

-- `mid` is `out` with n entries from `table` on, entry number i the number f i; the body has m bytes from `from`
pub record Filled (out : Bytes) (from m table : ℕ) (f : ℕ → ℕ) (n : ℕ) (mid : Bytes) : Type 0 where
  pub size : length mid ≡ length out  -- no byte more or less
  pub text : mid ≡ overlaid out table (table_of f n)  -- the entries stand from `table` on, and all else stays
  pub kept : part mid from m ≡ part out from m  -- the body stays as it was

module _ (out : Bytes) (from m table : ℕ) (f : ℕ → ℕ) where
  -- no entry yet
  pub filled_none : Filled out from m table f 0 out
  filled_none = record { size = refl; text = overlaid_nil out table ∙ ap (overlaid out table) (sym (table_none f)); kept = refl }

  -- one entry more, written in the part that was lent from the table's start
  pub filled_more : (n : ℕ) (mid ys : Bytes) (v : ℕ) → from + m ≤ table → table + 4 * n + 4 ≤ length out → Filled out from m table f n mid → v ≡ f n
      → ys ≡ overlaid (mid_of table (length mid - table) mid) (4 * n) (le32 v) → Filled out from m table f (n + 1) (put_mid table (length mid - table) mid ys)
  filled_more n mid ys v b h w e g =
      let l : length mid ≡ length out = w.size in
      let o : put_mid table (length mid - table) mid ys ≡ overlaid out table (table_of f (n + 1)) =
      ap (put_mid table (length mid - table) mid) (g ∙ ap (λ (x : ℕ). overlaid (mid_of table (length mid - table) mid) (4 * n) (le32 x)) e)
      ∙ lent_overlaid mid (le32 (f n)) table (4 * n) (omega (arith, length_le32 (f n)))
      ∙ ap (λ (z : Bytes). overlaid z (table + 4 * n) (le32 (f n))) w.text ∙ table_entry_overlaid out f table n (table + 4 * n) refl h in
      let k : table + length (table_of f (n + 1)) ≤ length out = omega (arith, length_table f (n + 1)) in
      record {
        size = ap length o ∙ length_overlaid out table (table_of f (n + 1)) k;
        text = o;
        kept = ap (λ (z : Bytes). part z from m) o ∙ part_kept out (table_of f (n + 1)) from m table b k;
      }
