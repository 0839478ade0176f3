-- Finished tables that are read: what each entry says of the body, and what a count that goes on from an entry is given.
use Rattle.std.specs.Prelude.{ℕ, ◌+◌, ◌*◌, ◌≤◌, ◌<◌, ◌≡◌, length}
use Rattle.std.proofs.Common.{ap, ◌∙◌, arith}
use Rattle.spec.specs.Bytes.{Bytes}
use Rattle.bits.specs.Bits.{rank}
use Rattle.rank_tables.specs.TableEntries.{table_entry}

-- entry b of a table of ranks by blocks of w bits
abbrev pub RankEntry : ℕ → Bytes → Bytes → ℕ → Type 0
RankEntry w s rt b = (4 * b + 4 ≤ length rt) × (table_entry rt b ≡ rank s (w * b))

-- n bits and their ranks by blocks of w
abbrev pub RankTable : ℕ → ℕ → Bytes → Bytes → Type 0
RankTable w n s rt = (n ≤ 8 * length s) × ((b : ℕ) → w * b < n → RankEntry w s rt b)

-- entry t of the samples of the first n bits: the position of one number 64 t, from 0
abbrev pub Sample : Bytes → Bytes → ℕ → ℕ → Type 0
Sample s ts n t = (4 * t + 4 ≤ length ts) × (table_entry ts t ≤ n) × (rank s (table_entry ts t) ≡ 64 * t)

-- n bits with so many ones, and every 64th one's position
abbrev pub SampleTable : ℕ → ℕ → Bytes → Bytes → Type 0
SampleTable n total s ts = (n ≤ 8 * length s) × (rank s n ≡ total) × ((t : ℕ) → 64 * t < total → Sample s ts n t)

-- A rank is counted on from block b, which starts before bit k.
module _ (w b : ℕ) {n k : ℕ} (s rt : Bytes) (h : RankTable w n s rt) (l : k ≤ n) (m : w * b < k) where
  -- the block's entry is in the table
  pub rank_room : 4 * b + 4 ≤ length rt
  rank_room = (h.1 b (omega arith)).0

  -- it says how many ones stand before the block's first word, from which the count goes on
  pub rank_counts : (word : ℕ) {before : ℕ} → w * b ≡ 64 * word → before ≡ table_entry rt b → (k ≤ 8 * length s) × (64 * word ≤ k) × (before ≡ rank s (64 * word))
  rank_counts word e r = (omega (arith, h.0), omega arith, r ∙ (h.1 b (omega arith)).1 ∙ ap (rank s) e)
