-- What the numbers 13 and 15 ask of the bodies of an image: spare bits, rank tables and samples.
use Rattle.std.specs.Prelude.{ℕ, ◌+◌, ◌*◌, ◌%◌, ◌≤◌, ◌<◌, ◌≡◌, refl, Bool, true, false, ◌&&◌, eqb, length, take}
use Rattle.std.proofs.Common.{sym, ◌∙◌, true≢false, arith, mod-eq_of_lt, eqb-true}
use Rattle.std.proofs.Math.Path.{ap, ap₂}
use Rattle.std.proofs.Math.Bool.{and-true, and_assoc}
use Rattle.std.proofs.lemmas.Bool.{eqb-false}
use Rattle.spec.specs.Bytes.{Bytes, blocks, every, equal, unpack}
use Rattle.spec.specs.Image.{ranks, samples}
use Rattle.spec.specs.Frame.{Parts, parts, named}
use Rattle.spec.specs.Check.{no_spare, spare_clear, ranks_valid}
use Rattle.bits.specs.Bits.{rank, select}
use Rattle.bits.proofs.RankLaws.{rank_le}
use Rattle.bits_select.specs.SelectLaws.{select_le}
use Rattle.bits.proofs.ValueLaws.{Small}
use Rattle.bits.proofs.SliceParts.{length_part}
use Rattle.bits.proofs.PartLaws.{bits_room, small_part}
use Rattle.rank_tables.specs.TableEntries.{table_of, rank_table, sample_table, table_entry, table_wrong}
use Rattle.rank_tables.specs.Ranks.{block_begun, ranks_are}
use Rattle.rank_tables.specs.Samples.{samples_are}
use Rattle.image.specs.declared.Frame.{Frame}
use Rattle.bits.specs.Bits.{part}
use Rattle.image.specs.FrameOf.{FrameOf, frame_named}
use Rattle.rank_tables.specs.Tables.{Ranked}
use Rattle.check_tables.specs.declared.SparseCounts.{SparseCounts}

-- the table at an offset holds the ranks, by blocks of w bits, of the n bits of the body at another
abbrev pub holds_ranks : Bytes → ℕ → ℕ → ℕ → ℕ → Bool
holds_ranks s at n table w = equal (part s table (4 * blocks w n)) (ranks w (take n (unpack (part s at (blocks 8 n)))))

-- the m bytes at an offset hold the samples of the n bits of the body at another
abbrev pub holds_samples : Bytes → ℕ → ℕ → ℕ → ℕ → Bool
holds_samples s at n table m = equal (part s table m) (samples (take n (unpack (part s at (blocks 8 n)))))

-- RL, RC and RP hold the ranks of DL, DC and DP
abbrev pub dense_agrees : Bytes → Frame → Bool
dense_agrees s f = (holds_ranks s f.dl (256 * f.dense.nodes) f.rl 64 && holds_ranks s f.dc (256 * f.dense.nodes) f.rc 64) && holds_ranks s f.dp f.dense.nodes f.rp 64

-- RS holds the ranks of SC, and TS the samples of SB
abbrev pub sparse_agrees : Bytes → Frame → Bool
sparse_agrees s f = holds_ranks s f.sc f.sparse.entries f.rs 512 && holds_samples s f.sb f.sparse.entries f.ts (4 * blocks 64 f.sparse.nodes)

-- what was counted of the sparse bodies, and whether their tables are right
pub record SparseCounted (s : Bytes) (f : Frame) (c : SparseCounts) : Type 0 where
  pub starts : c.starts ≡ rank (part s f.sb (blocks 8 f.sparse.entries)) f.sparse.entries
  pub children : c.children ≡ rank (part s f.sc (blocks 8 f.sparse.entries)) f.sparse.entries
  pub agrees : c.agrees ≡ sparse_agrees s f

-- a body of n bits and the table of its ranks, by blocks of so many words, lie within the image
pub record RanksInside (s : Bytes) (at n table words : ℕ) : Type 0 where
  -- a block is one to eight words
  pub some : 0 < words
  pub few : words ≤ 8
  -- the bits are few
  pub short : n < 1099511627776
  -- the body
  pub body : at + blocks 8 n ≤ length s
  -- the table, four bytes a block
  pub ranks : table + 4 * blocks (64 * words) n ≤ length s

-- a body of n bits and its samples, of m bytes, lie within the image
pub record SamplesInside (s : Bytes) (at n table m : ℕ) : Type 0 where
  -- the bits are few
  pub short : n < 4294967296
  -- the body
  pub body : at + blocks 8 n ≤ length s
  -- the samples
  pub samples : table + m ≤ length s

-- a block of some words has bits
positive : {w : ℕ} → 0 < w → 0 < 64 * w
positive h = omega arith

-- a table of ranks and its body, as lent
module _ (s : Bytes) (at n table words : ℕ) (p : RanksInside s at n table words) where
  long : length (part s at (blocks 8 n)) ≡ blocks 8 n
  long = length_part s at (blocks 8 n) p.body

  -- they are what the comparison asks for
  pub ranked_parts : Ranked (part s at (blocks 8 n)) n (part s table (4 * blocks (64 * words) n)) words
  ranked_parts = record {
    some = p.some;
    few = p.few;
    short = p.short;
    within = bits_room n (part s at (blocks 8 n)) long;
    sized = length_part s table (4 * blocks (64 * words) n) p.ranks;
  }

  -- and what it gives is what document 01 asks for
  pub ranked_is : equal (part s table (4 * blocks (64 * words) n)) (rank_table (64 * words) (part s at (blocks 8 n)) (blocks (64 * words) n)) ≡ holds_ranks s at n table (64 * words)
  ranked_is = ap (equal (part s table (4 * blocks (64 * words) n))) (sym (ranks_are (64 * words) n (part s at (blocks 8 n)) (positive p.some) (bits_room n (part s at (blocks 8 n)) long)))

-- samples and their body, as lent
pub sampled_is : (s : Bytes) (at n table m : ℕ) → at + blocks 8 n ≤ length s
    → equal (part s table m) (sample_table (part s at (blocks 8 n)) n (blocks 64 (rank (part s at (blocks 8 n)) n))) ≡ holds_samples s at n table m
sampled_is s at n table m h = ap (equal (part s table m)) (sym (samples_are n (part s at (blocks 8 n)) (bits_room n (part s at (blocks 8 n)) (length_part s at (blocks 8 n) h))))

-- ---- what is read in a table that is right

-- an entry of it
table_entry_is : (f : ℕ → ℕ) (n : ℕ) (t : Bytes) → Small t → equal t (table_of f n) ≡ true → (i : ℕ) → i < n → table_entry t i ≡ f i % 4294967296
table_entry_is f n t h e i l = go (eqb (table_entry t i) (f i % 4294967296)) refl
  where
    go : (b : Bool) → eqb (table_entry t i) (f i % 4294967296) ≡ b → table_entry t i ≡ f i % 4294967296
    go true q = eqb-true (table_entry t i) (f i % 4294967296) q
    go false q = absurd (true≢false (sym e ∙ table_wrong f n t h i l (eqb-false (table_entry t i) (f i % 4294967296) q)))

-- a rank: the ones before a block
pub stored_rank : (s : Bytes) (at n table words b : ℕ) → Small s → RanksInside s at n table words → holds_ranks s at n table (64 * words) ≡ true → n < 4294967296 → 64 * words * b < n
    → table_entry (part s table (4 * blocks (64 * words) n)) b ≡ rank (part s at (blocks 8 n)) (64 * words * b)
stored_rank s at n table words b h p e l k =
    table_entry_is (λ i. rank (part s at (blocks 8 n)) (64 * words * i)) (blocks (64 * words) n) (part s table (4 * blocks (64 * words) n)) (small_part s table (4 * blocks (64 * words) n) h) (ranked_is s at n table words p ∙ e) b (block_begun (64 * words) b n (positive p.some) k)
    ∙ mod-eq_of_lt (omega (arith, rank_le (part s at (blocks 8 n)) (64 * words * b)))

-- a sample: the position of the set bit number 64 t, counted from 0
pub stored_sample : (s : Bytes) (at n table m t : ℕ) → Small s → at + blocks 8 n ≤ length s → holds_samples s at n table m ≡ true → n < 4294967296 → 64 * t < rank (part s at (blocks 8 n)) n
    → table_entry (part s table m) t ≡ select (part s at (blocks 8 n)) n (64 * t)
stored_sample s at n table m t h p e l k =
    table_entry_is (λ i. select (part s at (blocks 8 n)) n (64 * i)) (blocks 64 (rank (part s at (blocks 8 n)) n)) (part s table m) (small_part s table m h) (sampled_is s at n table m p ∙ e) t (omega arith)
    ∙ mod-eq_of_lt (omega (arith, select_le (part s at (blocks 8 n)) n (64 * t)))

-- bytes of whole bits
whole_bytes : (d : ℕ) → blocks 8 (256 * d) ≡ 32 * d
whole_bytes d = omega arith

-- ---- what the numbers ask

module _ (s : Bytes) (f : Frame) (h : FrameOf s f) where
  -- four tests in a row
  four : (a b c d : Bool) → a && (b && (c && (d && true))) ≡ ((a && b) && c) && d
  four a b c d = simp (and_assoc, and-true)

  -- number 13 by the frame
  pub spare_is : spare_clear (parts s (frame_named s f)) (frame_named s f)
      ≡ ((no_spare f.dense.nodes (part s f.dp (blocks 8 f.dense.nodes))
      && no_spare f.sparse.entries (part s f.sc (blocks 8 f.sparse.entries)))
      && no_spare f.sparse.entries (part s f.sb (blocks 8 f.sparse.entries)))
      && no_spare (f.leaves * f.width) (part s f.sv (blocks 8 (f.leaves * f.width)))
  unfolding spare_clear every named
  spare_is =
      ap (λ (p : Parts). spare_clear p (frame_named s f)) h.parts_are
      ∙ ap (λ (w : ℕ). no_spare f.dense.nodes (part s f.dp (blocks 8 f.dense.nodes)) && (no_spare f.sparse.entries (part s f.sc (blocks 8 f.sparse.entries)) && (no_spare f.sparse.entries (part s f.sb (blocks 8 f.sparse.entries)) && (no_spare (f.leaves * w) (part s f.sv (blocks 8 (f.leaves * f.width))) && true)))) (sym h.width)
      ∙ four (no_spare f.dense.nodes (part s f.dp (blocks 8 f.dense.nodes))) (no_spare f.sparse.entries (part s f.sc (blocks 8 f.sparse.entries))) (no_spare f.sparse.entries (part s f.sb (blocks 8 f.sparse.entries))) (no_spare (f.leaves * f.width) (part s f.sv (blocks 8 (f.leaves * f.width))))

  -- five tests in a row
  five : (a b c d e : Bool) → a && (b && (c && (d && (e && true)))) ≡ ((a && b) && c) && (d && e)
  five a b c d e = simp (and_assoc, and-true)

  -- ranks of a body of whole bytes
  whole_ranks : (at table : ℕ)
      → equal (part s table (4 * blocks 64 (256 * f.dense.nodes))) (ranks 64 (take (256 * f.dense.nodes) (unpack (part s at (32 * f.dense.nodes))))) ≡ holds_ranks s at (256 * f.dense.nodes) table 64
  whole_ranks at table = ap (λ (k : ℕ). equal (part s table (4 * blocks 64 (256 * f.dense.nodes))) (ranks 64 (take (256 * f.dense.nodes) (unpack (part s at k))))) (sym (whole_bytes f.dense.nodes))

  -- number 15 by the frame
  pub tables_are : ranks_valid (parts s (frame_named s f)) (frame_named s f) ≡ dense_agrees s f && sparse_agrees s f
  unfolding ranks_valid every named
  tables_are =
      ap (λ (p : Parts). ranks_valid p (frame_named s f)) h.parts_are
      ∙ ap₂ (λ (a b : Bool). a && (b && (holds_ranks s f.dp f.dense.nodes f.rp 64 && (holds_ranks s f.sc f.sparse.entries f.rs 512 && (holds_samples s f.sb f.sparse.entries f.ts (4 * blocks 64 f.sparse.nodes) && true)))))
      (whole_ranks f.dl f.rl) (whole_ranks f.dc f.rc)
      ∙ five (holds_ranks s f.dl (256 * f.dense.nodes) f.rl 64) (holds_ranks s f.dc (256 * f.dense.nodes) f.rc 64) (holds_ranks s f.dp f.dense.nodes f.rp 64) (holds_ranks s f.sc f.sparse.entries f.rs 512) (holds_samples s f.sb f.sparse.entries f.ts (4 * blocks 64 f.sparse.nodes))
