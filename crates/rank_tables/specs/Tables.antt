-- What the functions of rank_tables ask of a body and its table.
use Rattle.std.specs.Prelude.{ℕ, ◌+◌, ◌-◌, ◌*◌, ◌≤◌, ◌<◌, min, ◌≡◌, refl, Bool, true, false, ◌&&◌, length, leb, eqb}
use Rattle.std.proofs.Common.{sym, ap, ap₂, ◌∙◌, le-leb, eq-eqb, ne_eqb, eqb-true, arith}
use Rattle.std.proofs.Math.Bool.{and-false}
use Rattle.std.proofs.lemmas.Bool.{lt-leb, eqb-false}
use Rattle.spec.specs.Bytes.{Bytes, blocks}
use Rattle.bits.specs.Bits.{bit_at, rank, select, part}
use Rattle.bits.proofs.RankLaws.{rank_up}
use Rattle.rank_tables.specs.TableEntries.{table_entry}
use Rattle.rank_tables.specs.Samples.{OneAt, select_one, one_select, select_within, sampled}
use Rattle.rank_tables.specs.declared.Span.{Span}

-- ---- a table written behind a finished body

-- the bytes of a span
abbrev pub spanned : Bytes → Span → Bytes
spanned s b = part s b.at b.len

-- n ranks of the body in a span, for blocks of so many words, have room in `out` from an offset on
pub record RanksRoom (out : Bytes) (body : Span) (table n words : ℕ) : Type 0 where
  pub behind : body.at + body.len ≤ table  -- the table starts behind the body
  pub room : table + 4 * n ≤ length out  -- it ends within the output
  pub short : body.len < 4294967296  -- no rank is longer than 32 bits
  pub starts : (b : ℕ) → b < n → 64 * (words * b) ≤ 8 * body.len  -- every block starts within the body

-- the samples of the first so many bits of the body in a span have room in `out` from an offset on
pub record SamplesRoom (out : Bytes) (body : Span) (bits table : ℕ) : Type 0 where
  pub behind : body.at + body.len ≤ table  -- the table starts behind the body
  pub within : bits ≤ 8 * body.len  -- the bits are in the body
  pub short : bits < 4294967296  -- no position is longer than 32 bits
  pub room : table + 4 * blocks 64 (rank (spanned out body) bits) ≤ length out  -- the table ends within the output

-- ---- a table compared

-- the first n bits of a body, and a table with an entry for each block of so many words of them
pub record Ranked (body : Bytes) (n : ℕ) (table : Bytes) (words : ℕ) : Type 0 where
  pub some : 0 < words
  pub few : words ≤ 8
  pub short : n < 1099511627776
  pub within : n ≤ 8 * length body
  pub sized : length table ≡ 4 * blocks (64 * words) n

-- the ones up to the end of word q, among the first n bits, from those before it
pub word_counted : (s : Bytes) (n q before r : ℕ) → 64 * q < n → before ≡ rank s (min (64 * q) n) → rank s (min (64 * q + 64) n) ≡ rank s (64 * q) + r
    → (before ≡ rank s (64 * q)) × (before + r ≡ rank s (min (64 * (q + 1)) n))
word_counted s n q before r l e f =
    let w : min (64 * q) n ≡ 64 * q = omega arith in
    let g : before ≡ rank s (64 * q) = e ∙ ap (rank s) w in
    let v : min (64 * q + 64) n ≡ min (64 * (q + 1)) n = omega arith in
    (g, ap (λ (x : ℕ). x + r) g ∙ sym f ∙ ap (rank s) v)

-- word q holds the set bit number 64 t, counted from 0, of the first n bits; so many ones stand before the word
pub record Held (s : Bytes) (n q before t : ℕ) : Type 0 where
  pub within : n ≤ 8 * length s
  pub short : n < 4294967296
  pub begun : 64 * q < n
  pub ones : before ≡ rank s (64 * q)
  pub low : before ≤ 64 * t
  pub high : 64 * t < rank s (min (64 * q + 64) n)

-- the position of that one: inside the word, below n, set, and with 64 t ones before it
pub held_one : (s : Bytes) (n q before t : ℕ) → Held s n q before t → (64 * q ≤ select s n (64 * t)) × (select s n (64 * t) < 64 * q + 64) × OneAt s n (64 * t) (select s n (64 * t))
held_one s n q before t h =
    let e : ℕ = min (64 * q + 64) n in
    let a = h.begun in
    let u = h.ones in
    let l = h.low in
    let w = select_within s n (64 * t) (64 * q) e (omega arith) (omega arith) (omega arith) h.high in
    (w.0, omega (arith, w.1), select_one s n (64 * t) (omega (arith, h.high, rank_up s e n (omega arith))))

-- The tests of entry t, which is p, each beside what it decides.
module _ (s : Bytes) (n q before t : ℕ) (h : Held s n q before t) (table : Bytes) where
  -- the table has ended
  pub sample_missing : length table < 4 * t + 4 → false ≡ sampled s n table t
  sample_missing l = sym (ap (λ (b : Bool). b && eqb (table_entry table t) (select s n (64 * t))) (lt-leb (4 * t + 4) (length table) l))

  module _ (p : ℕ) (e : p ≡ table_entry table t) where
    another : (p ≡ select s n (64 * t) → ⊥) → false ≡ sampled s n table t
    another d = sym (ap (λ (b : Bool). leb (4 * t + 4) (length table) && b) (ne_eqb (table_entry table t) (select s n (64 * t)) (λ z. d (e ∙ z))) ∙ and-false (leb (4 * t + 4) (length table)))

    -- it stands before the word
    pub sample_early : p < 64 * q → false ≡ sampled s n table t
    sample_early l = another (λ z. absurd (omega (arith, (held_one s n q before t h).0)))

    -- it stands behind the word
    pub sample_late : 64 * q ≤ p → 64 ≤ p - 64 * q → false ≡ sampled s n table t
    sample_late l m = another (λ z. absurd (omega (arith, (held_one s n q before t h).1)))

    -- it stands behind the bits
    pub sample_past : n ≤ p → false ≡ sampled s n table t
    sample_past l = another (λ z. absurd (omega (arith, (held_one s n q before t h).2.below)))

    -- so many ones stand before it in the word
    module _ (r : ℕ) (l : 64 * q ≤ p) (k : rank s (64 * q + (p - 64 * q)) ≡ rank s (64 * q) + r) where
      ranked : rank s p ≡ before + r
      ranked =
          let w : 64 * q + (p - 64 * q) ≡ p = omega arith in
          ap (rank s) (sym w) ∙ k ∙ ap (λ (x : ℕ). x + r) (sym h.ones)

      -- other than 64 t in all
      pub sample_other : (r ≡ 64 * t - before → ⊥) → false ≡ sampled s n table t
      sample_other d = another (λ z. d (omega (arith, ranked, ap (rank s) z, (held_one s n q before t h).2.before)))

      -- its bit decides
      pub sample_bit : 4 * t + 4 ≤ length table → p < n → r ≡ 64 * t - before → eqb (bit_at s p) 1 ≡ sampled s n table t
      sample_bit m b d = go (eqb (bit_at s p) 1) refl
        where
          go : (v : Bool) → eqb (bit_at s p) 1 ≡ v → v ≡ sampled s n table t
          go true f =
              let g = ranked in
              let o : OneAt s n (64 * t) p = record { below = b; before = omega (arith, h.low); set = eqb-true (bit_at s p) 1 f } in
              sym (ap₂ ◌&&◌ (le-leb (4 * t + 4) (length table) m) (eq-eqb (table_entry table t) (select s n (64 * t)) (sym e ∙ sym (one_select s n (64 * t) p o))))
          go false f = another (λ z. eqb-false (bit_at s p) 1 f (ap (bit_at s) z ∙ (held_one s n q before t h).2.set))
