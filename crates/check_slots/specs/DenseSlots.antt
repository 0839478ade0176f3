-- The slots of exact leaves among the dense nodes, read from the rank tables of an image that passed the numbers 11 to 15.
use Rattle.std.specs.Prelude.{ℕ, ◌+◌, ◌-◌, ◌*◌, ◌/◌, ◌%◌, ◌<◌, ◌≤◌, ◌≡◌, Bool, true, false, ◌||◌, not, length, drop}
use Rattle.std.proofs.Common.{sym, ap, ◌∙◌, arith, ne_eqb, eq-eqb}
use Rattle.spec.specs.Bytes.{Bytes, from32}
use Rattle.bits.specs.Bits.{bit_at, rank, select}
use Rattle.bits_select.specs.SelectLaws.{select_is, rank_select}
use Rattle.bits.proofs.RankLaws.{rank_le, rank_up, rank_next}
use Rattle.image.specs.declared.Frame.{Frame}
use Rattle.check_levels.specs.Ranges.{all_from, from_skip, from_fail, from_step}
use Rattle.check_slots.specs.DenseExact.{dense_slot, dense_exact, labels_more, dense_slot_le}
use Rattle.image.specs.FrameOf.{within}
use Rattle.check_levels.specs.Bodies.{dl_body, dc_body, dp_body, sc_body, bodies_sized, dense_children, dense_entries}
use Rattle.check_slots.specs.Passed.{PassedTo15, bits_pass}
use Rattle.check_slots.specs.LevelStarts.{counts}
use Rattle.check_slots.specs.TableEntries.{label_entry, child_entry}

-- a difference of two counts that are known modulo 2^32
difference : (x y e : ℕ) → y ≤ x → x + e - y < 4294967296 → (x % 4294967296 + 4294967296 + e - y % 4294967296) % 4294967296 ≡ x + e - y
difference x y e h l = omega arith

module _ (s : Bytes) (f : Frame) (j : PassedTo15 s f) where
  -- the table entries of a dense node stand within the image
  pub entries_within : (m : ℕ) → m < f.dense.nodes → (f.rl + 16 * m + 4 ≤ length s) × (f.rc + 16 * m + 4 ≤ length s)
  entries_within m h = let w = within s f j.frame in (room f.rl m f.dense.nodes h w.rl, room f.rc m f.dense.nodes h w.rc)
    where
      room : (at m n : ℕ) → m < n → at + 4 * ((256 * n + 63) / 64) ≤ length s → at + 16 * m + 4 ≤ length s
      room at m n h l = omega arith

  -- the slot of the exact leaf that dense node m is
  pub slot_read : 0 < f.leaves → (m labels children exacts : ℕ) → m < f.dense.nodes → labels ≡ from32 (drop (f.rl + 16 * m) s) → children ≡ from32 (drop (f.rc + 16 * m) s)
      → exacts ≡ rank (dp_body s f) m → (labels + 4294967296 + exacts - children) % 4294967296 ≡ dense_slot (dl_body s f) (dc_body s f) (dp_body s f) m
  slot_read some m labels children exacts h a b e =
      let z = bodies_sized s f j.frame in
      let w = (bits_pass s f j).within in
      let low = labels_more (dl_body s f) (dc_body s f) (dp_body s f) f.dense.nodes (omega (arith, z.dl)) (omega (arith, z.dc)) (omega (arith, z.dp)) w m (omega arith) in
      let up = dense_slot_le (dl_body s f) (dc_body s f) (dp_body s f) f.dense.nodes (omega (arith, z.dl)) (omega (arith, z.dc)) (omega (arith, z.dp)) w (f.dense.nodes - m) m (omega arith) in
      let x : labels ≡ rank (dl_body s f) (256 * m) % 4294967296 = a ∙ label_entry s f j m h in
      let y : children ≡ rank (dc_body s f) (256 * m) % 4294967296 = b ∙ child_entry s f j m h in
      rw (x, y, e) (difference (rank (dl_body s f) (256 * m)) (rank (dc_body s f) (256 * m)) (rank (dp_body s f) m) low (few up))
    where
      few : dense_slot (dl_body s f) (dc_body s f) (dp_body s f) m ≤ dense_slot (dl_body s f) (dc_body s f) (dp_body s f) f.dense.nodes → dense_slot (dl_body s f) (dc_body s f) (dp_body s f) m < 4294967296
      few u =
          let c = (counts s f j some).leaf_total in
          let l = rank_le (sc_body s f) f.sparse.entries in
          let k = j.frame.leaves in
          let x = dense_entries s f j.frame in
          let y = dense_children s f j.frame in
          sum f.totals.entries f.sparse.entries f.leaves f.totals.children (rank (sc_body s f) f.sparse.entries) c l k (rw (sym x, sym y) at u)
        where
          sum : {v : ℕ} (e n l y c : ℕ) → e + n ≡ l + (y + c) → c ≤ n → l ≤ 65535 → v ≤ e - y → v < 4294967296
          sum e n l y c a b d g = omega arith

-- bits that are not set are no exact leaves
pub skip_clear : (g : ℕ → Bool) (dl dc dp : Bytes) (i m n : ℕ) → i ≤ m → m ≤ n → rank dp m ≡ rank dp i → all_from (dense_exact g dl dc dp) i (n - i) ≡ all_from (dense_exact g dl dc dp) m (n - m)
skip_clear g dl dc dp i m n h l e =
    from_skip (dense_exact g dl dc dp) i m n h
    (λ k x y z. ap (λ (t : Bool). not t || g (dense_slot dl dc dp k)) (ne_eqb (bit_at dp k) 1 (λ q. omega (arith, rank_up dp i k x, rank_up dp (k + 1) m (omega arith), rank_next dp k))))

-- the exact leaf that dense node m is
pub exact_here : (g : ℕ → Bool) (dl dc dp : Bytes) (m : ℕ) → bit_at dp m ≡ 1 → dense_exact g dl dc dp m ≡ g (dense_slot dl dc dp m)
exact_here g dl dc dp m h = ap (λ (t : Bool). not t || g (dense_slot dl dc dp m)) (eq-eqb (bit_at dp m) 1 h)

-- a dense node by its number, and the exact leaves before it
pub record DenseNode (s : Bytes) (f : Frame) (i exacts : ℕ) : Type 0 where
  pub within : i < f.dense.nodes
  pub exacts_before : exacts ≡ rank (dp_body s f) i

-- the slot of the exact leaf that dense node i is
abbrev pub exact_slot_of : Bytes → Frame → ℕ → ℕ
exact_slot_of s f i = dense_slot (dl_body s f) (dc_body s f) (dp_body s f) i

-- the first of n bits from position `from` on that is set, or n
pub record ExactFrom (dp : Bytes) (n from r : ℕ) : Type 0 where
  pub low : from ≤ r
  pub high : r ≤ n
  -- none is set before it
  pub none : rank dp r ≡ rank dp from
  -- it is set, where it is one of the n
  pub set : r < n → bit_at dp r ≡ 1

-- it is the position of the next one
pub exact_select : (dp : Bytes) (n from r : ℕ) → from ≤ n → r ≡ select dp n (rank dp from) → from ≤ r → r ≤ n → ExactFrom dp n from r
exact_select dp n from r h e low high =
    let same : rank dp r ≡ rank dp from = ap (rank dp) e ∙ rank_select dp n (rank dp from) (rank_up dp from n h) in
    record { low = low; high = high; none = same; set = λ l. one same l (select_is dp n (rank dp from)) }
  where
    one : rank dp r ≡ rank dp from → r < n → (select dp n (rank dp from) ≤ n) × (rank dp (select dp n (rank dp from)) ≤ rank dp from) × (select dp n (rank dp from) < n → rank dp from < rank dp (select dp n (rank dp from) + 1)) → bit_at dp r ≡ 1
    one same l f = let b : rank dp from < rank dp (r + 1) = rw e (f.2 (rw e at l)) in omega (arith, rank_next dp r)

-- one turn: node m is an exact leaf, and m' is the next one
module _ (g : ℕ → Bool) (dl dc dp : Bytes) (n m : ℕ) (h : m < n) (one : bit_at dp m ≡ 1) where
  -- its slot fails
  pub exact_fails : g (dense_slot dl dc dp m) ≡ false → all_from (dense_exact g dl dc dp) m (n - m) ≡ false
  exact_fails e = from_fail (dense_exact g dl dc dp) m n h (exact_here g dl dc dp m one ∙ e)

  -- its slot passes
  pub exact_passes : (next : ℕ) → m + 1 ≤ next → next ≤ n → rank dp next ≡ rank dp (m + 1) → g (dense_slot dl dc dp m) ≡ true
      → all_from (dense_exact g dl dc dp) m (n - m) ≡ all_from (dense_exact g dl dc dp) next (n - next)
  exact_passes next a b r e = from_step (dense_exact g dl dc dp) m n h (exact_here g dl dc dp m one ∙ e) ∙ skip_clear g dl dc dp (m + 1) next n a b r

  -- one exact leaf more stands before the next
  pub exact_count : (next exacts : ℕ) → exacts ≡ rank dp m → rank dp next ≡ rank dp (m + 1) → exacts + 1 ≡ rank dp next
  exact_count next exacts e r = omega (arith, rank_next dp m)

-- the nodes and the exact leaves before one are few
pub exact_few : (dp : Bytes) (n m exacts : ℕ) → m < n → n < 4294967296 → exacts ≡ rank dp m → (m + 1 < 4294967297) × (exacts + 1 < 4294967297)
exact_few dp n m exacts h l e = (omega arith, omega (arith, rank_le dp m))
