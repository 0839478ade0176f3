-- What fills a record's body leaves that body: a pass over the keys, ranks, and samples. Used by the functions that fill the records of a plan.
use Rattle.std.specs.Prelude.{ℕ, ◌+◌, ◌*◌, ◌-◌, ◌/◌, ◌≤◌, ◌<◌, ◌≡◌, refl, true, false, List, [], ◌∷◌, ◌++◌, length, take, drop, replicate}
use Rattle.std.proofs.Common.{sym, ap, ap₂, subst, ◌∙◌, append_assoc, arith}
use borrow.Rule.Slice.PartMut.{put_mid, mid_of, mid_len, Post-is}
use Rattle.spec.specs.Bytes.{Bytes, blocks}
use Rattle.spec.specs.Keys.{keys_of}
use Rattle.spec.specs.Image.{Counts}
use Rattle.theory.specs.Terms.{IsBytes}
use Rattle.bits.specs.Bits.{overlaid, rank}
use Rattle.rank_tables.specs.TableEntries.{rank_table, sample_table}
use Rattle.rank_tables.specs.Tables.{spanned, RanksRoom, SamplesRoom}
use Rattle.rank_tables.specs.declared.Span.{Span}
use Rattle.build_laws.specs.SlotWidths.{slot_bits}
use Rattle.build_laws.specs.Limits.{counters, counter_max}
use Rattle.build_laws.specs.Cursors.{sums}
use Rattle.build_laws.specs.Counters.{CursorsAt}
use Rattle.build_laws.specs.BytePass.{ByteState, byte_state}
use Rattle.build_laws.specs.KeyRecords.{AcceptedList}
use Rattle.build_keys.specs.CountPass.{list_counts}
use Rattle.build_laws.specs.Passes.{pass_keys, PassRoom}
use Rattle.build_records.specs.BodyChoice.{counters_of, level_range}
use Rattle.build_records.specs.BodyRoom.{counters_few, body_room}
use Rattle.build_records.specs.BodyFilled.{left_body, body_filled, left_flipped, flipped_fits, flipped_again, left_whole}
use Rattle.build_passes.specs.FlippedBits.{flipped}
use Rattle.build_records.specs.Plan.{Planned, plan_settings, source_at, source_counters, keys_counters, counters_at, list_body, body_at, size_at, start_at, span_at, body_size, ends_before, plan_short, entries_few, LaidOut, BodyRoom, RanksOf, SamplesOf, Gives, Writing, record_room}
use Rattle.build_laws.specs.declared.Body.{Body}
use Rattle.build_laws.specs.declared.LevelRange.{LevelRange}
use Rattle.build_laws.specs.declared.Pass.{Pass}
use Rattle.build_records.specs.declared.Plan.{Plan}
use Rattle.build_records.specs.declared.Source.TheVariants.{Keys}

-- ---- a pass over the keys

-- an accepted list, as the passes ask it
pub ready_list : (list : Bytes) (p : Plan) → Planned list p → AcceptedList list
ready_list list p w = record { records = w.ready.records; each = w.ready.built.keys; up = w.ready.built.up }

-- an empty body
pub empty_body : (body out : Bytes) → length out ≡ length body → length out ≡ 0 → out ≡ body
empty_body [] [] h e = refl
empty_body [] (y ∷ out) h e = absurd (omega arith)
empty_body (x ∷ body) out h e = absurd (omega arith)

module _ (list : Bytes) (p : Plan) (w : Planned list p) (b : Body) (cnt : List ℕ) (k : cnt ≡ counters_of b (keys_of list)) (l : LevelRange) (e : l ≡ level_range b p.header.dense.levels) where
  -- the counters' sums are small
  pub sums_small : sums cnt l.lo counters ≤ counter_max
  sums_small = subst (λ (c : List ℕ). sums c l.lo counters ≤ counter_max) (sym k) (counters_few b (keys_of list) l.lo counters w.ready.built.few (omega arith))

  -- the pass that fills the body
  abbrev body_pass : LevelRange → Pass
  body_pass i = record { body = b; levels = i; slot = slot_bits (plan_settings p) }

  module _ (cur : List ℕ) (wide : length cur ≡ counters) (c : CursorsAt cnt l.lo cur) where
    starts : CursorsAt (counters_of b (keys_of list)) (level_range b p.header.dense.levels).lo cur
    starts = subst (λ (i : LevelRange). CursorsAt (counters_of b (keys_of list)) i.lo cur) e (subst (λ (x : List ℕ). CursorsAt x l.lo cur) k c)

    -- its bytes have room for what the pass writes
    pub pass_room : (size : ℕ) → length (list_body list p b) ≤ size → PassRoom (body_pass l) 0 (keys_of list) size cur
    pass_room size h = subst (λ (i : LevelRange). PassRoom (body_pass i) 0 (keys_of list) size cur) (sym e) (body_room (plan_settings p) (keys_of list) w.ready.built cur wide size b starts h)

    -- what the pass leaves in bytes that were zero
    pub pass_leaves : (len : ℕ) (rest o z : Bytes) → len ≡ length (list_body list p b) → IsBytes o → IsBytes rest → z ≡ replicate len 0 ++ rest
        → o ≡ (pass_keys (body_pass l) 0 (keys_of list) (byte_state z cur)).bytes → o ≡ left_body (plan_settings p) (keys_of list) w.ready.built b ++ rest
    pass_leaves len rest o z n x y q f =
        let r : ByteState = pass_keys (body_pass l) 0 (keys_of list) (byte_state z cur) in
        body_filled (plan_settings p) (keys_of list) w.ready.built cur wide rest o r.cursors x y b starts
        (ap (λ (i : Bytes). byte_state i r.cursors) f ∙ ap (λ (i : LevelRange). pass_keys (body_pass i) 0 (keys_of list) (byte_state z cur)) e
        ∙ ap (λ (s : Bytes). pass_keys (body_pass (level_range b p.header.dense.levels)) 0 (keys_of list) (byte_state s cur)) (q ∙ ap (λ (i : ℕ). replicate i 0 ++ rest) n))

-- a body that is left with its bits flipped has room for a bit of each entry
pub flip_room : (list : Bytes) (p : Plan) (w : Planned list p) (b : Body) (size : ℕ) → left_flipped b ≡ true → length (list_body list p b) ≤ size → p.header.sparse.entries ≤ 8 * size
flip_room list p w b size f h = omega (arith, flipped_fits (plan_settings p) (keys_of list) w.ready.built b p.header.sparse.entries (ap (λ (c : Counts). c.sparse_entries) w.counts) f)

-- what is left with its bits flipped is the body once they are flipped again
pub body_again : (list : Bytes) (p : Plan) (w : Planned list p) (b : Body) (rest x o : Bytes) → left_flipped b ≡ true → x ≡ left_body (plan_settings p) (keys_of list) w.ready.built b ++ rest
    → o ≡ flipped (blocks 8 p.header.sparse.entries) p.header.sparse.entries x → o ≡ list_body list p b ++ rest
body_again list p w b rest x o f e g =
    flipped_again (plan_settings p) (keys_of list) w.ready.built rest b p.header.sparse.entries o (ap (λ (c : Counts). c.sparse_entries) w.counts) f
    (g ∙ ap (flipped (blocks 8 p.header.sparse.entries) p.header.sparse.entries) e)

-- what is not is the body
pub body_whole : (list : Bytes) (p : Plan) (w : Planned list p) (b : Body) (rest o : Bytes) → left_flipped b ≡ false → o ≡ left_body (plan_settings p) (keys_of list) w.ready.built b ++ rest → o ≡ list_body list p b ++ rest
body_whole list p w b rest o f e = e ∙ ap (λ (z : Bytes). z ++ rest) (left_whole (plan_settings p) (keys_of list) w.ready.built b f)

-- ---- a record's body by its source

-- a part from k to below e, lent, with as many bytes in its place, and back
lent_part : (o ys : Bytes) (k e : ℕ) → k ≤ e → e ≡ k + length ys → put_mid k (e - k) o ys ≡ overlaid o k ys
lent_part o ys k e h f = ap (λ (x : Bytes). take k o ++ (ys ++ x)) (Post-is k e o h ∙ ap (λ (n : ℕ). drop n o) f) ∙ sym (append_assoc (take k o) ys (drop (k + length ys) o))

module _ (list : Bytes) (p : Plan) (i : ℕ) (out : Bytes) (w : Writing list p i out) where
  -- the span of record i, where the output is no longer than a number holds
  pub own_laid : length out < 18446744073709551616 → LaidOut p i
  own_laid h = record { below = w.below; short = plan_short list p w.planned; fits = omega (arith, record_room list p i out w) }

  -- the span of an earlier record
  pub earlier_laid : length out < 18446744073709551616 → (j : ℕ) → j < i → LaidOut p j
  earlier_laid h j l = record {
    below = omega (arith, w.below);
    short = plan_short list p w.planned;
    fits = omega (arith, record_room list p i out w, ends_before list p w.planned j i l (omega (arith, w.below)));
  }

  module _ (s : Span) (e : s ≡ span_at p i) where
    at_is : s.at ≡ start_at p i + 6
    at_is = ap (λ (x : Span). x.at) e

    len_is : s.len ≡ size_at p i
    len_is = ap (λ (x : Span). x.len) e

    -- its bytes are in the output
    pub span_within : s.at + s.len ≤ length out
    span_within = omega (arith, at_is, len_is, record_room list p i out w)

    keys_size : (b : Body) → Gives list p i (Keys b) → s.len ≡ length (list_body list p b)
    keys_size b g = len_is ∙ sym (body_size list p w.planned i) ∙ ap length (sym g)

    -- what a pass asks
    pub keys_ask : (b : Body) (cnt : List ℕ) → Gives list p i (Keys b) → source_at i ≡ Keys b → cnt ≡ counters_at list i → BodyRoom list p cnt b (mid_of s.at (s.at + s.len - s.at) out)
    keys_ask b cnt g q k = record {
      planned = w.planned;
      counted = k ∙ ap (source_counters (list_counts (keys_of list))) q ∙ keys_counters (keys_of list) b;
      size = mid_len s.at (s.at + s.len) out span_within ∙ omega (arith, keys_size b g);
    }

    -- what a pass leaves
    pub keys_leave : (b : Body) → Gives list p i (Keys b) → (ys : Bytes) → ys ≡ list_body list p b → put_mid s.at (s.at + s.len - s.at) out ys ≡ overlaid out (start_at p i + 6) (body_at list p i)
    keys_leave b g ys f =
        lent_part out ys s.at (s.at + s.len) (omega arith) (omega (arith, keys_size b g, ap length f)) ∙ ap₂ (λ (n : ℕ) (x : Bytes). overlaid out n x) at_is (f ∙ g)

    module _ (j : ℕ) (t : Span) (f : t ≡ span_at p j) where
      -- the counted body is an earlier record's
      counted : j < i → spanned out t ≡ body_at list p j
      counted l = ap (spanned out) f ∙ w.stand j l

      behind : j < i → t.at + t.len ≤ s.at
      behind l = omega (arith, at_is, ap (λ (x : Span). x.at) f, ap (λ (x : Span). x.len) f, ends_before list p w.planned j i l (omega (arith, w.below)))

      -- what ranks ask
      pub ranks_ask : (words : ℕ) → RanksOf list p i j words → RanksRoom out t s.at (s.len / 4) words
      ranks_ask words g =
          let q : s.len / 4 ≡ size_at p i / 4 = ap (λ (n : ℕ). n / 4) len_is in
          record {
            behind = behind g.before;
            room = omega (arith, q, g.whole, len_is, span_within);
            short = omega (arith, ap (λ (x : Span). x.len) f, g.short);
            starts = λ b l. omega (arith, g.starts b (omega (arith, q)), ap (λ (x : Span). x.len) f);
          }

      -- what ranks leave
      pub ranks_leave : (words : ℕ) → RanksOf list p i j words → (o : Bytes) → o ≡ overlaid out s.at (rank_table (64 * words) (spanned out t) (s.len / 4)) → o ≡ overlaid out (start_at p i + 6) (body_at list p i)
      ranks_leave words g o z =
          z ∙ ap₂ (λ (n m : ℕ). overlaid out n (rank_table (64 * words) (spanned out t) (m / 4))) at_is len_is
          ∙ ap (λ (x : Bytes). overlaid out (start_at p i + 6) (rank_table (64 * words) x (size_at p i / 4))) (counted g.before) ∙ ap (overlaid out (start_at p i + 6)) g.table

      -- what samples ask
      pub samples_ask : SamplesOf list p i j → SamplesRoom out t p.header.sparse.entries s.at
      samples_ask g = record {
        behind = behind g.before;
        within = omega (arith, g.within, ap (λ (x : Span). x.len) f);
        short = omega (arith, entries_few list p w.planned);
        room = omega (arith, ap (λ (x : Bytes). blocks 64 (rank x p.header.sparse.entries)) (counted g.before), g.sized, len_is, span_within);
      }

      -- what samples leave
      pub samples_leave : SamplesOf list p i j → (o : Bytes) → o ≡ overlaid out s.at (sample_table (spanned out t) p.header.sparse.entries (blocks 64 (rank (spanned out t) p.header.sparse.entries)))
          → o ≡ overlaid out (start_at p i + 6) (body_at list p i)
      samples_leave g o z =
          z ∙ ap₂ (λ (n : ℕ) (x : Bytes). overlaid out n (sample_table x p.header.sparse.entries (blocks 64 (rank x p.header.sparse.entries)))) at_is (counted g.before)
          ∙ ap (overlaid out (start_at p i + 6)) g.table
