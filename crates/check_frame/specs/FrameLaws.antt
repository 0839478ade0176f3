-- A frame from what the reader of the frame finds: the header stands, the records stand one behind the other up to the end, and their lengths are those that the header gives.
use Rattle.std.specs.Prelude.{ℕ, zero, suc, ◌+◌, ◌-◌, ◌*◌, ◌≤◌, ◌<◌, ◌≡◌, refl, Bool, true, false, cond, ◌&&◌, List, [], ◌∷◌, ◌++◌, length, get_or, take, drop, leb, eqb}
use Rattle.std.proofs.Common.{sym, ap, ap₂, ◌∙◌, true≢false, arith, take_at, le-leb, leb-true, ne_eqb, eq-eqb, eqb-true}
use Rattle.std.proofs.Math.Bool.{and-false, and_assoc, and-true}
use Rattle.std.proofs.Math.Option.{Option, none, some}
use Rattle.std.proofs.lemmas.Bool.{lt-leb}
use Rattle.spec.specs.Bytes.{Bytes, blocks, every}
use Rattle.spec.specs.Image.{Settings, known_version, Counts, Row, rows, level_row, level_rows, sizes}
use Rattle.spec.specs.Frame.{has_header, rows_of, read_settings, read_bodies, named, parts}
use Rattle.spec.specs.Build.{in_range}
use Rattle.spec.specs.Check.{header_valid, verdict}
use Rattle.theory.proofs.Lists.{and_both}
use Rattle.theory.specs.Terms.{All}
use Rattle.theory.proofs.BuildLaws.{in_range_exactly}
use Rattle.theory.specs.Demands.{Passes11, Passes12, CheckRefusal, header_missing, records_missing, header_wrong}
use Rattle.theory.proofs.LevelStarts.{version_rows_are}
use Rattle.theory.proofs.CheckStages.{verdict_passes}
use Rattle.bits.specs.Bits.{rank}
use Rattle.image.specs.Header.{settings_of, counts_of, ShortFields, slots_short, ReadsHeader}
use Rattle.image.specs.Records.{row_at, stands, twelve_rows, tail_part, body_length, record_end, record_within, records_end, first_stands, end_more, ends_behind, end_append, bodies_at, bodies_append, bodies_count, whole, read_is, lengths_agree, starts, rows_end_at, laid_bodies, sized_is, bodies_laid}
use Rattle.image.specs.FrameOf.{twelve_bodies, level_gap, frame_bodies, frame_parts, Contiguous, FrameOf, Within, within}
use Rattle.image.specs.declared.Header.{Header}
use Rattle.image.specs.declared.DenseTotals.{DenseTotals}
use Rattle.image.specs.declared.Frame.{Frame}

-- ---- the header

-- a header that is too short: 11
pub header_short : (s : Bytes) → length s < 22 → CheckRefusal s 11
unfolding has_header every
header_short s h = header_missing (rw (lt-leb 22 (length s) h))

-- another first letter: 11
pub header_first : (s : Bytes) → (get_or s 0 0 ≡ 72 → ⊥) → CheckRefusal s 11
unfolding has_header every
header_first s h = header_missing (rw (ne_eqb (get_or s 0 0) 72 h) (and-false (leb 22 (length s))))

-- another second letter: 11
pub header_second : (s : Bytes) → (get_or s 1 0 ≡ 68 → ⊥) → CheckRefusal s 11
unfolding has_header every
header_second s h = header_missing (rw (ne_eqb (get_or s 1 0) 68 h, and-false (eqb (get_or s 0 0) 72)) (and-false (leb 22 (length s))))

-- 22 bytes and "HD"
pub header_stands : (s : Bytes) → 22 ≤ length s → get_or s 0 0 ≡ 72 → get_or s 1 0 ≡ 68 → has_header s ≡ true
unfolding has_header every
header_stands s l a b = rw (le-leb 22 (length s) l, eq-eqb (get_or s 0 0) 72 a, eq-eqb (get_or s 1 0) 68 b)

-- the header's settings and its leaf count are in range
abbrev pub settings_valid : Header → Bool
settings_valid h = in_range (settings_of h) && leb h.leaves 65535

-- ---- the records

-- options that are equal hold one number
some_same : {a b : ℕ} → ◌≡◌ {A = Option ℕ} (some a) (some b) → a ≡ b
some_same e = cc

-- records that stand end within the bytes
records_room : (rs : List Row) (s : Bytes) (at m : ℕ) → at ≤ length s → records_end rs s at ≡ some m → m ≤ length s
unfolding records_end
records_room [] s at m l e = omega (arith, some_same e)
records_room (r ∷ rs) s at m l e = let p = first_stands r rs s at m e in records_room rs s (record_end s at) m (record_within r s at l p).1 (sym (end_more r rs s at p) ∙ e)

-- the records of the version end where those behind the twelve do
pub version_end : (s : Bytes) → records_end (rows_of s) s 22 ≡ ends_behind (level_rows (get_or s 2 0)) s (records_end rows s 22)
version_end s = ap (λ (rs : List Row). records_end rs s 22) (version_rows_are (get_or s 2 0)) ∙ end_append rows (level_rows (get_or s 2 0)) s 22

-- where the twelve do not stand, not all do
pub end_missing : (s : Bytes) → records_end rows s 22 ≡ none → records_end (rows_of s) s 22 ≡ none
end_missing s h = version_end s ∙ ap (ends_behind (level_rows (get_or s 2 0)) s) h

-- in another version there are no more
pub end_twelve : (s : Bytes) (m : ℕ) → records_end rows s 22 ≡ some m → (get_or s 2 0 ≡ 2 → ⊥) → records_end (rows_of s) s 22 ≡ some m
unfolding level_rows records_end
end_twelve s m h n = version_end s ∙ ap (ends_behind (level_rows (get_or s 2 0)) s) h ∙ ap (λ (t : Bool). records_end (cond t (level_row ∷ []) []) s m) (ne_eqb (get_or s 2 0) 2 n)

-- in version 2 LV stands behind them, or not
pub end_level : (s : Bytes) (m : ℕ) → records_end rows s 22 ≡ some m → get_or s 2 0 ≡ 2 → (t : Bool) → stands (row_at 12) s m ≡ t → records_end (rows_of s) s 22 ≡ cond t (some (record_end s m)) none
unfolding level_rows records_end row_at rows
end_level s m h v t e =
    version_end s ∙ ap (ends_behind (level_rows (get_or s 2 0)) s) h ∙ ap (λ (b : Bool). records_end (cond b (level_row ∷ []) []) s m) (eq-eqb (get_or s 2 0) 2 v) ∙ ap (λ (b : Bool). cond b (some (record_end s m)) none) e

-- records that do not all stand: 11
pub records_absent : (s : Bytes) → 22 ≤ length s → records_end (rows_of s) s 22 ≡ none → CheckRefusal s 11
records_absent s l e = records_missing (read_is (rows_of s) s 22 l ∙ rw e)

-- records that end before the bytes do: 11
pub records_short : (s : Bytes) (end : ℕ) → 22 ≤ length s → records_end (rows_of s) s 22 ≡ some end → (end ≡ length s → ⊥) → CheckRefusal s 11
records_short s end l e n = records_missing (read_is (rows_of s) s 22 l ∙ rw (e, ne_eqb end (length s) n))

-- The records stand behind the header: the twelve, up to the middle, and behind them those of the version, the last one up to the end.
pub record RecordsStand (s : Bytes) : Type 0 where
  pub long : 22 ≤ length s
  pub middle : ℕ
  pub twelve : records_end rows s 22 ≡ some middle
  pub rest : records_end (level_rows (get_or s 2 0)) s middle ≡ some (length s)

-- Records that end with the bytes stand.
pub records_standing : (s : Bytes) → 22 ≤ length s → records_end (rows_of s) s 22 ≡ some (length s) → RecordsStand s
records_standing s l e = go (records_end rows s 22) refl (sym (version_end s) ∙ e)
  where
    go : (o : Option ℕ) → records_end rows s 22 ≡ o → ends_behind (level_rows (get_or s 2 0)) s o ≡ some (length s) → RecordsStand s
    go none t e = let z : ◌≡◌ {A = ℕ} 0 1 = cc in absurd (omega arith)
    go (some m) t e = record { long = l; middle = m; twelve = t; rest = e }

-- They end with the bytes.
standing_end : (s : Bytes) (r : RecordsStand s) → records_end (rows_of s) s 22 ≡ some (length s)
standing_end s r = version_end s ∙ ap (ends_behind (level_rows (get_or s 2 0)) s) r.twelve ∙ r.rest

-- header and records stand, and the header by value is the one that is read
pub record FrameStands (s : Bytes) (h : Header) : Type 0 where
  pub header : has_header s ≡ true
  pub records : RecordsStand s
  pub reads : ReadsHeader s h

-- besides, what the header says is in range, and each record has the length that it gives
pub record LaidOut (s : Bytes) (h : Header) : Type 0 where
  pub stands : FrameStands s h
  pub settings : settings_valid h ≡ true
  pub lengths : lengths_agree (settings_of h) (counts_of h) rows s 22 ≡ true

-- the bodies of the version
abbrev bodies_of : Bytes → List Bytes
bodies_of s = bodies_at (rows_of s) s 22

-- they are read
bodies_read : (s : Bytes) → RecordsStand s → read_bodies (rows_of s) (drop 22 s) ≡ some (bodies_of s)
bodies_read s r = read_is (rows_of s) s 22 r.long ∙ rw (standing_end s r, eq-eqb (length s) (length s) refl)

-- they are the twelve, and those behind them
bodies_split : (s : Bytes) (r : RecordsStand s) → bodies_of s ≡ bodies_at rows s 22 ++ bodies_at (level_rows (get_or s 2 0)) s r.middle
bodies_split s r = ap (λ (rs : List Row). bodies_at rs s 22) (version_rows_are (get_or s 2 0)) ∙ bodies_append rows (level_rows (get_or s 2 0)) s 22 r.middle r.twelve

-- the first twelve of them
bodies_first : (s : Bytes) (r : RecordsStand s) → take 12 (bodies_of s) ≡ bodies_at rows s 22
bodies_first s r = ap (take 12) (bodies_split s r) ∙ take_at (bodies_at rows s 22) (bodies_at (level_rows (get_or s 2 0)) s r.middle) 12 (bodies_count rows s 22 ∙ twelve_rows)

regroup : (a b c d e f : Bool) → every (a ∷ b ∷ c ∷ d ∷ e ∷ f ∷ []) ≡ ((a && b && c && d && e) && f)
unfolding every
regroup a b c d e f = simp (and_assoc, and-true)

-- the tests of number 12, by the header by value and the lengths that the records say
tests_12 : (s : Bytes) (h : Header) → FrameStands s h → header_valid (parts s (named (bodies_of s))) (bodies_of s) ≡ (settings_valid h && lengths_agree (settings_of h) (counts_of h) rows s 22)
unfolding header_valid in_range parts sizes
tests_12 s h p =
    rw (← p.reads.settings, ← p.reads.counts, bodies_first s p.records, sized_is (settings_of h) (counts_of h) rows s 22 p.records.middle p.records.long p.records.twelve)
    (regroup (known_version h.version) (leb h.dense.levels 4) (leb h.real_width 16) (leb h.hash_width 16) (leb h.leaves 65535) (lengths_agree (settings_of h) (counts_of h) rows s 22))

-- 11 does not apply
stands_passes : (s : Bytes) (h : Header) → FrameStands s h → Passes11 s (bodies_of s)
stands_passes s h p = record { header = p.header; bodies = bodies_read s p.records }

module _ (s : Bytes) (h : Header) (p : FrameStands s h) where
  refused_12 : (settings_valid h && lengths_agree (settings_of h) (counts_of h) rows s 22) ≡ false → CheckRefusal s 12
  refused_12 e = header_wrong (bodies_of s) (stands_passes s h p) (tests_12 s h p ∙ e)

  -- a setting or the leaf count is out of range: 12
  pub settings_wrong : settings_valid h ≡ false → CheckRefusal s 12
  settings_wrong e = refused_12 (rw e)

  -- a length is not the one that the header gives: 12
  pub lengths_wrong : lengths_agree (settings_of h) (counts_of h) rows s 22 ≡ false → CheckRefusal s 12
  lengths_wrong e = refused_12 (rw e (and-false (settings_valid h)))

-- ---- the frame

-- the frame of a header, of the starts of the records and of the totals of the dense nodes
abbrev pub frame_at : Header → List ℕ → DenseTotals → Frame
frame_at h a t = record {
  version = h.version;
  real_width = h.real_width;
  hash_width = h.hash_width;
  width = h.hash_width + h.real_width;
  leaves = h.leaves;
  dense = h.dense;
  sparse = h.sparse;
  totals = t;
  dl = get_or a 0 0 + 6;
  dc = get_or a 1 0 + 6;
  dp = get_or a 2 0 + 6;
  sl = get_or a 3 0 + 6;
  sc = get_or a 4 0 + 6;
  sb = get_or a 5 0 + 6;
  sv = get_or a 6 0 + 6;
  rl = get_or a 7 0 + 6;
  rc = get_or a 8 0 + 6;
  rp = get_or a 9 0 + 6;
  rs = get_or a 10 0 + 6;
  ts = get_or a 11 0 + 6;
  lv = get_or a 12 0 + level_gap h.version;
}

-- the starts that a header gives
abbrev pub header_starts : Header → List ℕ
header_starts h = starts (settings_of h) (counts_of h) rows 22

-- the totals of dense nodes that are not counted
abbrev pub uncounted : DenseTotals
uncounted = record { children = 0; entries = 0 }

-- each body is short
sizes_small : (h : Header) → ShortFields h → All (λ r. r.size (settings_of h) (counts_of h) < 1099511627776) rows
unfolding rows
sizes_small h s =
    let d = s.dense_nodes in
    let e = s.sparse_entries in
    let n = s.sparse_nodes in
    let v = slots_short h s in
    (omega arith, (omega arith, (omega arith, (omega arith, (omega arith, (omega arith, (omega arith, (omega arith, (omega arith, (omega arith, (omega arith, (omega arith, tt))))))))))))

-- records of short bodies start before an end that grows with their number
starts_before : (st : Settings) (c : Counts) (rs : List Row) (at : ℕ) → All (λ r. r.size st c < 1099511627776) rs → (i : ℕ) → get_or (starts st c rs at) i 0 ≤ at + 1099511627782 * length rs
unfolding starts
starts_before st c [] at h zero = omega arith
starts_before st c [] at h (suc i) = omega arith
starts_before st c (r ∷ rs) at h zero = omega arith
starts_before st c (r ∷ rs) at h (suc i) = omega (arith, h.0, starts_before st c rs (at + 6 + r.size st c) h.1 i)

-- Each record starts at an offset that fits a number by far.
pub starts_small : (h : Header) → ShortFields h → (i : ℕ) → get_or (header_starts h) i 0 < 17592186044416
starts_small h s i = omega (arith, starts_before (settings_of h) (counts_of h) rows 22 (sizes_small h s) i, twelve_rows)

-- so does the offset of LV's body
pub gap_small : (v : ℕ) → level_gap v ≤ 6
gap_small v = go (eqb v 2)
  where
    go : (t : Bool) → cond t 6 0 ≤ 6
    go true = omega arith
    go false = omega arith

-- the totals of the dense nodes, whose bodies stand at these offsets
pub record Totals (s : Bytes) (dl dc dp n : ℕ) (t : DenseTotals) : Type 0 where
  pub children : t.children ≡ rank (drop dc s) (256 * n)
  pub entries : t.entries ≡ rank (drop dl s) (256 * n) + rank (drop dp s) n

-- the twelve bodies that are laid out are those of the frame
laid_same : (s : Bytes) (h : Header) (t : DenseTotals) → laid_bodies (settings_of h) (counts_of h) rows s 22 ≡ twelve_bodies s (frame_at h (header_starts h) t)
unfolding laid_bodies starts rows
laid_same s h t = refl

parts_same : (s : Bytes) (h : Header) (t : DenseTotals) → ReadsHeader s h → parts s (named (frame_bodies s (frame_at h (header_starts h) t))) ≡ frame_parts s (frame_at h (header_starts h) t)
unfolding parts named
parts_same s h t r = rw (← r.settings, ← r.counts)

-- the twelve end where the starts say
twelve_end : (h : Header) → rows_end_at (settings_of h) (counts_of h) rows 22 ≡ get_or (header_starts h) 12 0
unfolding rows_end_at starts rows
twelve_end h = refl

-- behind the twelve, which end here, stands LV up to the end, in the version that has it
level_part : (s : Bytes) (v m : ℕ) → m ≤ length s → records_end (level_rows v) s m ≡ some (length s)
    → (bodies_at (level_rows v) s m ≡ cond (eqb v 2) (drop (m + level_gap v) s ∷ []) []) × (m + level_gap v ≤ length s)
unfolding level_rows records_end bodies_at
level_part s v m l e = go (eqb v 2) e
  where
    go : (t : Bool) → records_end (cond t (level_row ∷ []) []) s m ≡ some (length s) → (bodies_at (cond t (level_row ∷ []) []) s m ≡ cond t (drop (m + cond t 6 0) s ∷ []) []) × (m + cond t 6 0 ≤ length s)
    go true e =
        let p = first_stands level_row [] s m (length s) e in
        let w = record_within level_row s m l p in
        let z : record_end s m ≡ length s = some_same (sym (end_more level_row [] s m p) ∙ e) in
        let n : body_length s m ≡ length s - (m + 6) = omega arith in
        (ap (λ (k : ℕ). take k (drop (m + 6) s) ∷ []) n ∙ ap (λ (x : Bytes). x ∷ []) (tail_part s (m + 6)), w.0)
    go false e = (refl, omega (arith, some_same e))

contiguous_starts : (h : Header) (t : DenseTotals) → Contiguous (frame_at h (header_starts h) t)
unfolding starts rows
contiguous_starts h t = record { lv = refl; dl = refl; dc = refl; dp = refl; sl = refl; sc = refl; sb = refl; sv = refl; rl = refl; rc = refl; rp = refl; rs = refl; ts = refl }

-- the version that is read
version_read : (s : Bytes) (h : Header) → ReadsHeader s h → get_or s 2 0 ≡ h.version
unfolding read_settings
version_read s h r = sym (ap (λ (st : Settings). st.version) r.settings)

-- A laid-out image has the frame that its header gives.
pub frame_laid : (s : Bytes) (h : Header) (t : DenseTotals) → LaidOut s h
    → Totals s (get_or (header_starts h) 0 0 + 6) (get_or (header_starts h) 1 0 + 6) (get_or (header_starts h) 2 0 + 6) h.dense.nodes t → FrameOf s (frame_at h (header_starts h) t)
frame_laid s h t o n =
    let p = o.stands in
    let r = p.records in
    let b = bodies_laid (settings_of h) (counts_of h) rows s 22 r.middle o.lengths r.twelve in
    let version : get_or s 2 0 ≡ h.version = version_read s h p.reads in
    let within : r.middle ≤ length s = records_room rows s 22 r.middle r.long r.twelve in
    let lv = level_part s h.version r.middle within (rw version at r.rest) in
    let at : r.middle ≡ get_or (header_starts h) 12 0 = b.1 ∙ twelve_end h in
    let same : bodies_of s ≡ frame_bodies s (frame_at h (header_starts h) t) =
    bodies_split s r ∙ ap₂ ◌++◌ (b.0 ∙ laid_same s h t) (ap (λ (v : ℕ). bodies_at (level_rows v) s r.middle) version ∙ lv.0 ∙ ap (λ (m : ℕ). cond (eqb h.version 2) (drop (m + level_gap h.version) s ∷ []) []) at) in
    let v = and_both (in_range (settings_of h)) (leb h.leaves 65535) o.settings in
    let q = (in_range_exactly (settings_of h)).0 v.0 in
    let all : (settings_valid h && lengths_agree (settings_of h) (counts_of h) rows s 22) ≡ true = rw (o.settings, o.lengths) in
    record {
      header = p.header;
      bodies = bodies_read s p.records ∙ ap some same;
      parts_are = parts_same s h t p.reads;
      valid = rw (← same) (tests_12 s h p ∙ all);
      dense_range = q.1;
      real_range = q.2;
      hash_range = q.3;
      width = refl;
      leaves = leb-true h.leaves 65535 v.1;
      dense = p.reads.short.dense_nodes;
      entries = p.reads.short.sparse_entries;
      sparse = p.reads.short.sparse_nodes;
      contiguous = contiguous_starts h t;
      end = rw at at lv.1;
      children = n.children;
      dense_entries = n.entries;
    }

-- the totals of the dense nodes, by the ones of their bodies
abbrev pub laid_totals : Bytes → Header → DenseTotals
laid_totals s h = record {
  children = rank (drop (get_or (header_starts h) 1 0 + 6) s) (256 * h.dense.nodes);
  entries = rank (drop (get_or (header_starts h) 0 0 + 6) s) (256 * h.dense.nodes) + rank (drop (get_or (header_starts h) 2 0 + 6) s) h.dense.nodes;
}

-- A laid-out image has the frame with these totals.
pub laid_frame : (s : Bytes) (h : Header) → LaidOut s h → FrameOf s (frame_at h (header_starts h) (laid_totals s h))
laid_frame s h o = frame_laid s h (laid_totals s h) o (record { children = refl; entries = refl })

-- A laid-out image has each body within it.
pub laid_within : (s : Bytes) (h : Header) → LaidOut s h → Within s (frame_at h (header_starts h) (laid_totals s h))
laid_within s h o = within s (frame_at h (header_starts h) (laid_totals s h)) (laid_frame s h o)

-- the dense nodes' bodies and their tables lie within the image
pub record DenseInside (s : Bytes) (f : Frame) : Type 0 where
  pub few : f.dense.nodes < 4294967296
  pub dl : f.dl + 32 * f.dense.nodes ≤ length s
  pub dc : f.dc + 32 * f.dense.nodes ≤ length s
  pub dp : f.dp + blocks 8 f.dense.nodes ≤ length s
  pub rl : f.rl + 4 * blocks 64 (256 * f.dense.nodes) ≤ length s
  pub rc : f.rc + 4 * blocks 64 (256 * f.dense.nodes) ≤ length s
  pub rp : f.rp + 4 * blocks 64 f.dense.nodes ≤ length s

-- A laid-out image has them there, whatever the totals are.
pub dense_laid : (s : Bytes) (h : Header) (t : DenseTotals) → LaidOut s h → DenseInside s (frame_at h (header_starts h) t)
dense_laid s h t o =
    let w = laid_within s h o in
    record { few = o.stands.reads.short.dense_nodes; dl = w.dl; dc = w.dc; dp = w.dp; rl = w.rl; rc = w.rc; rp = w.rp }

-- ---- the stage

-- An image with a frame passed the numbers 11 and 12, and its records' bodies are the frame's.
pub frame_passes : (s : Bytes) (f : Frame) → FrameOf s f → Passes12 s (frame_bodies s f)
frame_passes s f o = record { before = record { header = o.header; bodies = o.bodies }; header = o.valid }

-- ---- an accepted image

-- what has a header has 22 bytes
pub header_long : (s : Bytes) → has_header s ≡ true → 22 ≤ length s
unfolding has_header every
header_long s e = go (leb 22 (length s)) (eqb (get_or s 0 0) 72) (eqb (get_or s 1 0) 68) refl e
  where
    go : (t u v : Bool) → leb 22 (length s) ≡ t → every (t ∷ u ∷ v ∷ []) ≡ true → 22 ≤ length s
    go true u v f e = leb-true 22 (length s) f
    go false u v f e = absurd (true≢false (sym e))

-- where bodies are read, the records stand up to the end, and these are their bodies
bodies_stand : (s : Bytes) (bs : List Bytes) → 22 ≤ length s → read_bodies (rows_of s) (drop 22 s) ≡ some bs → (records_end (rows_of s) s 22 ≡ some (length s)) × (bodies_of s ≡ bs)
bodies_stand s bs l e = go (records_end (rows_of s) s 22) refl (sym (read_is (rows_of s) s 22 l) ∙ e)
  where
    at_end : (n : ℕ) (t : Bool) → eqb n (length s) ≡ t → records_end (rows_of s) s 22 ≡ some n → cond t (some (bodies_of s)) none ≡ some bs → (records_end (rows_of s) s 22 ≡ some (length s)) × (bodies_of s ≡ bs)
    at_end n true f r e = (r ∙ ap some (eqb-true n (length s) f), cc)
    at_end n false f r e = let z : ◌≡◌ {A = ℕ} 0 1 = cc in absurd (omega arith)

    go : (o : Option ℕ) → records_end (rows_of s) s 22 ≡ o → whole (rows_of s) s 22 o ≡ some bs → (records_end (rows_of s) s 22 ≡ some (length s)) × (bodies_of s ≡ bs)
    go none r e = let z : ◌≡◌ {A = ℕ} 0 1 = cc in absurd (omega arith)
    go (some n) r e = at_end n (eqb n (length s)) refl r e

-- An image that the check takes is laid out as its header says.
pub accepted_laid : (s : Bytes) (h : Header) → verdict s ≡ 0 → ReadsHeader s h → LaidOut s h
accepted_laid s h v r =
    let p = verdict_passes s v in
    let q = p.1.before.before.before.before in
    let l = header_long s q.before.header in
    let b = bodies_stand s p.0 l q.before.bodies in
    let stands : FrameStands s h = record { header = q.before.header; records = records_standing s l b.0; reads = r } in
    let t = and_both (settings_valid h) (lengths_agree (settings_of h) (counts_of h) rows s 22) (sym (tests_12 s h stands) ∙ rw b.1 q.header) in
    record { stands = stands; settings = t.0; lengths = t.1 }
