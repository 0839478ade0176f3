-- The way down the sparse levels to the levels 62 and 63, level by level, and the slots on these two.
use Rattle.std.specs.Prelude.{ℕ, zero, suc, ◌+◌, ◌-◌, ◌<◌, ◌≤◌, ◌≡◌, Bool, true, cond, ◌&&◌}
use Rattle.std.proofs.Common.{sym, ap, ap₂, ◌∙◌, arith, lt-ltb, le-ltb}
use Rattle.spec.specs.Bytes.{Bytes}
use Rattle.bits.specs.Bits.{rank}
use Rattle.bits.proofs.RankLaws.{rank_le}
use Rattle.image.specs.declared.Frame.{Frame}
use Rattle.check_levels.specs.declared.Level.{Level}
use Rattle.check_levels.specs.Bodies.{sc_body}
use Rattle.check_levels.specs.Levels.{node_count, branches_before, first_entry, LoudsValid, LevelOf, Behind, level_sparse, sparse_level, entry_within, branches_from}
use Rattle.check_levels.specs.BodyTests.{counts_few}
use Rattle.check_levels.specs.Ranges.{all_from, from_none}
use Rattle.check_slots.specs.Passed.{PassedTo15, bits_pass}
use Rattle.check_slots.specs.LevelStarts.{level_start, dense_leaf_count, leaves_to, counts, dense_room, start_first, start_low, start_next, start_up, start_last, entries_last, leaves_last}
use Rattle.check_slots.specs.SlotTests.{clear_at, level_slot, last_levels_clear}

-- a level by its number: what is known of it, and that its first node is the level's
pub record LevelAt (s : Bytes) (f : Frame) (t : ℕ) (l : Level) : Type 0 where
  pub level : LevelOf s f l
  pub start : l.node.0 ≡ level_start s f t

-- the first slot of a level: the entries before it, less those that continue
abbrev pub slot_of : Frame → Level → ℕ
slot_of f l = f.totals.entries + l.entry.0 - l.branches

-- no more branches continue before a level than there are entries, and these are few
pub record SlotRoom (f : Frame) (l : Level) : Type 0 where
  pub branches : l.branches ≤ f.totals.entries + l.entry.0
  pub few : f.totals.entries + l.entry.0 < 1108101562368

module _ (s : Bytes) (f : Frame) (j : PassedTo15 s f) (some : 0 < f.leaves) where
  louds : LoudsValid s f
  louds = (bits_pass s f j).louds

  -- the first sparse level
  pub first_level : (l : Level) → l.node.0 ≡ f.dense.nodes → l.entry.0 ≡ 0 → l.branches ≡ f.totals.children → LevelAt s f f.dense.levels l
  first_level l a b c = record { level = level_sparse s f louds l a b c; start = a ∙ sym (start_first s f j some) }

  -- the node count as a level: all entries and all branches that continue stand before it
  pub level_end : (l : Level) → l.node.0 ≡ node_count f → l.entry.0 ≡ f.sparse.entries → l.branches + 1 ≡ node_count f → LevelOf s f l
  level_end l a b c =
      sparse_level s f louds l (omega arith) (omega arith) (b ∙ sym (entries_last s f j some) ∙ ap (first_entry s f) (sym a)) (omega (arith, (counts s f j some).node_total, ap (rank (sc_body s f)) b))

  -- behind the last node there is no further level
  pub no_level : (k t : ℕ) → node_count f ≤ level_start s f t → level_start s f (t + k) ≡ level_start s f t
  no_level zero t h = let e : t + 0 ≡ t = omega arith in ap (level_start s f) e
  no_level (suc k) t h =
      let e : t + suc k ≡ suc (t + k) = omega arith in
      let i = no_level k t h in
      ap (level_start s f) e ∙ start_next s f j some (t + k)
      ∙ ap (λ (b : Bool). cond b (branches_before s f (level_start s f (t + k)) + 1) (level_start s f (t + k))) (le-ltb (level_start s f (t + k)) (node_count f) (omega arith)) ∙ i

  -- a level that has a node
  module _ (t : ℕ) (high : t < 64) (l : Level) (a : LevelAt s f t l) (m : l.node.0 < node_count f) where
    -- the level below it
    pub next_start : l.branches + 1 ≡ level_start s f (suc t)
    next_start =
        let e = a.start in
        sym (start_next s f j some t ∙ ap (λ (b : Bool). cond b (branches_before s f (level_start s f t) + 1) (level_start s f t)) (lt-ltb (level_start s f t) (node_count f) (rw e at m))
        ∙ ap (λ (k : ℕ). branches_before s f k + 1) (sym a.start) ∙ ap (λ (k : ℕ). k + 1) (sym a.level.branches))

    pub next_behind : Behind f l (l.branches + 1)
    next_behind = record {
      from = omega (arith, a.start, next_start, start_up s f j some t high);
      to = omega (arith, next_start, start_within (suc t) (omega arith));
    }
      where
        up : (k t : ℕ) → t + k ≤ 64 → level_start s f t ≤ level_start s f (t + k)
        up zero t h = let e : t + 0 ≡ t = omega arith in rw e (omega arith)
        up (suc k) t h = let e : t + suc k ≡ suc (t + k) = omega arith in rw e (omega (arith, up k t (omega arith), start_up s f j some (t + k) (omega arith)))

        start_within : (t : ℕ) → t ≤ 64 → level_start s f t ≤ node_count f
        start_within t h = let e : t + (64 - t) ≡ 64 = omega arith in omega (arith, up (64 - t) t (omega arith), ap (level_start s f) e, start_last s f j some)

    pub level_below : (next : Level) → LevelOf s f next → next.node.0 ≡ l.branches + 1 → LevelAt s f (suc t) next
    level_below next o e = record { level = o; start = e ∙ next_start }

  -- a sparse level
  module _ (t : ℕ) (low : f.dense.levels ≤ t) (high : t ≤ 64) (l : Level) (a : LevelAt s f t l) where
    -- its first node is sparse, or the node count
    pub level_first : f.dense.nodes ≤ l.node.0
    level_first = rw a.start (start_low s f j some t low high)

    -- its slots
    by_entry : l.branches ≡ f.totals.children + rank (sc_body s f) l.entry.0
    by_entry =
        a.level.branches ∙ branches_from s f louds l.node.0 level_first
        ∙ ap (λ (k : ℕ). f.totals.children + rank (sc_body s f) k) (sym a.level.entry)

    pub slot_room : SlotRoom f l
    slot_room = record {
      branches = omega (arith, by_entry, rank_le (sc_body s f) l.entry.0, dense_room s f j some);
      few = sum (counts_few s f j.frame).dense_entries (entry_within s f louds l a.level) j.frame.entries;
    }
      where
        sum : {a b c : ℕ} → a < 1103806595072 → b ≤ c → c < 4294967296 → a + b < 1108101562368
        sum h l m = omega arith

    pub slot_is : slot_of f l ≡ level_slot s f t
    slot_is =
        parts f.totals.entries f.totals.children l.entry.0 (rank (sc_body s f) l.entry.0) by_entry (dense_room s f j some) (rank_le (sc_body s f) l.entry.0)
        ∙ ap (λ (k : ℕ). dense_leaf_count f + (k - rank (sc_body s f) k)) a.level.entry ∙ ap (leaves_to s f) a.start
      where
        parts : {b : ℕ} (e c p r : ℕ) → b ≡ c + r → c ≤ e → r ≤ p → e + p - b ≡ e - c + (p - r)
        parts e c p r h k m = omega arith

  -- no node is on level 62
  pub last_levels_none : node_count f ≤ level_start s f 62 → last_levels_clear s f ≡ true
  last_levels_none h =
      let a = no_level 1 62 h in
      let b = no_level 2 62 h in
      let v : level_slot s f 62 ≡ f.leaves = ap (leaves_to s f) (sym b ∙ start_last s f j some) ∙ leaves_last s f j some in
      let w : level_slot s f 63 ≡ f.leaves = ap (leaves_to s f) a ∙ v in
      let z : level_slot s f 63 - level_slot s f 62 ≡ 0 = omega arith in
      let y : f.leaves - level_slot s f 63 ≡ 0 = omega arith in
      ap₂ ◌&&◌ (ap (all_from (clear_at s f (f.hash_width + 8)) (level_slot s f 62)) z ∙ from_none (clear_at s f (f.hash_width + 8)) (level_slot s f 62))
      (ap (all_from (clear_at s f f.hash_width) (level_slot s f 63)) y ∙ from_none (clear_at s f f.hash_width) (level_slot s f 63))
