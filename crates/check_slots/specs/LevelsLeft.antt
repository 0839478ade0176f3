-- LV compared level by level: what is known where the first levels agree, and what the next number says.
use Rattle.std.specs.Prelude.{ℕ, suc, ◌+◌, ◌-◌, ◌<◌, ◌≤◌, ◌≡◌, refl, Bool, true, false, List, ◌∷◌, length, drop, ltb, eqb}
use Rattle.std.proofs.Common.{sym, ap, ap₂, ◌∙◌, arith, length-drop, drop-drop, ltb-true, ltb-false}
use Rattle.spec.specs.Bytes.{Bytes, equal, from32}
use Rattle.bits.proofs.ValueLaws.{Small, small_drop}
use Rattle.image.specs.declared.Frame.{Frame}
use Rattle.check_levels.specs.declared.Level.{Level}
use Rattle.check_levels.specs.LevelEnds.{nodes_above}
use Rattle.check_levels.specs.Levels.{node_count, branches_before, LevelOf, level_root}
use Rattle.check_slots.specs.Passed.{PassedTo15, bits_pass}
use Rattle.check_slots.specs.LevelStarts.{level_start, start_last, nodes_few}
use Rattle.check_slots.specs.LastLevels.{LevelAt, next_start, next_behind}
use Rattle.check_slots.specs.LevelBytes.{numbers, numbers_short, numbers_other, numbers_more, numbers_none, rest_empty, starts_left, starts_more, starts_none}

-- whether LV is right
abbrev pub starts_agree : Bytes → Frame → Bool
starts_agree s f = equal (drop f.lv s) (numbers (starts_left s f 64 0))

-- The levels before the one that starts at a node agree with LV up to an offset: LV is right if what is left of it holds the first nodes from there on.
pub record LevelsLeft (s : Bytes) (f : Frame) (level : Level) (start at : ℕ) : Type 0 where
  -- the number of the level that is next
  pub depth : ℕ
  pub few : depth ≤ 64
  -- it starts at the node, or there is no such level
  pub start_is : start ≡ level_start s f depth
  pub start_in : start ≤ node_count f
  -- a level at or before it is known
  pub known : LevelOf s f level
  pub before : level.node.0 ≤ start
  -- what is left of LV
  pub room : at ≤ length s
  pub rest : starts_agree s f ≡ equal (drop at s) (numbers (starts_left s f (64 - depth) start))

module _ (s : Bytes) (f : Frame) (j : PassedTo15 s f) (some : 0 < f.leaves) where
  -- no level has been compared
  pub left_first : (l : Level) → l.node.0 ≡ 0 → l.entry.0 ≡ 0 → l.branches ≡ 0 → LevelsLeft s f l 0 f.lv
  unfolding level_start nodes_above
  left_first l n e b = record {
    depth = 0;
    few = omega arith;
    start_is = refl;
    start_in = omega arith;
    known = level_root s f (bits_pass s f j).louds l n e b;
    before = omega arith;
    room = j.frame.end;
    rest = refl;
  }

  module _ (l : Level) (start at : ℕ) (i : LevelsLeft s f l start at) where
    -- no level is left: LV ends here
    pub left_done : node_count f ≤ start → starts_agree s f ≡ eqb at (length s)
    left_done h =
        i.rest ∙ ap (λ (xs : List ℕ). equal (drop at s) (numbers xs)) (starts_none s f (64 - i.depth) start h) ∙ numbers_none (drop at s)
        ∙ rest_empty s at i.room

    module _ (more : start < node_count f) where
      -- a level with a node is one of the 64
      deep : i.depth < 64
      deep = go (ltb i.depth 64) refl
        where
          go : (t : Bool) → ltb i.depth 64 ≡ t → i.depth < 64
          go true e = ltb-true i.depth 64 e
          go false e =
              let z : i.depth ≡ 64 = omega (arith, i.few, ltb-false i.depth 64 e) in
              absurd (omega (arith, i.start_is, ap (level_start s f) z, start_last s f j some))

      -- its first node is the next number
      next_number : starts_agree s f ≡ equal (drop at s) (numbers (starts_left s f (suc (63 - i.depth)) start))
      next_number = let e : 64 - i.depth ≡ suc (63 - i.depth) = omega (arith, deep) in i.rest ∙ ap (λ (k : ℕ). equal (drop at s) (numbers (starts_left s f k start))) e

      one_more : starts_agree s f ≡ equal (drop at s) (numbers (start ∷ starts_left s f (63 - i.depth) (branches_before s f start + 1)))
      one_more = next_number ∙ ap (λ (xs : List ℕ). equal (drop at s) (numbers xs)) (starts_more s f (63 - i.depth) start more)

      -- LV ends before it
      pub left_short : length s - at < 4 → starts_agree s f ≡ false
      left_short h = one_more ∙ numbers_short (drop at s) start (starts_left s f (63 - i.depth) (branches_before s f start + 1)) (omega (arith, length-drop at s))

      -- another number stands there
      pub left_other : (from32 (drop at s) ≡ start → ⊥) → starts_agree s f ≡ false
      left_other h = one_more ∙ numbers_other (drop at s) start (starts_left s f (63 - i.depth) (branches_before s f start + 1)) (omega (arith, nodes_few s f j some)) h

      -- it stands there, and the level is found
      pub left_next : Small s → 4 ≤ length s - at → from32 (drop at s) ≡ start → (m : Level) → LevelOf s f m → m.node.0 ≡ start → LevelsLeft s f m (m.branches + 1) (at + 4)
      left_next small h e m o n =
          let a : LevelAt s f i.depth m = record { level = o; start = n ∙ i.start_is } in
          let here : m.node.0 < node_count f = omega (arith, more) in
          let b = next_behind s f j some i.depth deep m a here in
          let k : 64 - (i.depth + 1) ≡ 63 - i.depth = omega arith in
          let d : i.depth + 1 ≡ suc i.depth = omega arith in
          let branches : branches_before s f start + 1 ≡ m.branches + 1 = ap (λ (x : ℕ). x + 1) (sym (o.branches ∙ ap (branches_before s f) n)) in
          record {
            depth = i.depth + 1;
            few = omega (arith, deep);
            start_is = next_start s f j some i.depth deep m a here ∙ ap (level_start s f) (sym d);
            start_in = b.to;
            known = o;
            before = b.from;
            room = omega (arith, i.room);
            rest = one_more ∙ numbers_more (drop at s) start (starts_left s f (63 - i.depth) (branches_before s f start + 1)) (small_drop at s small) (omega (arith, length-drop at s)) e
                ∙ ap₂ (λ (x : Bytes) (xs : List ℕ). equal x (numbers xs)) (drop-drop 4 at s) (ap₂ (starts_left s f) (sym k) branches);
          }
