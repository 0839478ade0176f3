-- Number 16 by positions in the bodies of an image that passed the numbers 11 to 15: what the check judges. `number_16` says that it is document 01's.
use Rattle.std.specs.Prelude.{ℕ, ◌+◌, ◌-◌, ◌*◌, ◌<◌, ◌≤◌, ◌≡◌, refl, Bool, true, ◌&&◌, List, [], ◌∷◌, ◌++◌, map, take, drop}
use Rattle.std.proofs.Common.{sym, ap, ap₂, ◌∙◌}
use native.Mathlib.Omega.{arith}
use Rattle.spec.specs.Bytes.{Bytes, all}
use Rattle.spec.specs.Frame.{Parts}
use Rattle.spec.specs.Nodes.{Shape, Node, zip_entries, split, sparse_shape, sparse_nodes, nodes_of, slotted, dense_shapes, total, levels_of, levels}
use Rattle.spec.specs.Trie.{nodes_valid}
use Rattle.spec.specs.Check.{slots_valid}
use Rattle.bits.proofs.PartLaws.{bits_room}
use Rattle.image.specs.FrameOf.{FrameOf, frame_parts}
use Rattle.image.specs.declared.Frame.{Frame}
use Rattle.check_levels.specs.Shapes.{leaves_at}
use Rattle.check_levels.specs.ListParts.{total_part}
use Rattle.check_levels.specs.Positions.{bits}
use Rattle.check_levels.specs.Bodies.{dl_body, dc_body, dp_body, sl_body, sc_body, sb_body, sv_body, bodies_sized}
use Rattle.check_levels.specs.Levels.{node_count}
use Rattle.check_levels.specs.Ranges.{all_from}
use Rattle.check_slots.specs.NodeSlots.{exact_clear, open_clear, slot_clear, all_clear, all_exact, exact_from, exact_parts, drop_slotted, take_slotted, short_slots}
use Rattle.check_slots.specs.LevelSlots.{between_clear, levels_slots}
use Rattle.check_slots.specs.SlotBits.{SlotsSized}
use Rattle.check_slots.specs.DenseExact.{dense_exact, dense_exacts}
use Rattle.check_slots.specs.SparseExact.{sparse_exact, sparse_exacts}
use Rattle.check_slots.specs.Passed.{slots_pass, PassedTo15, bits_pass, slots_parts}
use Rattle.check_slots.specs.LevelStarts.{level_start, dense_leaf_count, leaves_to, levels_whole, start_is, start_up, start_low, start_last, dense_part_leaves, leaves_before, leaves_last}
use Rattle.theory.proofs.TrieTests.{nodes_valid_true}

-- slot v has no bit set behind its first m bits
abbrev pub clear_at : Bytes → Frame → ℕ → ℕ → Bool
clear_at s f m v = slot_clear m f.width (bits (sv_body s f) (f.leaves * f.width)) v

-- the slots of an image have the length that the counts give
pub slots_sized : (s : Bytes) (f : Frame) → FrameOf s f → SlotsSized (sv_body s f) f.leaves f.width
slots_sized s f o = record { few_leaves = o.leaves; narrow = omega (arith, o.width, o.real_range, o.hash_range); room = bits_room (f.leaves * f.width) (sv_body s f) (bodies_sized s f o).sv }

-- the slots of the exact leaves among the dense nodes are clear
abbrev pub dense_clear : Bytes → Frame → Bool
dense_clear s f = all_from (dense_exact (clear_at s f 0) (dl_body s f) (dc_body s f) (dp_body s f)) 0 f.dense.nodes

-- a sparse entry is no exact leaf's, or the leaf's slot is clear
abbrev pub sparse_test : Bytes → Frame → ℕ → Bool
sparse_test s f = sparse_exact (clear_at s f 0) (sl_body s f) (sc_body s f) (sb_body s f) f.sparse.entries (dense_leaf_count f)

-- the slots of the exact leaves among the sparse nodes are clear
abbrev pub sparse_clear : Bytes → Frame → Bool
sparse_clear s f = all_from (sparse_test s f) 0 f.sparse.entries

-- the first slot of level t
abbrev pub level_slot : Bytes → Frame → ℕ → ℕ
level_slot s f t = leaves_to s f (level_start s f t)

-- the slots on level 62 are clear behind their hash bits and a byte, and those on level 63 behind their hash bits
abbrev pub last_levels_clear : Bytes → Frame → Bool
last_levels_clear s f =
    all_from (clear_at s f (f.hash_width + 8)) (level_slot s f 62) (level_slot s f 63 - level_slot s f 62)
    && all_from (clear_at s f f.hash_width) (level_slot s f 63) (f.leaves - level_slot s f 63)

module _ (s : Bytes) (f : Frame) (j : PassedTo15 s f) (some : 0 < f.leaves) where
  abbrev p : Parts
  p = frame_parts s f

  abbrev dense_part : List Shape
  dense_part = dense_shapes p.dl p.dc p.dp

  abbrev sparse_part : List Shape
  sparse_part = map sparse_shape (split (zip_entries p.sl p.sc) p.sb)

  abbrev shapes : List Shape
  shapes = dense_part ++ sparse_part

  abbrev w : ℕ
  w = f.width

  from_start : slotted w shapes (drop (0 * w) p.sv) ≡ nodes_of p
  unfolding nodes_of sparse_nodes
  from_start = let e : 0 * w ≡ 0 = omega arith in rw e (ap (λ (z : ℕ). slotted z shapes p.sv) j.frame.width)

  exacts : all (exact_clear 0) (nodes_of p) ≡ dense_clear s f && sparse_clear s f
  exacts =
      let z = bodies_sized s f j.frame in
      let t = bits_pass s f j in
      let e : 0 + total leaves_at dense_part ≡ dense_leaf_count f = omega (arith, dense_part_leaves s f j some) in
      ap (all (exact_clear 0)) (sym from_start) ∙ all_exact w p.sv 0 shapes ∙ exact_parts (clear_at s f 0) 0 dense_part sparse_part
      ∙ ap₂ ◌&&◌
      (dense_exacts (dl_body s f) (dc_body s f) (dp_body s f) f.dense.nodes (omega (arith, z.dl)) (omega (arith, z.dc)) (omega (arith, z.dp)) t.within (clear_at s f 0))
      (ap (λ (v : ℕ). exact_from (clear_at s f 0) v sparse_part) e
      ∙ sparse_exacts (clear_at s f 0) (sl_body s f) (sc_body s f) (sb_body s f) f.sparse.entries (dense_leaf_count f) z.sl (omega (arith, z.sc)) (omega (arith, z.sb)) t.louds.first t.extra)

  between_total : (i e : ℕ) → i ≤ e → total leaves_at (take e shapes) ≡ total leaves_at (take i shapes) + total leaves_at (take (e - i) (drop i shapes))
  between_total i e h =
      let whole : i + (e - i) ≡ e = omega arith in
      ap (λ (k : ℕ). total leaves_at (take k shapes)) (sym whole) ∙ total_part leaves_at shapes i (e - i)

  -- the slots of the nodes from i to e
  between_slots : (m i e : ℕ) → f.dense.nodes ≤ i → i ≤ e → between_clear m i e (nodes_of p) ≡ all_from (clear_at s f m) (leaves_to s f i) (leaves_to s f e - leaves_to s f i)
  between_slots m i e h l =
      let a = leaves_before s f j some i h in
      let b = leaves_before s f j some e (omega arith) in
      let x : 0 + total leaves_at (take i shapes) ≡ leaves_to s f i = omega arith in
      let y : total leaves_at (take (e - i) (drop i shapes)) ≡ leaves_to s f e - leaves_to s f i = omega (arith, between_total i e l) in
      ap (λ (ns : List Node). all (λ x. exact_clear m x && open_clear m x) (take (e - i) (drop i ns))) (sym from_start)
      ∙ ap (λ (ns : List Node). all (λ x. exact_clear m x && open_clear m x) (take (e - i) ns)) (drop_slotted w p.sv i 0 shapes)
      ∙ ap (all (λ x. exact_clear m x && open_clear m x)) (take_slotted w (e - i) (drop i shapes) (drop ((0 + total leaves_at (take i shapes)) * w) p.sv))
      ∙ all_clear m w p.sv (0 + total leaves_at (take i shapes)) (take (e - i) (drop i shapes))
      ∙ ap₂ (all_from (clear_at s f m)) x y

  levels_few : f.dense.levels ≤ 62
  levels_few = omega (arith, j.frame.dense_range)

  -- the leaves before level 62 are at most those before level 63
  pub slots_up : level_slot s f 62 ≤ level_slot s f 63
  slots_up =
      let low = start_low s f j some in
      let z = levels_few in
      omega (arith, leaves_before s f j some (level_start s f 62) (low 62 (omega arith) (omega arith)), leaves_before s f j some (level_start s f 63) (low 63 (omega arith) (omega arith)), between_total (level_start s f 62) (level_start s f 63) (start_up s f j some 62 (omega arith)))

  -- and these are at most all
  pub slots_within : level_slot s f 63 ≤ f.leaves
  slots_within =
      let low = start_low s f j some 63 (omega (arith, levels_few)) (omega arith) in
      let e = start_up s f j some 63 (omega arith) in
      let z = start_last s f j some in
      omega (arith, leaves_before s f j some (level_start s f 63) low, leaves_before s f j some (node_count f) (omega arith), between_total (level_start s f 63) (node_count f) (omega arith), leaves_last s f j some)

  level_63 : all_from (clear_at s f f.hash_width) (level_slot s f 63) (level_slot s f 64 - level_slot s f 63) ≡ all_from (clear_at s f f.hash_width) (level_slot s f 63) (f.leaves - level_slot s f 63)
  level_63 =
      let last : level_slot s f 64 ≡ f.leaves = ap (leaves_to s f) (start_last s f j some) ∙ leaves_last s f j some in
      ap (λ (k : ℕ). all_from (clear_at s f f.hash_width) (level_slot s f 63) (k - level_slot s f 63)) last

  -- Number 16 is judged by positions as document 01 says it of the nodes.
  pub number_16 : slots_pass s f ≡ dense_clear s f && sparse_clear s f && last_levels_clear s f
  number_16 =
      let q = levels_whole s f j some in
      let low = start_low s f j some in
      let z = levels_few in
      let e62 = start_is s f j some 62 (omega arith) in
      let e63 = start_is s f j some 63 (omega arith) in
      let e64 = start_is s f j some 64 (omega arith) in
      slots_parts s f j
      ∙ levels_slots f.hash_width (levels_of (nodes_of p)) (nodes_of p) q.0 q.1 short
      ∙ ap₂ ◌&&◌ exacts
      (ap₂ ◌&&◌
      (ap₂ (λ (a b : ℕ). between_clear (f.hash_width + 8) a b (nodes_of p)) e62 e63 ∙ between_slots (f.hash_width + 8) (level_start s f 62) (level_start s f 63) (low 62 (omega arith) (omega arith)) (start_up s f j some 62 (omega arith)))
      (ap₂ (λ (a b : ℕ). between_clear f.hash_width a b (nodes_of p)) e63 e64 ∙ between_slots f.hash_width (level_start s f 63) (level_start s f 64) (low 63 (omega arith) (omega arith)) (start_up s f j some 63 (omega arith)) ∙ level_63))
    where
      short : all (open_clear (f.hash_width + 16)) (nodes_of p) ≡ true
      short = ap (all (open_clear (f.hash_width + 16))) (sym from_start) ∙ short_slots w (f.hash_width + 16) shapes (drop (0 * w) p.sv) (omega (arith, j.frame.width, j.frame.real_range))

-- no leaves, no slots
pub no_leaves : (s : Bytes) (f : Frame) → PassedTo15 s f → f.leaves ≡ 0 → slots_pass s f ≡ true
unfolding slots_valid levels_of levels all total
no_leaves s f j z = slots_parts s f j ∙ go (nodes_of (frame_parts s f)) (bits_pass s f j).nodes
  where
    go : (ns : List Node) → nodes_valid f.dense.levels f.dense.nodes f.leaves ns ≡ true → slots_valid f.hash_width 0 (levels_of ns) ≡ true
    go [] h = refl
    go (r ∷ ns) h = absurd (omega (arith, (nodes_valid_true f.dense.levels f.dense.nodes f.leaves r ns h).some_leaf))
