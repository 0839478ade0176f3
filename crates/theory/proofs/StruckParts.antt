-- The header, the bodies and the parts of an image without its hash bits, and what the check asks of them from number 12 on (`pass_struck`, `pass_back`).
-- Used by Struck.
use Prim.Native.Nat.{ℕ, zero, suc, ◌+◌, ◌*◌, ◌≤◌, ◌<◌}
use Rattle.std.specs.Prelude.{◌≡◌, Bool, true, false, ◌&&◌, get_or, take, drop, leb}
use Rattle.std.proofs.Math.Path.{refl, sym, ap, ap₂}
use Rattle.std.proofs.Common.{◌∙◌, subst, true≢false, zero-mul, length-take, take-append-drop, drop_of_length-le, get_or-take, get_or-drop, drop_at}
use Rattle.std.proofs.Math.Bool.{cond}
use mathlib.Core.List.{List, [], ◌∷◌, ◌++◌, map}
use Rattle.std.proofs.Math.Option.{Option, none, some}
use native.Mathlib.Omega.{arith}
use Rattle.std.proofs.Math.Nat.{suc-mul}
use Rattle.std.proofs.Math.ListN.{length, length-append, length-drop, get_or-append}
use Rattle.std.proofs.Math.Seq.{length-take-le, take-append-le}
use Rattle.std.proofs.lemmas.List.{drop-append-le}
use Rattle.std.proofs.Math.Dec.{eqb}
use borrow.Author.Tests.{leb-true, eqb-true, le-leb, eq-eqb}
use Rattle.spec.specs.Bytes.{Bytes, Bits, all, every, concat, blocks, ones, clear, equal, from32, iota}
use Rattle.spec.specs.Image.{Settings, Counts, known_version, slot_width, Row, version_rows, sizes, Bodies, in_order, level_starts}
use Rattle.spec.specs.Frame.{has_header, is_record, read_bodies, named, rows_of, read_settings, read_counts, Parts}
use Rattle.spec.specs.Nodes.{Node, Shape, exact_slot, dense_shapes, sparse_shape, sparse_nodes, extra_ends, slotted, nodes_of, total, levels_of}
use Rattle.spec.specs.Trie.{leaf_count, first_set, covered, nodes_valid, builders_trie}
use Rattle.spec.specs.Check.{sized, header_valid, no_spare, spare_clear, ranks_valid, tables_valid, slots_valid}
use Rattle.spec.specs.Struck.{real_slots, struck_header}
use Rattle.theory.specs.Terms.{All, IsBytes}
use Rattle.theory.proofs.Lists.{le_or_lt, bytes_drop, and_both, every_true, first_members}
use Rattle.theory.proofs.Frame.{ShortBodies, Paired, paired_length}
use Rattle.theory.proofs.TrieTests.{nodes_valid_true, nodes_valid_levels, nodes_valid_leaves}
use Rattle.theory.proofs.StruckNodes.{strike, strike_levels, strike_widths, strike_nodes_valid, strike_slots_valid, shape_slots, leaf_count_slotted, slotted_strike}

-- ---- the real bits of slots

module _ (h n : ℕ) where
  -- Slots have n real bits each.
  pub length_real : (k : ℕ) (bs : Bits) → k * (h + n) ≤ length bs → length (real_slots h n k bs) ≡ k * n
  unfolding real_slots
  length_real zero bs l = sym (zero-mul n)
  length_real (suc k) bs l =
      let m = suc-mul k (h + n) in
      let first : length (take n (drop h bs)) ≡ n = length-take-le n (drop h bs) (omega (arith, length-drop h bs)) in
      let behind = length_real k (drop (h + n) bs) (omega (arith, length-drop (h + n) bs)) in
      omega (arith, length-append (take n (drop h bs)) (real_slots h n k (drop (h + n) bs)), suc-mul k n)

  -- What stands behind the slots does not matter.
  pub real_append : (k : ℕ) (bs z : Bits) → k * (h + n) ≤ length bs → real_slots h n k (bs ++ z) ≡ real_slots h n k bs
  unfolding real_slots
  real_append zero bs z l = refl
  real_append (suc k) bs z l =
      let m = suc-mul k (h + n) in
      ap₂ ◌++◌ (ap (take n) (drop-append-le h bs z (omega arith)) ∙ take-append-le n (drop h bs) z (omega (arith, length-drop h bs)))
      (ap (real_slots h n k) (drop-append-le (h + n) bs z (omega arith)) ∙ real_append k (drop (h + n) bs) z (omega (arith, length-drop (h + n) bs)))

-- ---- the header

-- settings with no hash bits
abbrev pub unhashed : Settings → Settings
unhashed st = record { version = st.version; dense_levels = st.dense_levels; real_width = st.real_width; hash_width = 0 }

byte_kept : (t w : Bytes) (i : ℕ) → 16 ≤ length t → i < 16 → get_or (take 16 t ++ w) i 0 ≡ get_or t i 0
byte_kept t w i l h = get_or-append (take 16 t) w 0 i (omega (arith, length-take-le 16 t l)) ∙ get_or-take 16 t i 0 h

number_kept : (t w : Bytes) (k : ℕ) → 16 ≤ length t → k ≤ 12 → from32 (drop k (take 16 t ++ w)) ≡ from32 (drop k t)
unfolding from32
number_kept t w k l h = rw (at 0 (omega arith), at 1 (omega arith), at 2 (omega arith), at 3 (omega arith))
  where
    at : (i : ℕ) → i < 4 → get_or (drop k (take 16 t ++ w)) i 0 ≡ get_or (drop k t) i 0
    at i j = get_or-drop k (take 16 t ++ w) i 0 ∙ byte_kept t w (k + i) l (omega arith) ∙ sym (get_or-drop k t i 0)

-- what is read of a header with h 0
pub record HeaderStruck (s w : Bytes) : Type 0 where
  pub settings : read_settings (struck_header s ++ w) ≡ unhashed (read_settings s)
  pub counts : read_counts (struck_header s ++ w) ≡ read_counts s
  pub marked : has_header (struck_header s ++ w) ≡ has_header s
  pub rows : rows_of (struck_header s ++ w) ≡ rows_of s
  pub behind : drop 22 (struck_header s ++ w) ≡ w

-- A header with h 0 says else what it said, and the records stand behind it.
pub header_struck : (s w : Bytes) → 22 ≤ length s → HeaderStruck s w
unfolding struck_header read_settings read_counts has_header
header_struck [] w l = absurd (omega arith)
header_struck (x₀ ∷ []) w l = absurd (omega arith)
header_struck (x₀ ∷ x₁ ∷ []) w l = absurd (omega arith)
header_struck (x₀ ∷ x₁ ∷ x₂ ∷ []) w l = absurd (omega arith)
header_struck (x₀ ∷ x₁ ∷ x₂ ∷ x₃ ∷ []) w l = absurd (omega arith)
header_struck (x₀ ∷ x₁ ∷ x₂ ∷ x₃ ∷ x₄ ∷ []) w l = absurd (omega arith)
header_struck (x₀ ∷ x₁ ∷ x₂ ∷ x₃ ∷ x₄ ∷ x₅ ∷ t) w l =
    let more : 16 ≤ length t = omega arith in
    let size : length (take 16 t) ≡ 16 = length-take-le 16 t more in
    record {
      settings = refl;
      counts = rw (number_kept t w 0 more (omega arith), number_kept t w 4 more (omega arith), number_kept t w 8 more (omega arith), number_kept t w 12 more (omega arith));
      marked = rw (le-leb 22 (length (x₀ ∷ x₁ ∷ x₂ ∷ x₃ ∷ x₄ ∷ 0 ∷ take 16 t ++ w)) (omega (arith, length-append (take 16 t) w)), le-leb 22 (length (x₀ ∷ x₁ ∷ x₂ ∷ x₃ ∷ x₄ ∷ x₅ ∷ t)) l);
      rows = refl;
      behind = drop_at (take 16 t) w 16 size;
    }

-- ---- the bodies

read_none : (v : ℕ) → read_bodies (version_rows v) [] ≡ none
unfolding read_bodies version_rows
read_none v = refl

-- Bytes whose bodies are read have the bytes of a header.
pub found_long : (s : Bytes) (bs : List Bytes) → read_bodies (rows_of s) (drop 22 s) ≡ some bs → 22 ≤ length s
found_long s bs h = le_or_lt 22 (length s) (λ l. l) (λ l. absurd (none_some (sym (read_none (get_or s 2 0)) ∙ ap (read_bodies (rows_of s)) (sym (drop_of_length-le s {i = 22} (omega arith))) ∙ h)))
  where
    none_some : ◌≡◌ {A = Option (List Bytes)} none (some bs) → ⊥
    none_some e = let z : ◌≡◌ {A = ℕ} 0 1 = cc in omega arith

byte_at : (i : ℕ) (s : Bytes) → IsBytes s → get_or s i 0 < 256
byte_at i [] w = omega arith
byte_at zero (x ∷ s) w = w.0
byte_at (suc i) (x ∷ s) w = byte_at i s w.1

from32_short : (s : Bytes) → IsBytes s → from32 s < 4294967296
unfolding from32
from32_short s w = omega (arith, byte_at 0 s w, byte_at 1 s w, byte_at 2 s w, byte_at 3 s w)

-- The length of a body that is read fits 32 bits.
pub read_short : (rs : List Row) (s : Bytes) (bs : List Bytes) → IsBytes s → read_bodies rs s ≡ some bs → ShortBodies bs
unfolding read_bodies
read_short [] [] bs w h = let q : [] ≡ bs = cc in subst ShortBodies q tt
read_short [] (x ∷ s) bs w h = let z : ◌≡◌ {A = ℕ} 0 1 = cc in absurd (omega arith)
read_short (r ∷ rs) s bs w h = go (is_record r.first r.second s) (read_bodies rs (drop (from32 (drop 2 s) + 6) s)) refl h (λ cs f. read_short rs (drop (from32 (drop 2 s) + 6) s) cs (bytes_drop (from32 (drop 2 s) + 6) s w) f)
  where
    go : (t : Bool) (o : Option (List Bytes)) → read_bodies rs (drop (from32 (drop 2 s) + 6) s) ≡ o
        → elim t [ true ↦ elim o [ none ↦ none | some bs ↦ some (take (from32 (drop 2 s)) (drop 6 s) ∷ bs) ] | false ↦ none ] ≡ some bs
        → ((cs : List Bytes) → read_bodies rs (drop (from32 (drop 2 s) + 6) s) ≡ some cs → ShortBodies cs) → ShortBodies bs
    go true none f h ih = let z : ◌≡◌ {A = ℕ} 0 1 = cc in absurd (omega arith)
    go true (some cs) f h ih =
        let q : take (from32 (drop 2 s)) (drop 6 s) ∷ cs ≡ bs = cc in
        subst ShortBodies q (omega (arith, length-take (from32 (drop 2 s)) (drop 6 s), from32_short (drop 2 s) (bytes_drop 2 s w)), ih cs f)
    go false o f h ih = let z : ◌≡◌ {A = ℕ} 0 1 = cc in absurd (omega arith)

-- The bodies of a version are the twelve under their marks, and what stands behind them.
pub bodies_named : (v : ℕ) (bs : List Bytes) → Paired (version_rows v) bs → bs ≡ in_order (named bs) ++ drop 12 bs
unfolding version_rows named iota
bodies_named v bs q = sym (take-append-drop 12 bs) ∙ ap (λ (z : List Bytes). z ++ drop 12 bs) (first_members [] 12 bs (omega (arith, paired_length (version_rows v) bs q)))

-- bodies with another SV
abbrev pub with_slots_body : Bodies → Bytes → Bodies
with_slots_body b sv = record { DL = b.DL; DC = b.DC; DP = b.DP; SL = b.SL; SC = b.SC; SB = b.SB; SV = sv; RL = b.RL; RC = b.RC; RP = b.RP; RS = b.RS; TS = b.TS }

module _ (b : Bodies) (sv : Bytes) (rest : List Bytes) where
  -- Bodies with another SV are as many.
  pub paired_slots : (v : ℕ) → Paired (version_rows v) (in_order b ++ rest) → Paired (version_rows v) (in_order (with_slots_body b sv) ++ rest)
  unfolding version_rows
  paired_slots v q = q

  -- What holds of each body and of another SV holds of the bodies with that SV.
  pub all_slots : (P : Bytes → Type 0) → P sv → All P (in_order b ++ rest) → All P (in_order (with_slots_body b sv) ++ rest)
  all_slots P e (h₀, (h₁, (h₂, (h₃, (h₄, (h₅, (h₆, h))))))) = (h₀, (h₁, (h₂, (h₃, (h₄, (h₅, (e, h)))))))

-- ---- the parts

-- the parts of an image without its hash bits
abbrev pub struck_parts : Parts → Parts
struck_parts p = record {
  settings = unhashed p.settings;
  counts = p.counts;
  dl = p.dl;
  dc = p.dc;
  dp = p.dp;
  sl = p.sl;
  sc = p.sc;
  sb = p.sb;
  sv = real_slots p.settings.hash_width p.settings.real_width p.counts.leaves p.sv;
}

-- the shapes of the nodes
abbrev shapes_of : Parts → List Shape
shapes_of p = dense_shapes p.dl p.dc p.dp ++ map sparse_shape (sparse_nodes p)

leaves_same : (p : Parts) → leaf_count (nodes_of (struck_parts p)) ≡ leaf_count (nodes_of p)
unfolding nodes_of
leaves_same p = leaf_count_slotted (slot_width (unhashed p.settings)) (shapes_of p) (struck_parts p).sv ∙ sym (leaf_count_slotted (slot_width p.settings) (shapes_of p) p.sv)

-- there are bits for all slots
abbrev pub EnoughBits : Parts → Type 0
EnoughBits p = p.counts.leaves * slot_width p.settings ≤ length p.sv

module _ (p : Parts) (enough : EnoughBits p) (count : leaf_count (nodes_of p) ≡ p.counts.leaves) where
  -- The nodes of the parts without hash bits are the nodes, without hash bits.
  pub nodes_struck : nodes_of (struck_parts p) ≡ map (strike p.settings.hash_width) (nodes_of p)
  unfolding nodes_of
  nodes_struck =
      let st : Settings = p.settings in
      let k : shape_slots (shapes_of p) ≡ p.counts.leaves = sym (leaf_count_slotted (slot_width st) (shapes_of p) p.sv) ∙ count in
      let z : 0 + st.real_width ≡ st.real_width = omega arith in
      ap₂ (λ (w j : ℕ). slotted w (shapes_of p) (real_slots st.hash_width st.real_width j p.sv)) z (sym k) ∙ slotted_strike st.hash_width st.real_width (shapes_of p) p.sv (rw k enough)

  trie_same : builders_trie (struck_parts p) ≡ builders_trie p
  unfolding builders_trie
  trie_same =
      let st : Settings = p.settings in
      let c : Counts = p.counts in
      ap (λ (t : Bool). every (first_set p.sb ∷ eqb (ones p.sb) c.sparse_nodes ∷ covered p.dc p.dl ∷ all extra_ends (sparse_nodes p) ∷ t ∷ []))
      (ap (nodes_valid st.dense_levels c.dense_nodes c.leaves) nodes_struck ∙ strike_nodes_valid st.hash_width st.dense_levels c.dense_nodes c.leaves (nodes_of p))

  tables_same : (b : Bodies) (sv : Bytes) (rest : List Bytes) → tables_valid (struck_parts p) (in_order (with_slots_body b sv) ++ rest) ≡ tables_valid p (in_order b ++ rest)
  unfolding tables_valid
  tables_same b sv rest =
      ap (λ (ws : List ℕ). ranks_valid p b && cond (eqb p.settings.version 2) (equal (get_or rest 0 []) (level_starts ws)) true)
      (ap (λ (ns : List Node). map length (levels_of ns)) nodes_struck ∙ strike_widths p.settings.hash_width (nodes_of p))

  slots_same : concat (levels_of (nodes_of p)) ≡ nodes_of p
      → slots_valid p.settings.hash_width 0 (levels_of (nodes_of p)) ≡ (all (λ n. clear (exact_slot n)) (nodes_of p) && slots_valid 0 0 (levels_of (nodes_of (struck_parts p))))
  slots_same e =
      let h : ℕ = p.settings.hash_width in
      strike_slots_valid h 0 (levels_of (nodes_of p))
      ∙ ap₂ (λ (ns : List Node) (ls : List (List Node)). all (λ n. clear (exact_slot n)) ns && slots_valid 0 0 ls) e (sym (ap levels_of nodes_struck ∙ strike_levels h (nodes_of p)))

module _ (p : Parts) (b : Bodies) (sv : Bytes) where
  header_same : (rest : List Bytes) → p.settings.hash_width ≤ 16 → length sv ≡ blocks 8 (p.counts.leaves * slot_width (unhashed p.settings)) → length b.SV ≡ blocks 8 (p.counts.leaves * slot_width p.settings)
      → header_valid (struck_parts p) (in_order (with_slots_body b sv) ++ rest) ≡ header_valid p (in_order b ++ rest)
  unfolding header_valid
  header_same rest small e f = rw (le-leb p.settings.hash_width 16 small, eq-eqb (length sv) _ e, eq-eqb (length b.SV) _ f)

  spare_struck : no_spare (p.counts.leaves * slot_width (unhashed p.settings)) sv ≡ true → spare_clear p b ≡ true → spare_clear (struck_parts p) (with_slots_body b sv) ≡ true
  unfolding spare_clear
  spare_struck e h =
      let q = every_true (no_spare p.counts.dense_nodes b.DP ∷ no_spare p.counts.sparse_entries b.SC ∷ no_spare p.counts.sparse_entries b.SB ∷ no_spare (p.counts.leaves * slot_width p.settings) b.SV ∷ []) h in
      rw (q.0, q.1.0, q.1.1.0, e)

-- ---- what the tests say

trie_nodes : (p : Parts) → builders_trie p ≡ true → nodes_valid p.settings.dense_levels p.counts.dense_nodes p.counts.leaves (nodes_of p) ≡ true
unfolding builders_trie
trie_nodes p h = (every_true (first_set p.sb ∷ eqb (ones p.sb) p.counts.sparse_nodes ∷ covered p.dc p.dl ∷ all extra_ends (sparse_nodes p) ∷ nodes_valid p.settings.dense_levels p.counts.dense_nodes p.counts.leaves (nodes_of p) ∷ []) h).1.1.1.1.0

-- A builder's trie has as many leaves as the header says.
pub trie_count : (p : Parts) → builders_trie p ≡ true → leaf_count (nodes_of p) ≡ p.counts.leaves
trie_count p h = nodes_valid_leaves p.settings.dense_levels p.counts.dense_nodes p.counts.leaves (nodes_of p) (trie_nodes p h)

nodes_whole : (dense dense_count count : ℕ) (ns : List Node) → nodes_valid dense dense_count count ns ≡ true → concat (levels_of ns) ≡ ns
unfolding levels_of concat total
nodes_whole dense dense_count count [] h = refl
nodes_whole dense dense_count count (r ∷ ns) h = (nodes_valid_levels r ns (nodes_valid_true dense dense_count count r ns h)).whole

trie_whole : (p : Parts) → builders_trie p ≡ true → concat (levels_of (nodes_of p)) ≡ nodes_of p
trie_whole p h = nodes_whole p.settings.dense_levels p.counts.dense_nodes p.counts.leaves (nodes_of p) (trie_nodes p h)

sized_at : (i : ℕ) (ns : List ℕ) (bs : List Bytes) → sized ns bs ≡ true → length (get_or bs i []) ≡ get_or ns i 0
unfolding sized
sized_at i [] [] h = refl
sized_at i [] (b ∷ bs) h = absurd (true≢false (sym h))
sized_at i (n ∷ ns) [] h = absurd (true≢false (sym h))
sized_at zero (n ∷ ns) (b ∷ bs) h = eqb-true (length b) n (and_both (eqb (length b) n) (sized ns bs) h).0
sized_at (suc i) (n ∷ ns) (b ∷ bs) h = sized_at i ns bs (and_both (eqb (length b) n) (sized ns bs) h).1

-- A header that is right has h in range, and SV is as long as its slots.
pub header_tests : (p : Parts) (bs : List Bytes) → header_valid p bs ≡ true → (p.settings.hash_width ≤ 16) × (length (get_or bs 6 []) ≡ blocks 8 (p.counts.leaves * slot_width p.settings))
unfolding header_valid
header_tests p bs h =
    let t = every_true (known_version p.settings.version ∷ leb p.settings.dense_levels 4 ∷ leb p.settings.real_width 16 ∷ leb p.settings.hash_width 16 ∷ leb p.counts.leaves 65535 ∷ sized (sizes p.settings p.counts) (take 12 bs) ∷ []) h in
    (leb-true p.settings.hash_width 16 t.1.1.1.0, ap length (sym (get_or-take 12 bs 6 [] (omega arith))) ∙ sized_at 6 (sizes p.settings p.counts) (take 12 bs) t.1.1.1.1.1.0)

-- ---- both pass

-- none of the numbers from 12 on applies to these parts and bodies
pub record PartsPass (p : Parts) (b : Bodies) (rest : List Bytes) : Type 0 where
  pub header : header_valid p (in_order b ++ rest) ≡ true
  pub spare : spare_clear p b ≡ true
  pub trie : builders_trie p ≡ true
  pub tables : tables_valid p (in_order b ++ rest) ≡ true
  pub slots : slots_valid p.settings.hash_width 0 (levels_of (nodes_of p)) ≡ true

-- The slots of exact leaves are zero where 16 does not apply.
pub pass_exact : (p : Parts) (b : Bodies) (rest : List Bytes) → PartsPass p b rest → all (λ n. clear (exact_slot n)) (nodes_of p) ≡ true
pass_exact p b rest a =
    let ls : List (List Node) = levels_of (nodes_of p) in
    let h : ℕ = p.settings.hash_width in
    subst (λ (ns : List Node). all (λ n. clear (exact_slot n)) ns ≡ true) (trie_whole p a.trie) (and_both (all (λ n. clear (exact_slot n)) (concat ls)) (slots_valid 0 0 (map (map (strike h)) ls)) (sym (strike_slots_valid h 0 ls) ∙ a.slots)).0

-- an SV that is as long as its slots, and another that is so without hash bits and has no spare bit set
pub record SlotsBodies (p : Parts) (b : Bodies) (sv : Bytes) : Type 0 where
  pub enough : EnoughBits p
  pub size : length b.SV ≡ blocks 8 (p.counts.leaves * slot_width p.settings)
  pub struck_size : length sv ≡ blocks 8 (p.counts.leaves * slot_width (unhashed p.settings))
  pub struck_spare : no_spare (p.counts.leaves * slot_width (unhashed p.settings)) sv ≡ true

module _ (p : Parts) (b : Bodies) (sv : Bytes) (rest : List Bytes) (i : SlotsBodies p b sv) where
  -- What passes does so without hash bits.
  pub pass_struck : PartsPass p b rest → PartsPass (struck_parts p) (with_slots_body b sv) rest
  pass_struck a =
      let count = trie_count p a.trie in
      record {
        header = header_same p b sv rest (header_tests p (in_order b ++ rest) a.header).0 i.struck_size i.size ∙ a.header;
        spare = spare_struck p b sv i.struck_spare a.spare;
        trie = trie_same p i.enough count ∙ a.trie;
        tables = tables_same p i.enough count b sv rest ∙ a.tables;
        slots = (and_both (all (λ n. clear (exact_slot n)) (nodes_of p)) (slots_valid 0 0 (levels_of (nodes_of (struck_parts p)))) (sym (slots_same p i.enough count (trie_whole p a.trie)) ∙ a.slots)).1;
      }

  -- What passes without hash bits does so with them, where h is in range, no spare bit is set and the slots of exact leaves are zero.
  pub pass_back : p.settings.hash_width ≤ 16 → spare_clear p b ≡ true → all (λ n. clear (exact_slot n)) (nodes_of p) ≡ true → PartsPass (struck_parts p) (with_slots_body b sv) rest → PartsPass p b rest
  pass_back small spare exact a =
      let count = sym (leaves_same p) ∙ trie_count (struck_parts p) a.trie in
      let trie = sym (trie_same p i.enough count) ∙ a.trie in
      record {
        header = sym (header_same p b sv rest small i.struck_size i.size) ∙ a.header;
        spare = spare;
        trie = trie;
        tables = sym (tables_same p i.enough count b sv rest) ∙ a.tables;
        slots = slots_same p i.enough count (trie_whole p trie) ∙ ap₂ ◌&&◌ exact a.slots;
      }
