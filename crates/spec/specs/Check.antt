-- Document 01, "Turning a file down", as orders 4 and 8 change it: the public call check. The first of 11 to 16 that applies, each judged over the whole image before the next.
use Rattle.std.specs.Prelude.{ℕ, zero, suc, ◌-◌, ◌*◌, Bool, true, false, cond, ◌&&◌, List, [], ◌∷◌, map, length, get_or, take, drop, leb, eqb}
use Rattle.std.proofs.Math.Option.{Option, none, some}
use Rattle.spec.specs.Bytes.{Bytes, Bits, all, every, equal, from32, clear, unpack}
use Rattle.spec.specs.Image.{known_version, slot_width, version_rows, sizes, Bodies, ranks, samples, level_starts}
use Rattle.spec.specs.Frame.{has_header, rows_of, read_bodies, named, read_settings, read_counts, Parts, parts}
use Rattle.spec.specs.Nodes.{Node, slot, branches_of, exact_slot, levels_of, nodes_of}
use Rattle.spec.specs.Trie.{builders_trie}

-- ---- 12

-- bodies of just these lengths
unfoldable pub sized : List ℕ → List Bytes → Bool
sized [] [] = true
sized [] (b ∷ bs) = false
sized (n ∷ ns) [] = false
sized (n ∷ ns) (b ∷ bs) = eqb (length b) n && sized ns bs

-- 12 does not apply: version 1 or 2, settings in range (order 4: "Number 5 and number 12 cover h"), at most 65,535 leaves, the lengths of the twelve bodies as the counts give
unfoldable pub header_valid : Parts → List Bytes → Bool
unfolding every known_version sizes sized
header_valid p bs = every (
    known_version p.settings.version
    ∷ leb p.settings.dense_levels 4
    ∷ leb p.settings.real_width 16
    ∷ leb p.settings.hash_width 16
    ∷ leb p.counts.leaves 65535
    ∷ sized (sizes p.settings p.counts) (take 12 bs)
    ∷ [])

-- ---- 13

-- no bit is set behind a body's first n
unfoldable pub no_spare : ℕ → Bytes → Bool
unfolding clear unpack
no_spare n body = clear (drop n (unpack body))

-- 13 does not apply: no spare bit is set in DP, SC, SB or SV; the other bodies end with their last byte
unfoldable pub spare_clear : Parts → Bodies → Bool
unfolding every no_spare
spare_clear p b = every (
    no_spare p.counts.dense_nodes b.DP
    ∷ no_spare p.counts.sparse_entries b.SC
    ∷ no_spare p.counts.sparse_entries b.SB
    ∷ no_spare (p.counts.leaves * slot_width p.settings) b.SV
    ∷ [])

-- ---- 15

-- 15 does not apply to the twelve bodies: RL, RC, RP and RS are the ranks of DL, DC, DP and SC, and TS the samples of SB
unfoldable pub ranks_valid : Parts → Bodies → Bool
unfolding every equal ranks samples
ranks_valid p b = every (
    equal b.RL (ranks 64 p.dl)
    ∷ equal b.RC (ranks 64 p.dc)
    ∷ equal b.RP (ranks 64 p.dp)
    ∷ equal b.RS (ranks 512 p.sc)
    ∷ equal b.TS (samples p.sb)
    ∷ [])

-- Nor to LV, in the version that has it: it holds the first nodes of the levels, and nothing else.
unfoldable pub starts_valid : Parts → List Bytes → Bool
unfolding equal level_starts levels_of nodes_of
starts_valid p bs = cond (eqb p.settings.version 2) (equal (get_or bs 12 []) (level_starts (map length (levels_of (nodes_of p))))) true

-- 15 does not apply
unfoldable pub tables_valid : Parts → List Bytes → Bool
unfolding ranks_valid starts_valid named
tables_valid p bs = ranks_valid p (named bs) && starts_valid p bs

-- ---- 16

-- no bit is set behind the first m bytes
unfoldable pub clear_behind : ℕ → Bits → Bool
unfolding clear
clear_behind zero s = clear s
clear_behind (suc m) s = clear_behind m (drop 8 s)

-- A node on level d has a key of d bytes, and its branches lead to keys of d + 1:
-- an exact leaf's slot is zero, and no real bit, which stands behind h hash bits, is set past a key's 64th byte.
unfoldable pub slot_valid : ℕ → ℕ → Node → Bool
unfolding clear_behind all
slot_valid h d n = clear_behind 0 (exact_slot n) && all (λ e. clear_behind (63 - d) (drop h (slot e))) (branches_of n)

-- 16 does not apply to the levels from level d on
unfoldable pub slots_valid : ℕ → ℕ → List (List Node) → Bool
unfolding slot_valid all
slots_valid h d [] = true
slots_valid h d (ns ∷ ls) = all (slot_valid h d) ns && slots_valid h (suc d) ls

-- ---- the check

-- the first of 12 to 16 that applies to a header and bodies, or 0
unfoldable pub judge_bodies : Bytes → List Bytes → ℕ
unfolding from32 unpack read_settings read_counts named parts header_valid spare_clear builders_trie tables_valid slots_valid levels_of nodes_of
judge_bodies s bs =
    let b : Bodies = named bs in
    let p : Parts = parts s b in
    elim (header_valid p bs) [
      | false ↦ 12
      | true ↦
          elim (spare_clear p b) [
            | false ↦ 13
            | true ↦
                elim (builders_trie p) [
                  | false ↦ 14
                  | true ↦
                      elim (tables_valid p bs) [
                        | false ↦ 15
                        | true ↦
                            elim (slots_valid p.settings.hash_width 0 (levels_of (nodes_of p))) [ false ↦ 16 | true ↦ 0 ]
                      ]
                ]
          ]
    ]

-- the first of 11 to 16 that applies, or 0
unfoldable pub verdict : Bytes → ℕ
unfolding version_rows read_bodies judge_bodies has_header
verdict s =
    let f : Option (List Bytes) = read_bodies (rows_of s) (drop 22 s) in
    elim (has_header s) [ false ↦ 11 | true ↦ elim f [ none ↦ 11 | some bs ↦ judge_bodies s bs ] ]

-- what check answers: accepted, or a refusal's number
pub data Checked : Type 0 where
  accepted : Checked
  refused : ℕ → Checked

-- the answer of a verdict
unfoldable pub checked : ℕ → Checked
checked zero = accepted
checked (suc r) = refused (suc r)

-- An image is accepted, or it is refused with the first of 11 to 16 that applies.
unfoldable pub check : Bytes → Checked
unfolding checked verdict
check b = checked (verdict b)
