-- The counting pass: what a key adds to the counters of each level, and room in them for it.
use Rattle.std.specs.Prelude.{ℕ, ◌+◌, ◌≡◌, Bool, true, List, get_or, set, replicate, leb}
use Rattle.std.proofs.Common.{ap, ap₂, ◌∙◌}
use Rattle.spec.specs.Bytes.{Bytes, bit}
use Rattle.build_laws.specs.LevelEntries.{pred}
use Rattle.build_laws.specs.Emissions.{Emission, key_emissions}
use Rattle.build_laws.specs.BitPass.{Room}
use Rattle.build_laws.specs.BytePass.{one_step}
use Rattle.build_laws.specs.Cursors.{counts}
use Rattle.build_laws.specs.PassEmissions.{leaf_level}
use Rattle.build_laws.specs.Counters.{entry_counts, node_counts, leaf_counts}
use Rattle.build_laws.specs.declared.Key.{Key}
use Rattle.build_keys.specs.CounterRoom.{no_ones}
use Rattle.build_keys.specs.declared.LevelCounts.{LevelCounts}
use Rattle.build_laws.specs.Limits.{counters, counter_max}

-- for each entry of a key of n bytes, whether it starts a node
abbrev pub key_starts : ℕ → ℕ → ℕ → List (Emission Bool)
key_starts p q n = key_emissions 0 64 (λ d. leb p d) true (pred p) q n

-- the same of a key of the list
abbrev pub starts_of : Key → List (Emission Bool)
starts_of k = key_starts k.first k.next k.len

-- the level of its leaf
abbrev pub leaf_level_of : Key → ℕ
leaf_level_of k = leaf_level (pred k.first) k.next k.len

-- the counters with one more on level d
abbrev pub raised : List ℕ → ℕ → List ℕ
raised c d = set c d (get_or c d 0 + 1)

-- the counters have room for these emissions
abbrev pub CounterRoom : {A : Type 0} → (A → ℕ) → List (Emission A) → List ℕ → Type 0
CounterRoom inc es c = Room inc no_ones 0 counter_max es c

-- ---- the three counters of each level

-- entries, nodes and leaves, as such counters
abbrev pub level_counts : List ℕ → List ℕ → List ℕ → LevelCounts
level_counts e n l = record { entries = e; nodes = n; leaves = l }

-- nothing counted yet
abbrev pub no_counts : LevelCounts
no_counts = level_counts (replicate counters 0) (replicate counters 0) (replicate counters 0)

-- those of a key list
abbrev pub list_counts : List Bytes → LevelCounts
list_counts ks = level_counts (entry_counts ks) (node_counts ks) (leaf_counts ks)

-- what a key adds to them
abbrev pub count_key : Key → LevelCounts → LevelCounts
count_key k c = level_counts (counts one_step (starts_of k) c.entries) (counts bit (starts_of k) c.nodes) (raised c.leaves (leaf_level_of k))

-- counters that are equal one by one
pub counts_same : {e e' n n' l l' : List ℕ} → e ≡ e' → n ≡ n' → l ≡ l' → level_counts e n l ≡ level_counts e' n' l'
counts_same {e} {e'} {n} {n'} {l} p q r = ap₂ (λ (x y : List ℕ). level_counts x y l) p q ∙ ap (level_counts e' n') r
