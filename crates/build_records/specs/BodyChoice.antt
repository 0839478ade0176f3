-- The bodies that a pass fills: which of document 01's bodies each is, over which levels its pass goes, and which counters give the offsets of its levels.
use Rattle.std.specs.Prelude.{ℕ, List}
use Rattle.spec.specs.Bytes.{Bytes}
use Rattle.spec.specs.Image.{Bodies}
use Rattle.build_laws.specs.Counters.{entry_counts, node_counts, leaf_counts}
use Rattle.build_laws.specs.declared.Kind.TheVariants.{DL, DC, DP, SL, SC, SB}
use Rattle.build_laws.specs.declared.Body.{Body}
use Rattle.build_laws.specs.declared.Body.TheVariants.{Entries, Slots}
use Rattle.build_laws.specs.declared.LevelRange.{LevelRange}

-- the body of document 01
abbrev pub body_of : Body → Bodies → Bytes
body_of (Entries DL) b = b.DL
body_of (Entries DC) b = b.DC
body_of (Entries DP) b = b.DP
body_of (Entries SL) b = b.SL
body_of (Entries SC) b = b.SC
body_of (Entries SB) b = b.SB
body_of Slots b = b.SV

-- the counters of what moves the cursors: nodes on dense levels, entries on sparse ones, or leaves
abbrev pub counters_of : Body → List Bytes → List ℕ
counters_of (Entries DL) ks = node_counts ks
counters_of (Entries DC) ks = node_counts ks
counters_of (Entries DP) ks = node_counts ks
counters_of (Entries SL) ks = entry_counts ks
counters_of (Entries SC) ks = entry_counts ks
counters_of (Entries SB) ks = entry_counts ks
counters_of Slots ks = leaf_counts ks

-- the levels: the dense ones, the sparse ones, or all
abbrev pub level_range : Body → ℕ → LevelRange
level_range (Entries DL) dense = record { lo = 0; hi = dense }
level_range (Entries DC) dense = record { lo = 0; hi = dense }
level_range (Entries DP) dense = record { lo = 0; hi = dense }
level_range (Entries SL) dense = record { lo = dense; hi = 64 }
level_range (Entries SC) dense = record { lo = dense; hi = 64 }
level_range (Entries SB) dense = record { lo = dense; hi = 64 }
level_range Slots dense = record { lo = 0; hi = 64 }
