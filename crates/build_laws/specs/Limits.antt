-- The numbers that bound a level's counters and cursors.
use Rattle.std.specs.Prelude.{ℕ}

-- a counter for each of the 64 levels, and one for the end
abbrev pub counters : ℕ
counters = 65

-- no counter, cursor or sum of counters is larger: 65 times at most two entries for each of 65,535 keys
abbrev pub counter_max : ℕ
counter_max = 8600000
