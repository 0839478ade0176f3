-- A key list in bytes, record by record: whole records, rising keys, and the key of a record with what it shares with the key behind.
use Rattle.std.specs.Prelude.{ℕ, ◌+◌, ◌*◌, ◌≤◌, ◌<◌, ◌≡◌, true, cond, List, [], ◌∷◌, length, get_or, ltb}
use Rattle.spec.specs.Bytes.{Bytes, shared}
use Rattle.spec.specs.Keys.{below, keys_of}
use Rattle.theory.specs.Terms.{Keys, Ascending}
use Rattle.bits.specs.Bits.{key}
use Rattle.build_laws.specs.declared.Key.{Key}

-- the length byte of the record at an offset
abbrev pub key_size : Bytes → ℕ → ℕ
key_size s at = get_or s (at + 2) 0

-- where that record ends
abbrev pub record_end : Bytes → ℕ → ℕ
record_end s at = at + 3 + key_size s at

-- whole records from an offset on, with just these keys
abbrev pub Records : Bytes → ℕ → List Bytes → Type 0
Records s at [] = length s ≤ at
Records s at (k ∷ ks) =
    (record_end s at ≤ length s) × (0 < key_size s at) × (key_size s at ≤ 64)
    × (k ≡ key s (at + 3) (key_size s at)) × Records s (record_end s at) ks

-- each key above the one before it, the first above `last`
abbrev pub Rising : Bytes → List Bytes → Type 0
Rising last [] = Unit
Rising last (k ∷ ks) = (below last k ≡ true) × Rising k ks

-- what the builder's passes need of a list that is accepted with the keys ks
pub record Listed (s : Bytes) (ks : List Bytes) : Type 0 where
  pub records : Records s 0 ks  -- whole records with these keys
  pub rising : Rising [] ks  -- each key above the one before it
  pub few : length ks ≤ 65535  -- no more keys than a list may have
  pub short : length s ≤ 67 * length ks  -- no record is longer than 67 bytes

-- an accepted key list: whole records of ascending keys
pub record AcceptedList (s : Bytes) : Type 0 where
  pub records : Records s 0 (keys_of s)  -- whole records with the list's keys
  pub each : Keys (keys_of s)  -- keys of 1 to 64 bytes
  pub up : Ascending (keys_of s)  -- each above the one before it

-- ---- the key of a record

-- the record at an offset is whole, and so is the one behind it, if there is one
pub record WholeRecords (s : Bytes) (at : ℕ) : Type 0 where
  pub here : record_end s at ≤ length s
  pub next : record_end s at < length s → record_end s (record_end s at) ≤ length s

-- what the key of n bytes from a shares with the key of the record behind it, if there is one
unfoldable pub shared_behind : Bytes → ℕ → ℕ → ℕ
unfolding shared
shared_behind s a n = cond (ltb (a + n) (length s)) (shared (key s a n) (key s (a + n + 3) (key_size s (a + n)))) 0

-- the key of the record at an offset, which starts nodes from the level `first` on
abbrev pub key_at : Bytes → ℕ → ℕ → Key
key_at s at first = record { at = at + 3; len = key_size s at; first = first; next = shared_behind s (at + 3) (key_size s at) }
