-- A header by value: the settings and counts of document 01 that it stands for, and a mark and settings as bytes.
use Rattle.std.specs.Prelude.{ℕ, ◌+◌, ◌*◌, ◌≤◌, ◌<◌, ◌≡◌, [], ◌∷◌, get_or}
use Rattle.std.proofs.Common.{arith, mul-le-mul_left}
use Rattle.spec.specs.Bytes.{Bytes, letter}
use Rattle.spec.specs.Image.{Settings, Counts}
use Rattle.spec.specs.Frame.{read_settings, read_counts}
use Rattle.image.specs.declared.Header.{Header}
use Rattle.image.specs.declared.Settings.{Settings as Asked}

-- version, dense levels, real bits and hash bits, as settings
abbrev pub settings : ℕ → ℕ → ℕ → ℕ → Settings
settings version dense n h = record { version = version; dense_levels = dense; real_width = n; hash_width = h }

-- the settings that are asked for
abbrev pub asked : Asked → Settings
asked s = settings s.version s.dense_levels s.real_width s.hash_width

-- the settings that a header says
abbrev pub settings_of : Header → Settings
settings_of h = settings h.version h.dense.levels h.real_width h.hash_width

-- the counts that a header says
abbrev pub counts_of : Header → Counts
counts_of h = record { leaves = h.leaves; dense_nodes = h.dense.nodes; sparse_entries = h.sparse.entries; sparse_nodes = h.sparse.nodes }

-- the fields of a header fit the bytes that hold them: one byte for each setting, four for each count
pub record ShortFields (h : Header) : Type 0 where
  pub version : h.version < 256
  pub dense_range : h.dense.levels < 256
  pub real_range : h.real_width < 256
  pub hash_range : h.hash_width < 256
  pub leaves : h.leaves < 4294967296
  pub dense_nodes : h.dense.nodes < 4294967296
  pub sparse_entries : h.sparse.entries < 4294967296
  pub sparse_nodes : h.sparse.nodes < 4294967296

-- the bits of all slots
pub slots_short : (h : Header) → ShortFields h → h.leaves * (h.hash_width + h.real_width) < 2199023255552
slots_short h f = let w : h.hash_width + h.real_width ≤ 512 = omega (arith, f.real_range, f.hash_range) in omega (arith, f.leaves, mul-le-mul_left h.leaves w)

-- a header by value is what document 01 reads from the bytes
pub record ReadsHeader (s : Bytes) (h : Header) : Type 0 where
  pub settings : settings_of h ≡ read_settings s
  pub counts : counts_of h ≡ read_counts s
  pub short : ShortFields h

-- the two bytes of a mark
abbrev pub mark_bytes : Bytes → Bytes
mark_bytes m = get_or m 0 0 ∷ get_or m 1 0 ∷ []

-- the header's bytes before its counts
abbrev pub first_bytes : ℕ → ℕ → ℕ → ℕ → Bytes
first_bytes version dense n h = letter "H" ∷ letter "D" ∷ version ∷ dense ∷ n ∷ h ∷ []
