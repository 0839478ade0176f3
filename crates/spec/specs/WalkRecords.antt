-- The walk of document 01 for programs in other languages: the leaves from a place on, as records of bytes that are written into a buffer.
use Rattle.std.specs.Prelude.{ℕ, ◌/◌, Bool, true, false, List, [], ◌∷◌, ◌++◌, map, length, take, drop, replicate}
use Rattle.spec.specs.Bytes.{Bytes, concat, le32, low_first}
use Rattle.spec.specs.Leaves.{Leaf}
use Rattle.spec.specs.Nodes.{read_leaves}
use Rattle.spec.specs.Answer.{Outcome, refuse, success}
use Rattle.spec.specs.Walk.{Stand, refused, leaf, done, open_walk}

-- ---- a leaf as a record

-- the bytes of a record: its kind and its key's length, 64 bytes for the cut key, four for the suffix
abbrev pub record_size : ℕ
record_size = 70

-- the byte of a leaf's kind: 1 exact, 2 open
abbrev pub kind_byte : Bool → ℕ
kind_byte true = 1
kind_byte false = 2

-- a cut key in 64 bytes, with zeros behind it
abbrev pub cut_field : Bytes → Bytes
cut_field k = take 64 (k ++ replicate 64 0)

-- The kind, the cut key's length, the cut key with zeros behind it, and the suffix, of up to 32 bits, as a number whose lowest bit is the first.
unfoldable pub leaf_record : Leaf → Bytes
unfolding le32 low_first
leaf_record l = kind_byte l.exact ∷ length l.cut ∷ (cut_field l.cut ++ le32 (low_first l.suffix))

-- the records of leaves, one behind the other
unfoldable pub leaf_records : List Leaf → Bytes
unfolding concat leaf_record
leaf_records ls = concat (map leaf_record ls)

-- the records of the leaves from a place on, n of them or all that there are
abbrev pub records_from : List Leaf → ℕ → ℕ → Bytes
records_from ls place n = leaf_records (take n (drop place ls))

-- ---- the public call

-- What a walk over these leaves writes, by what it says at its place: after a refusal no byte has changed;
-- at a leaf it writes the records of as many leaves as the buffer holds whole; done, behind the last leaf, writes none.
unfoldable pub written_by : List Leaf → ℕ → Bytes → Stand → Outcome
unfolding leaf_records refuse success
written_by ls place out (refused r) = refuse r out
written_by ls place out (leaf l) = success (records_from ls place (length out / record_size)) out
written_by ls place out done = success [] out

-- A walk that is opened at a place of an image writes its records into a buffer.
unfoldable pub walk_records : Bytes → ℕ → Bytes → Outcome
unfolding read_leaves open_walk written_by
walk_records b place out = written_by (read_leaves b) place out (open_walk b place)
