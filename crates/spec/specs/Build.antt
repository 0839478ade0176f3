-- Document 01, "Turning a file down", as orders 4, 5, 8 and 9 change it: building in two public calls. The first takes a key list and settings and gives the image's length;
-- the second takes that length and an output too, and gives the answer and the output's final bytes.
use Rattle.std.specs.Prelude.{ℕ, ◌+◌, ◌*◌, ◌/◌, ◌%◌, Bool, true, false, ◌&&◌, List, map, length, leb, eqb}
use Rattle.spec.specs.Bytes.{Bytes, concat}
use Rattle.spec.specs.Keys.{keys, parse_keys}
use Rattle.spec.specs.Leaves.{Leaf, leaves}
use Rattle.spec.specs.Image.{Settings, known_version, nodes, sparse_labels, image}
use Rattle.spec.specs.Answer.{Outcome, refusal_weight, refuse, write}
use Rattle.spec.specs.Keys as Keys

-- version 1 or 2, dense levels 0 to 4, real bits and hash bits 0 to 16
unfoldable pub in_range : Settings → Bool
unfolding known_version
in_range st = known_version st.version && leb st.dense_levels 4 && leb st.real_width 16 && leb st.hash_width 16

-- Settings as one number, for programs in other languages: bytes 2 to 5 of a header as a number, the low byte first. What is more than a byte counts to h, so that every number has a meaning.
unfoldable pub settings_from : ℕ → Settings
settings_from x = record { version = x % 256; dense_levels = x / 256 % 256; real_width = x / 65536 % 256; hash_width = x / 16777216 }

-- the trie's entries: branches and exact leaves together
unfoldable pub trie_entries : List Leaf → ℕ
unfolding concat sparse_labels nodes
trie_entries ls = length (concat (map (sparse_labels ls) (nodes ls 0 64)))

-- What is said of a key list and settings: a number with which they are turned down, or the image that is to be built.
pub data Judged : Type 0 where
  turned_down : ℕ → Judged
  to_build : Bytes → Judged

-- 5, a setting out of range; then the records' 4, 1, 2, 1, 3
unfoldable pub judge : Bytes → Settings → Judged
unfolding in_range parse_keys leaves image
judge list st =
    elim (in_range st) [
      | false ↦ turned_down 5
      | true ↦
          elim (parse_keys list) [ Keys.refused r ↦ turned_down r | keys ks ↦ to_build (image st (leaves st.hash_width st.real_width ks)) ]
    ]

-- ---- order 5, the first call

-- the image has so many bytes, or a refusal's number
pub data Length : Type 0 where
  bytes : ℕ → Length
  refused : ℕ → Length

-- the number of a refusal; 0, which is no refusal's, for a length
abbrev pub length_number : Length → ℕ
length_number (bytes n) = 0
length_number (refused r) = r

-- the bytes of the image; 0 for a refusal
abbrev pub length_bytes : Length → ℕ
length_bytes (bytes n) = n
length_bytes (refused r) = 0

-- A length as one number, for programs in other languages: the number of a refusal, 0 for a length, times 2^32, plus the bytes.
abbrev pub length_code : Length → ℕ
length_code l = length_number l * refusal_weight + length_bytes l

-- "The first judges list and settings as now, without number 7, and returns the exact image length, writing nothing."
unfoldable pub image_length : Bytes → Settings → Length
unfolding judge
image_length list st = elim (judge list st) [ turned_down r ↦ refused r | to_build b ↦ bytes (length b) ]

-- ---- order 5, the second call

-- of the image that is to be built: "8, the stated length is not the image's, just before 7", the image is longer than the output
unfoldable pub write_stated : ℕ → Bytes → Bytes → Outcome
unfolding refuse write
write_stated stated b out = elim (eqb stated (length b)) [ false ↦ refuse 8 out | true ↦ write 7 b out ]

-- "The second takes that length too, judges everything again and writes."
unfoldable pub build : Bytes → Settings → ℕ → Bytes → Outcome
unfolding judge refuse write_stated
build list st stated out = elim (judge list st) [ turned_down r ↦ refuse r out | to_build b ↦ write_stated stated b out ]
