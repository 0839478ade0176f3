-- The buyer's demands 1, 2 and 3, on bytes, in the words of the sheet and of document 01 ("Words of demand 3"); and what holds of the calls over an accepted image, which the sheet does not name.
-- A reader needs this file, Terms and crate `spec`. DemandsMet proves them; the contracts of the public calls equate each call with its definition here.
use Rattle.std.specs.Prelude.{ℕ, ◌+◌, ◌/◌, ◌<◌, ◌≤◌, ◌≡◌, true, false, List, [], ◌∷◌, ◌++◌, ◌↔◌, ◌⊎◌, length, get_or, take, drop}
use Rattle.std.proofs.Math.Option.{none, some}
use Rattle.spec.specs.Bytes.{Bytes, all, count, begins, clear, letter}
use Rattle.spec.specs.Keys.{below, within, write_keys, keys, parse_keys, keys_of}
use Rattle.spec.specs.Leaves.{Leaf, leaves, reals}
use Rattle.spec.specs.Image.{Settings, image}
use Rattle.spec.specs.Frame.{has_header, rows_of, read_bodies, named, parts, read_settings}
use Rattle.spec.specs.Nodes.{exact_slot, nodes_of, levels_of, read_nodes, read_leaves}
use Rattle.spec.specs.Trie.{builders_trie}
use Rattle.spec.specs.Rules.{Rule, rule_number, applies, rule_says}
use Rattle.spec.specs.Questions.{Question, QP, QS, QB, QR, QC, Reply, reply, reply_bytes, replies, reply_at, questions_of, question_at}
use Rattle.spec.specs.Answer.{written, refused, refusal_weight, Outcome, success}
use Rattle.spec.specs.Build.{in_range, trie_entries, image_length, build}
use Rattle.spec.specs.Check.{header_valid, spare_clear, tables_valid, slots_valid, accepted, check}
use Rattle.spec.specs.Struck.{struck}
use Rattle.spec.specs.Ask.{ask}
use Rattle.spec.specs.Walk.{open_walk, next}
use Rattle.spec.specs.WalkRecords.{record_size, records_from, walk_records}
use Rattle.spec.specs.OneQuestion.{Answered, replied, ask_one, reply_number, reply_rule, key_written}
use Rattle.spec.specs.Print.{longest_input, listing, print}
use Rattle.theory.specs.Terms.{All, In, IsBytes, Ascending, KeyList, most_entries, key_bytes, file_bytes, alone, QuestionFile, found_size, Taken, reply_alone, WalkCorrect, From, JudgedAlike}
use Rattle.spec.specs.Build as Build
use Rattle.spec.specs.Check as Check
use Rattle.spec.specs.OneQuestion as OneQuestion
use Rattle.spec.specs.Walk as Walk

-- ---- the words

-- "A key list builds an image if building from it, with settings in range and an output that holds the image, writes just those bytes." By order 5 building takes the image's length too.
pub record BuildsWith (st : Settings) (list b : Bytes) : Type 0 where
  pub bytes : IsBytes list
  pub range : in_range st ≡ true
  pub output : Bytes
  pub room : length b ≤ length output
  pub writes : build list st (length b) output ≡ success b output

-- with some settings. Order 8: "Every image statement is then made within a version": the settings have the version that the image says.
abbrev pub Builds : Bytes → Bytes → Type 0
Builds list b = (st : Settings) × BuildsWith st list b × (st.version ≡ (read_settings b).version)

-- "A byte string is accepted if the check gives it none of 11 to 16."
abbrev pub Accepted : Bytes → Type 0
Accepted b = check b ≡ accepted

-- "A list holds its keys,"
abbrev pub Holds : Bytes → Bytes → Type 0
Holds list k = In k (keys_of list)

-- "and has in a range those from bound to bound, both included.": how many it has
abbrev pub number_in : Bytes → Bytes → Bytes → ℕ
number_in list lo hi = count (within lo hi) (keys_of list)

-- the list has a key in the range
abbrev pub HasInRange : Bytes → Bytes → Bytes → Type 0
HasInRange list lo hi = (k : Bytes) × Holds list k × (within lo hi k ≡ true)

-- the list has a key that begins with the stem
abbrev pub HasWithStem : Bytes → Bytes → Type 0
HasWithStem list stem = (k : Bytes) × Holds list k × (begins stem k ≡ true)

-- none of the lists that build the image holds the key
abbrev pub NoListHolds : Bytes → Bytes → Type 0
NoListHolds b k = (list : Bytes) → Builds list b → Holds list k → ⊥

-- none of them has a key in the range
abbrev pub NoListHas : Bytes → Bytes → Bytes → Type 0
NoListHas b lo hi = (list : Bytes) → Builds list b → (k : Bytes) → Holds list k → within lo hi k ≡ false

-- none of them has a key that begins with the stem
abbrev pub NoListBegins : Bytes → Bytes → Type 0
NoListBegins b stem = (list : Bytes) → Builds list b → (k : Bytes) → Holds list k → begins stem k ≡ false

-- none of them holds a key at or after the start
abbrev pub NoListFrom : Bytes → Bytes → Type 0
NoListFrom b start = (list : Bytes) → Builds list b → (k : Bytes) → Holds list k → below k start ≡ true

-- the number of keys that some list that builds the image has in the range; no such list has more, or over two fewer
pub record Count (b lo hi : Bytes) (c : ℕ) : Type 0 where
  pub reached : (list : Bytes) × Builds list b × (number_in list lo hi ≡ c)
  pub most : (list : Bytes) → Builds list b → number_in list lo hi ≤ c
  pub near : (list : Bytes) → Builds list b → c ≤ number_in list lo hi + 2

-- the smallest key at or after the start that any list that builds the image holds, with its place, from 0, in every such list that holds it
pub record NextKey (b start : Bytes) (place : ℕ) (key : Bytes) : Type 0 where
  pub after : below key start ≡ false
  pub held : (list : Bytes) × Builds list b × Holds list key
  pub smallest : (list : Bytes) → Builds list b → (k : Bytes) → Holds list k → below k start ≡ false → below k key ≡ false
  pub placed : (list : Bytes) → Builds list b → Holds list key → (place < length (keys_of list)) × (get_or (keys_of list) place [] ≡ key)

-- "none is FFFFFFFF with length 0"
abbrev pub None : Reply → Type 0
None r = (r.number ≡ 0xFFFFFFFF) × (r.key ≡ [])

-- "Prefixes are the cut keys, kinds are exact and open; lists agree in these and the suffix bits if they have as many leaves and the three are equal leaf by leaf in key order."
abbrev pub Agree : List Leaf → List Leaf → Type 0
Agree [] [] = Unit
Agree [] (m ∷ ms) = ⊥
Agree (l ∷ ls) [] = ⊥
Agree (l ∷ ls) (m ∷ ms) = ((l.cut ≡ m.cut) × (l.exact ≡ m.exact) × (l.suffix ≡ m.suffix)) × Agree ls ms

-- ---- demand 1

-- The records of the keys ks stand at the front of a key list and are taken: each has the mark "KY", a length from 1 to 64 and a key, keys strictly ascending, at most 65,535 of them. The bytes `rest` stand behind them.
-- Where `rest` is empty, the whole list is taken; of bytes that is `KeyList`.
pub record RecordsTaken (list : Bytes) (ks : List Bytes) (rest : Bytes) : Type 0 where
  pub bytes : list ≡ write_keys ks ++ rest
  pub each : All (λ k. From 1 64 (length k)) ks
  pub up : Ascending ks
  pub few : length ks ≤ 65535

-- The bytes behind them are judged as the next record, and 4 does not apply to it.
pub record Passes4 (list : Bytes) (ks : List Bytes) (rest : Bytes) : Type 0 where
  pub before : RecordsTaken list ks rest
  pub room : length ks < 65535

-- Nor does 1 or 2 apply to its first three bytes, the mark and a length n.
pub record Passes2 (list : Bytes) (ks : List Bytes) (n : ℕ) (rest : Bytes) : Type 0 where
  pub before : Passes4 list ks (letter "K" ∷ letter "Y" ∷ n ∷ rest)
  pub size : From 1 64 n

-- The number that turns a key list down, "record by record": the records of ks are taken, and the next one is not.
pub data ListRefusal (list : Bytes) : ℕ → Type 0 where
  -- "4, a record follows 65,535 others;
  record_too_many : (ks : List Bytes) (b : ℕ) (rest : Bytes) → RecordsTaken list ks (b ∷ rest) → length ks ≡ 65535 → ListRefusal list 4
  -- 1, fewer than three bytes
  record_short : (ks : List Bytes) (rest : Bytes) → Passes4 list ks rest → From 1 2 (length rest) → ListRefusal list 1
  -- or a wrong mark;
  record_unmarked : (ks : List Bytes) (a b n : ℕ) (rest : Bytes) → Passes4 list ks (a ∷ b ∷ n ∷ rest) → (a ≡ letter "K" → b ≡ letter "Y" → ⊥) → ListRefusal list 1
  -- 2, length 0 or over 64;
  record_length : (ks : List Bytes) (n : ℕ) (rest : Bytes) → Passes4 list ks (letter "K" ∷ letter "Y" ∷ n ∷ rest) → (n ≡ 0) ⊎ (64 < n) → ListRefusal list 2
  -- 1, key bytes missing;
  record_cut_off : (ks : List Bytes) (n : ℕ) (rest : Bytes) → Passes2 list ks n rest → length rest < n → ListRefusal list 1
  -- 3, key not above the last."
  record_not_above : (ks : List Bytes) (last key rest : Bytes) → Passes2 list (ks ++ (last ∷ [])) (length key) (key ++ rest) → below last key ≡ false → ListRefusal list 3

-- The number that the order of checks names for the first call of build: 5, a setting out of range; then the records' 1 to 4.
pub data LengthRefusal (list : Bytes) (st : Settings) : ℕ → Type 0 where
  setting_refused : in_range st ≡ false → LengthRefusal list st 5
  record_refused : {r : ℕ} → in_range st ≡ true → ListRefusal list r → LengthRefusal list st r

-- for the second: those; then 8, the stated length is not the image's; then 7, the image is longer than the output
pub data BuildRefusal (list : Bytes) (st : Settings) (stated : ℕ) (out : Bytes) : ℕ → Type 0 where
  judged_again : {r : ℕ} → LengthRefusal list st r → BuildRefusal list st stated out r
  length_wrong : in_range st ≡ true → (ks : List Bytes) → RecordsTaken list ks [] → (stated ≡ length (image st (leaves st.hash_width st.real_width ks)) → ⊥) → BuildRefusal list st stated out 8
  image_too_long : in_range st ≡ true → (ks : List Bytes) → RecordsTaken list ks [] → stated ≡ length (image st (leaves st.hash_width st.real_width ks))
      → length out < length (image st (leaves st.hash_width st.real_width ks)) → BuildRefusal list st stated out 7

-- The stages of the check: the bodies of the image's records are bs, and none of the numbers from 11 up to the stage's own applies. What a number asks is its test in crate `spec`.
module _ (b : Bytes) (bs : List Bytes) where
  pub record Passes11 : Type 0 where
    pub header : has_header b ≡ true
    pub bodies : read_bodies (rows_of b) (drop 22 b) ≡ some bs

  pub record Passes12 : Type 0 where
    pub before : Passes11
    pub header : header_valid (parts b (named bs)) bs ≡ true

  pub record Passes13 : Type 0 where
    pub before : Passes12
    pub spare : spare_clear (parts b (named bs)) (named bs) ≡ true

  pub record Passes14 : Type 0 where
    pub before : Passes13
    pub trie : builders_trie (parts b (named bs)) ≡ true

  pub record Passes15 : Type 0 where
    pub before : Passes14
    pub tables : tables_valid (parts b (named bs)) bs ≡ true

  pub record Passes16 : Type 0 where
    pub before : Passes15
    pub slots : slots_valid (read_settings b).hash_width 0 (levels_of (nodes_of (parts b (named bs)))) ≡ true

-- for check, each number over the whole image before the next
pub data CheckRefusal (b : Bytes) : ℕ → Type 0 where
  -- "11, header short or unmarked,
  header_missing : has_header b ≡ false → CheckRefusal b 11
  -- a mark wrong, a record running past the end, or bytes left over." Order 8: the records are those of the version byte.
  records_missing : read_bodies (rows_of b) (drop 22 b) ≡ none → CheckRefusal b 11
  -- "12, version, settings or zero byte wrong, over 65,535 leaves, or a body length not as the counts give. (Order 4: the zero byte is a setting, h.)
  header_wrong : (bs : List Bytes) → Passes11 b bs → header_valid (parts b (named bs)) bs ≡ false → CheckRefusal b 12
  -- 13, a spare bit set, that is, one behind a body's last bit in its last byte.
  spare_set : (bs : List Bytes) → Passes12 b bs → spare_clear (parts b (named bs)) (named bs) ≡ false → CheckRefusal b 13
  -- 14, not a builder's trie.
  no_trie : (bs : List Bytes) → Passes13 b bs → builders_trie (parts b (named bs)) ≡ false → CheckRefusal b 14
  -- 15, a rank or sample wrong." Order 8: "A wrong LV, its length included, gets 15".
  table_wrong : (bs : List Bytes) → Passes14 b bs → tables_valid (parts b (named bs)) bs ≡ false → CheckRefusal b 15
  -- "16, an exact leaf's slot not zero, or a suffix bit set past a key's 64th byte." Order 4: of an open leaf's slot the real bits are meant.
  slot_set : (bs : List Bytes) → Passes15 b bs → slots_valid (read_settings b).hash_width 0 (levels_of (nodes_of (parts b (named bs)))) ≡ false → CheckRefusal b 16

-- a question's keys have at most 64 bytes, and its lower bound is not above the upper
abbrev pub QuestionFits : Question → Type 0
QuestionFits (QP k) = length k ≤ 64
QuestionFits (QS start) = length start ≤ 64
QuestionFits (QB stem) = length stem ≤ 64
QuestionFits (QR lo hi) = (length lo ≤ 64) × (length hi ≤ 64) × (below hi lo ≡ false)
QuestionFits (QC lo hi) = (length lo ≤ 64) × (length hi ≤ 64) × (below hi lo ≡ false)

-- The questions qs stand at the front of a question file and are taken, at most 1,024 of them. The bytes `rest` stand behind them. Where `rest` is empty, the whole file is taken; of bytes that is `QuestionFile`.
pub record QuestionsTaken (file : Bytes) (qs : List Question) (rest : Bytes) : Type 0 where
  pub bytes : file ≡ file_bytes qs ++ rest
  pub each : All QuestionFits qs
  pub few : length qs ≤ 1024

-- The bytes behind them are judged as the next question, and 24 does not apply to it.
pub record Passes24 (file : Bytes) (qs : List Question) (rest : Bytes) : Type 0 where
  pub before : QuestionsTaken file qs rest
  pub room : length qs < 1024

-- the second letters of the marks of questions with one key, and of those with two bounds
abbrev pub one_key_letters : List ℕ
one_key_letters = letter "P" ∷ letter "S" ∷ letter "B" ∷ []

abbrev pub two_key_letters : List ℕ
two_key_letters = letter "R" ∷ letter "C" ∷ []

-- The last bytes s of a question stand where a key or bound of it has to begin, and nothing before them is wrong: behind the mark, or behind a lower bound of at most 64 bytes.
pub data KeyDue : Bytes → Bytes → Type 0 where
  behind_mark : (x : ℕ) (s : Bytes) → In x (one_key_letters ++ two_key_letters) → KeyDue (letter "Q" ∷ x ∷ s) s
  behind_bound : (x : ℕ) (lo s : Bytes) → In x two_key_letters → length lo ≤ 64 → KeyDue (letter "Q" ∷ x ∷ key_bytes lo ++ s) s

-- The number that turns a question file down, "by question": the questions qs are taken, and the next one is not. "Length bytes are judged before their keys' bytes."
pub data QuestionRefusal (file : Bytes) : ℕ → Type 0 where
  -- "24, it follows 1,024 others;
  question_too_many : (qs : List Question) (b : ℕ) (rest : Bytes) → QuestionsTaken file qs (b ∷ rest) → length qs ≡ 1024 → QuestionRefusal file 24
  -- 21, mark wrong
  question_unmarked : (qs : List Question) (a x : ℕ) (rest : Bytes) → Passes24 file qs (a ∷ x ∷ rest) → (a ≡ letter "Q" → In x (one_key_letters ++ two_key_letters) → ⊥) → QuestionRefusal file 21
  -- or bytes missing: the mark's second, a length byte, or a key's;
  question_short : (qs : List Question) (b : ℕ) → Passes24 file qs (b ∷ []) → QuestionRefusal file 21
  no_length : (qs : List Question) (rest : Bytes) → Passes24 file qs rest → KeyDue rest [] → QuestionRefusal file 21
  key_cut_off : (qs : List Question) (rest : Bytes) (n : ℕ) (s : Bytes) → Passes24 file qs rest → KeyDue rest (n ∷ s) → n ≤ 64 → length s < n → QuestionRefusal file 21
  -- 22, a length over 64;
  length_over : (qs : List Question) (rest : Bytes) (n : ℕ) (s : Bytes) → Passes24 file qs rest → KeyDue rest (n ∷ s) → 64 < n → QuestionRefusal file 22
  -- 23, lower bound above upper."
  bounds_crossed : (qs : List Question) (x : ℕ) (lo hi rest : Bytes) → Passes24 file qs (letter "Q" ∷ x ∷ key_bytes lo ++ key_bytes hi ++ rest) → In x two_key_letters
      → length lo ≤ 64 → length hi ≤ 64 → below hi lo ≡ true → QuestionRefusal file 23

-- for ask: the check's 11 to 16; then the questions' 21 to 24; then 25, replies longer than the reply buffer
pub data AskRefusal (b file out : Bytes) : ℕ → Type 0 where
  image_refused : {r : ℕ} → check b ≡ Check.refused r → From 11 16 r → AskRefusal b file out r
  question_refused : {r : ℕ} → check b ≡ accepted → QuestionRefusal file r → AskRefusal b file out r
  replies_too_long : check b ≡ accepted → (qs : List Question) → QuestionsTaken file qs [] → length out < length (replies (read_settings b).hash_width (read_leaves b) qs) → AskRefusal b file out 25

-- for the walk: the check's 11 to 16; then 17, the place handed in is neither a leaf of this image nor done
pub data WalkRefusal (b : Bytes) (place : ℕ) : ℕ → Type 0 where
  refused_image : {r : ℕ} → check b ≡ Check.refused r → From 11 16 r → WalkRefusal b place r
  place_refused : check b ≡ accepted → length (read_leaves b) < place → WalkRefusal b place 17

-- what a call leaves of the buffer lent to it
pub record Kept (out : Bytes) (o : Outcome) : Type 0 where
  -- "after a refusal no lent byte has changed"
  pub refusal : (r : ℕ) → o.answer ≡ refused r → o.final ≡ out
  -- it "stays inside its buffers": the bytes written are within the buffer, which keeps its length and the bytes behind them
  pub success : (n : ℕ) → o.answer ≡ written n → (n ≤ length out) × (length o.final ≡ length out) × (drop n o.final ≡ drop n out)

-- That every call ends is in its contract: each call gives what its definition gives, for every input.
pub record Demand1 : Type 0 where
  -- "A key list, an image or a question file, of any bytes and any length, handed to a public call gets its work done or the one refusal number that the order of checks names."
  -- The first call of build, which gives a length: 1 to 5.
  pub length_refuses : (list : Bytes) (st : Settings) (r : ℕ) → (image_length list st ≡ Build.refused r) ↔ LengthRefusal list st r
  -- The second, which writes: those, 8 and 7.
  pub build_refuses : (list : Bytes) (st : Settings) (stated : ℕ) (out : Bytes) (r : ℕ) → ((build list st stated out).answer ≡ refused r) ↔ BuildRefusal list st stated out r
  -- Order 5: "Any list and settings accepted by the first are accepted by the second, if the length is the one given and the output holds it.": it writes just that many bytes.
  pub length_builds : (list : Bytes) (st : Settings) (n : ℕ) → image_length list st ≡ Build.bytes n → (out : Bytes) → n ≤ length out → (build list st n out).answer ≡ written n
  -- And back: where the second succeeds, the first gives the number of bytes that it writes, and that number is the stated length.
  pub built_length : (list : Bytes) (st : Settings) (stated : ℕ) (out : Bytes) (n : ℕ) → (build list st stated out).answer ≡ written n → (image_length list st ≡ Build.bytes n) × (stated ≡ n)
  -- Order 9: "65,535 keys of up to 64 bytes give at most 4,259,775 trie entries", branches and exact leaves together. It holds of every key list that build takes, at every width of hash bits and real bits.
  pub entries_bound : (list : Bytes) → IsBytes list → (ks : List Bytes) → parse_keys list ≡ keys ks → (h n : ℕ) → trie_entries (leaves h n ks) ≤ most_entries
  -- Check: 11 to 16.
  pub check_refuses : (b : Bytes) (r : ℕ) → (check b ≡ Check.refused r) ↔ CheckRefusal b r
  -- Ask: those and 21 to 25.
  pub ask_refuses : (b file out : Bytes) (r : ℕ) → ((ask b file out).answer ≡ refused r) ↔ AskRefusal b file out r
  -- Walk: the check's and 17, where it is opened and where it goes on.
  pub walk_refuses : (b : Bytes) (place r : ℕ) → (open_walk b place ≡ Walk.refused r) ↔ WalkRefusal b place r
  pub next_refuses : (b : Bytes) (place r : ℕ) → (next b place ≡ Walk.refused r) ↔ WalkRefusal b place r
  -- The walk that writes records: the same.
  pub walk_records_refuses : (b : Bytes) (place : ℕ) (out : Bytes) (r : ℕ) → ((walk_records b place out).answer ≡ refused r) ↔ WalkRefusal b place r
  -- "The call always ends and stays inside its buffers; after a refusal no lent byte has changed."
  pub build_kept : (list : Bytes) (st : Settings) (stated : ℕ) (out : Bytes) → Kept out (build list st stated out)
  pub ask_kept : (b file out : Bytes) → Kept out (ask b file out)
  pub walk_records_kept : (b : Bytes) (place : ℕ) (out : Bytes) → Kept out (walk_records b place out)
  -- What is written are bytes: of a list of bytes, of an image and a question file of bytes, and of an image of bytes.
  pub build_bytes : (list : Bytes) → IsBytes list → (st : Settings) (stated : ℕ) (out : Bytes) (n : ℕ) → (build list st stated out).answer ≡ written n → IsBytes (take n (build list st stated out).final)
  pub ask_bytes : (b file : Bytes) → IsBytes b → IsBytes file → (out : Bytes) (n : ℕ) → (ask b file out).answer ≡ written n → IsBytes (take n (ask b file out).final)
  pub walk_records_bytes : (b : Bytes) → IsBytes b → (place : ℕ) (out : Bytes) (n : ℕ) → (walk_records b place out).answer ≡ written n → IsBytes (take n (walk_records b place out).final)
  -- They are fewer than 2^32, so that an answer that is given as one number decodes; so is a length.
  pub length_short : (list : Bytes) → IsBytes list → (st : Settings) (n : ℕ) → image_length list st ≡ Build.bytes n → n < refusal_weight
  pub build_short : (list : Bytes) → IsBytes list → (st : Settings) (stated : ℕ) (out : Bytes) (n : ℕ) → (build list st stated out).answer ≡ written n → n < refusal_weight
  pub ask_short : (b file : Bytes) → IsBytes b → IsBytes file → (out : Bytes) (n : ℕ) → (ask b file out).answer ≡ written n → n < refusal_weight
  pub walk_records_short : (b : Bytes) → IsBytes b → (place : ℕ) (out : Bytes) (n : ℕ) → (walk_records b place out).answer ≡ written n → n < refusal_weight

-- ---- demand 2

-- of an image that a list builds with settings st
pub record Demand2 : Type 0 where
  -- "An image built from a key list is, byte for byte, the dense and sparse layout of that list's shortest distinguishing prefixes, their kinds and suffix bits."
  pub layout : (st : Settings) (list b : Bytes) → BuildsWith st list b → b ≡ image st (leaves st.hash_width st.real_width (keys_of list))
  -- It is written from every key list, with settings in range and its length, into every output that holds it.
  pub built : (st : Settings) (list : Bytes) (ks : List Bytes) → IsBytes list → in_range st ≡ true → KeyList list ks
      → (out : Bytes) → length (image st (leaves st.hash_width st.real_width ks)) ≤ length out → build list st (length (image st (leaves st.hash_width st.real_width ks))) out ≡ success (image st (leaves st.hash_width st.real_width ks)) out
  -- "An image read back gives the same three," and the settings,
  pub read_back : (st : Settings) (list b : Bytes) → BuildsWith st list b → (read_leaves b ≡ leaves st.hash_width st.real_width (keys_of list)) × (read_settings b ≡ st)
  -- "and every reply is the one worked out from them alone": all that ask writes, and what is read where the reply to the i-th question stands;
  pub all_replies : (st : Settings) (list b : Bytes) → BuildsWith st list b → (file out : Bytes) → Taken b file out
      → ask b file out ≡ success (replies st.hash_width (leaves st.hash_width st.real_width (keys_of list)) (questions_of file)) out
  pub each_reply : (st : Settings) (list b : Bytes) → BuildsWith st list b → (file out : Bytes) → Taken b file out
      → (i : ℕ) (q : Question) → question_at file i ≡ some q → reply_at i (ask b file out).final ≡ reply st.hash_width (leaves st.hash_width st.real_width (keys_of list)) q
  -- a walk gives them leaf by leaf, or writes the records of those from a place on, of as many as the buffer holds whole; and the leaf printer prints them.
  pub walk : (st : Settings) (list b : Bytes) → BuildsWith st list b → WalkCorrect b (leaves st.hash_width st.real_width (keys_of list))
  pub records : (st : Settings) (list b : Bytes) → BuildsWith st list b → (place : ℕ) → place ≤ length (leaves st.hash_width st.real_width (keys_of list)) → (out : Bytes)
      → walk_records b place out ≡ success (records_from (leaves st.hash_width st.real_width (keys_of list)) place (length out / record_size)) out
  pub print : (st : Settings) (list b : Bytes) → BuildsWith st list b → length b ≤ longest_input → print b ≡ listing (leaves st.hash_width st.real_width (keys_of list))

-- ---- demand 3

-- Of an accepted image b, a question file that is taken, and the reply buffer's final bytes: what the rule behind a point's reply is, at every h.
pub record RulesCorrect (b file final : Bytes) : Type 0 where
  -- Order 3: "The reply's key field, empty so far, holds one byte", the number of a rule; what the rule says is the reply's number, so that it is 1 exactly with 3 and 4;
  pub decided : (i : ℕ) (k : Bytes) → question_at file i ≡ some (QP k) → (r : Rule) × ((reply_at i final).key ≡ rule_number r ∷ []) × ((reply_at i final).number ≡ rule_says r)
  -- of the six rules, over the image's leaves, that one applies to the key, and no other.
  pub rule : (i : ℕ) (k : Bytes) → question_at file i ≡ some (QP k) → (r : Rule) → ((reply_at i final).key ≡ rule_number r ∷ []) ↔ (applies (read_settings b).hash_width (read_leaves b) k r ≡ true)

-- What ranges, stems, counts and seeks say of the lists that build the image c.
pub record ListsTold (c file final : Bytes) : Type 0 where
  -- "a key or range is denied exactly when none of the lists that build the image holds it or has a key in it";
  pub range : (i : ℕ) (lo hi : Bytes) → question_at file i ≡ some (QR lo hi) → ((reply_at i final).number ≡ 0) ↔ NoListHas c lo hi
  -- Order 2: "a stem is denied exactly if no list with that image has a key beginning so";
  pub stem : (i : ℕ) (stem : Bytes) → question_at file i ≡ some (QB stem) → ((reply_at i final).number ≡ 0) ↔ NoListBegins c stem
  -- "a count is the number of keys that some such list has in the range, and no such list has more, or over two fewer";
  pub count : (i : ℕ) (lo hi : Bytes) → question_at file i ≡ some (QC lo hi) → Count c lo hi (reply_at i final).number
  -- "a seek gives none exactly when no such list holds a key at or after its start",
  pub none : (i : ℕ) (start : Bytes) → question_at file i ≡ some (QS start) → None (reply_at i final) ↔ NoListFrom c start
  -- "else the smallest key there that any of them holds, with its place, from 0, in every such list that holds it".
  pub next : (i : ℕ) (start : Bytes) → question_at file i ≡ some (QS start) → (None (reply_at i final) → ⊥)
      → NextKey c start (reply_at i final).number (reply_at i final).key

-- What replies say of each list that builds the accepted image b, at every h.
pub record StoredTold (b file final : Bytes) : Type 0 where
  -- "a stored key is [..] never denied": a point gets 1 for a key that the list holds;
  pub key : (i : ℕ) (k : Bytes) → question_at file i ≡ some (QP k) → (list : Bytes) → Builds list b → Holds list k → (reply_at i final).number ≡ 1
  -- a range that has one of its keys gets 1;
  pub range : (i : ℕ) (lo hi : Bytes) → question_at file i ≡ some (QR lo hi) → (list : Bytes) → Builds list b → HasInRange list lo hi → (reply_at i final).number ≡ 1
  -- so does a stem with which one of its keys begins;
  pub stem : (i : ℕ) (stem : Bytes) → question_at file i ≡ some (QB stem) → (list : Bytes) → Builds list b → HasWithStem list stem → (reply_at i final).number ≡ 1
  -- a count is not below the number of keys that the list has in the range, nor over two above it;
  pub count : (i : ℕ) (lo hi : Bytes) → question_at file i ≡ some (QC lo hi) → (list : Bytes) → Builds list b
      → (number_in list lo hi ≤ (reply_at i final).number) × ((reply_at i final).number ≤ number_in list lo hi + 2)
  -- a seek from a start at or before one of its keys is not none, and the key that it gives is not behind that key.
  pub seek : (i : ℕ) (start : Bytes) → question_at file i ≡ some (QS start) → (list : Bytes) → Builds list b → (k : Bytes) → Holds list k → below k start ≡ false
      → (None (reply_at i final) → ⊥) × (below k (reply_at i final).key ≡ false)

-- Order 4: "that every 1 is held by some list is claimed for h = 0".
pub record OnesHeld (b file final : Bytes) : Type 0 where
  -- A point's 1 comes with a list that builds the image and holds the key,
  pub key : (i : ℕ) (k : Bytes) → question_at file i ≡ some (QP k) → (reply_at i final).number ≡ 1 → (list : Bytes) × Builds list b × Holds list k
  -- a range's with one that has a key in the range,
  pub range : (i : ℕ) (lo hi : Bytes) → question_at file i ≡ some (QR lo hi) → (reply_at i final).number ≡ 1 → (list : Bytes) × Builds list b × HasInRange list lo hi
  -- and a stem's with one that has a key that begins with the stem.
  pub stem : (i : ℕ) (stem : Bytes) → question_at file i ≡ some (QB stem) → (reply_at i final).number ≡ 1 → (list : Bytes) × Builds list b × HasWithStem list stem

-- of an accepted image with h 0, a question file that is taken, and the reply buffer's final bytes
pub record RepliesCorrect (b file final : Bytes) : Type 0 where
  -- "a key or range is denied exactly when none of the lists that build the image holds it"
  pub key : (i : ℕ) (k : Bytes) → question_at file i ≡ some (QP k) → ((reply_at i final).number ≡ 0) ↔ NoListHolds b k
  pub rules : RulesCorrect b file final
  pub others : ListsTold b file final
  -- What follows for each list that builds the image.
  pub stored : StoredTold b file final
  -- A 1 is held.
  pub held : OnesHeld b file final

-- ---- order 4, with h from 1 to 16

-- an image with hash bits
abbrev pub Hashed : Bytes → Type 0
Hashed b = From 1 16 (read_settings b).hash_width

-- "its exact leaves' slots [..] are zero"
abbrev pub ExactSlotsZero : Bytes → Type 0
ExactSlotsZero b = all (λ n. clear (exact_slot n)) (read_nodes b) ≡ true

-- "and spare bits are zero": none is set in a body of the image
abbrev pub SpareBitsZero : Bytes → Type 0
SpareBitsZero b = (bs : List Bytes) → read_bodies (rows_of b) (drop 22 b) ≡ some bs → spare_clear (parts b (named bs)) (named bs) ≡ true

-- "lists of the same cut keys and real bits": the list's leaves with h 0 agree with the image's with its hash bits struck out
abbrev pub SameRealLeaves : Bytes → Bytes → Type 0
SameRealLeaves list b = IsBytes list × KeyList list (keys_of list) × Agree (leaves 0 (read_settings b).real_width (keys_of list)) (reals (read_settings b).hash_width (read_leaves b))

-- of an accepted image with hash bits, a question file that is taken, and the reply buffer's final bytes
pub record HashedRepliesCorrect (b file final : Bytes) : Type 0 where
  -- "With h above 0 a stored key is still never denied": neither by a point nor by another question,
  pub stored : StoredTold b file final
  pub rules : RulesCorrect b file final
  -- "and ranges, stems, counts and seeks read as before over lists of the same cut keys and real bits".
  pub others : ListsTold (struck b) file final

-- settings that differ at most in the version
abbrev pub OtherSettingsEqual : Settings → Settings → Type 0
OtherSettingsEqual st su = (st.dense_levels ≡ su.dense_levels) × (st.real_width ≡ su.real_width) × (st.hash_width ≡ su.hash_width)

-- two images get the same from every call that reads one: replies and refusals, leaves, records, and the printed text of those that are no longer than the printer takes
pub record SameAnswers (b c : Bytes) : Type 0 where
  pub ask : (file out : Bytes) → ask b file out ≡ ask c file out
  pub open_walk : (place : ℕ) → open_walk b place ≡ open_walk c place
  pub next : (place : ℕ) → next b place ≡ next c place
  pub walk_records : (place : ℕ) (out : Bytes) → walk_records b place out ≡ walk_records c place out
  pub print : length b ≤ longest_input → length c ≤ longest_input → print b ≡ print c

-- of byte strings, question files and lists
pub record Demand3 : Type 0 where
  -- "Of all byte strings, exactly those that some key list builds are accepted as images.", with h 0.
  pub accepted_exactly : (b : Bytes) → IsBytes b → (read_settings b).hash_width ≡ 0 → Accepted b ↔ ((list : Bytes) × Builds list b)
  -- Order 4: "With h from 1 to 16 demand 3's sentence on which byte strings are accepted gives way to this: what a key list builds is accepted,"
  pub built_accepted : (list b : Bytes) → Builds list b → Accepted b
  -- "and an image is accepted exactly when its exact leaves' slots and spare bits are zero and it would be accepted with h 0 and the hash bits struck out."
  pub hashed_exactly : (b : Bytes) → IsBytes b → Hashed b → Accepted b ↔ (ExactSlotsZero b × SpareBitsZero b × Accepted (struck b))
  -- The lists that build the image with its hash bits struck out are those of the same cut keys and real bits.
  pub struck_lists : (b : Bytes) → IsBytes b → Accepted b → (list : Bytes) → Builds list (struck b) ↔ SameRealLeaves list b
  -- A list that builds an image is one of them, at every h.
  pub built_lists : (list b : Bytes) → Builds list b → SameRealLeaves list b
  -- "ask and walk judge it alike"
  pub alike : (b : Bytes) → JudgedAlike b
  -- "A question file is taken if ask refuses nothing, as it must where none of 21 to 25 applies.": its questions are at most 1,024, "with keys and bounds of at most 64 bytes
  -- and ranges the right way round", and the replies fit the reply buffer.
  pub taken_exactly : (b : Bytes) → Accepted b → (file : Bytes) → IsBytes file → (out : Bytes)
      → Taken b file out ↔ ((qs : List Question) × QuestionFile file qs × (length (replies (read_settings b).hash_width (read_leaves b) qs) ≤ length out))
  -- "For every accepted image and every question of every question file that is taken", with h 0,
  pub valid : (b : Bytes) → IsBytes b → (read_settings b).hash_width ≡ 0 → Accepted b → (file : Bytes) → IsBytes file → (out : Bytes) → Taken b file out → RepliesCorrect b file (ask b file out).final
  -- and with h from 1 to 16.
  pub hashed_valid : (b : Bytes) → IsBytes b → Hashed b → Accepted b → (file : Bytes) → IsBytes file → (out : Bytes) → Taken b file out → HashedRepliesCorrect b file (ask b file out).final
  -- "Two lists with the same settings build one image exactly when their prefixes, kinds and suffix bits agree." Order 4: "the hash bits count among the suffix bits", so that "two lists build one image only if their hash bits agree too".
  pub one_image : (st : Settings) (list other b c : Bytes) → BuildsWith st list b → BuildsWith st other c
      → (b ≡ c) ↔ Agree (leaves st.hash_width st.real_width (keys_of list)) (leaves st.hash_width st.real_width (keys_of other))
  -- Order 8: "one list's images in both versions, other settings equal, get the same replies", and walk and printer say the same of them.
  pub both_versions : (st su : Settings) (list b c : Bytes) → OtherSettingsEqual st su → BuildsWith st list b → BuildsWith su list c → SameAnswers b c

-- ---- the calls over an accepted image

-- what a seek leaves of the buffer lent for its key, by its answer
pub record KeyKept (found : Bytes) (a : Answered) : Type 0 where
  -- "after a refusal no lent byte has changed"
  pub refusal : (r : ℕ) → a ≡ OneQuestion.refused r → key_written a found ≡ found
  -- the reply's key is at the front, behind its length byte; the buffer keeps its length and the bytes behind them
  pub success : (x : Reply) → a ≡ replied x
      → (take (length (key_bytes x.key)) (key_written a found) ≡ key_bytes x.key) × (length (key_written a found) ≡ length found) × (drop (length (key_bytes x.key)) (key_written a found) ≡ drop (length (key_bytes x.key)) found)

-- Of an accepted image b: what the calls give that ask their caller for such an image. They take a question by value, and give the number in its reply, a point's rule or a seek's key of what `ask_one` answers
-- (crate `spec`, OneQuestion: `reply_number`, `reply_rule`, `key_written`); their walk is that of the public call.
pub record CallsCorrect (b : Bytes) : Type 0 where
  -- The answer is what ask's reply to that question alone says: it is the reply x, and a reply buffer holds x, exactly if ask, lent this buffer, takes a file of the question alone and writes x.
  pub as_asked : (q : Question) (x : Reply) (out : Bytes) → ((ask_one b q ≡ replied x) × (length (reply_bytes x) ≤ length out)) ↔ (Taken b (alone q) out × (reply_alone b q out ≡ x))
  -- So the number that is given of it is the number in ask's reply,
  pub number : (q : Question) (out : Bytes) → Taken b (alone q) out → reply_number (ask_one b q) ≡ OneQuestion.number (reply_alone b q out).number
  -- and a point's rule is the one byte of the key in ask's reply.
  pub rule : (k out : Bytes) → Taken b (alone (QP k)) out → (r : Rule) × ((reply_alone b (QP k) out).key ≡ rule_number r ∷ []) × (reply_rule (ask_one b (QP k)) ≡ OneQuestion.number (rule_number r))
  -- 22 and 23 come as there: a question is refused with just the number, of these two, with which ask refuses the file.
  pub refuses : (q : Question) (out : Bytes) (r : ℕ) → (ask_one b q ≡ OneQuestion.refused r) ↔ (((ask b (alone q) out).answer ≡ refused r) × From 22 23 r)
  -- A seek's key is at the front of the buffer that is lent for it, and the rest of the buffer is kept.
  pub key_kept : (start found : Bytes) → found_size ≤ length found → KeyKept found (ask_one b (QS start))
  -- The walk writes the records of the leaves from its place on, of as many as the buffer holds whole;
  pub walks : (place : ℕ) → place ≤ length (read_leaves b) → (out : Bytes) → walk_records b place out ≡ success (records_from (read_leaves b) place (length out / record_size)) out
  -- it refuses with 17 alone, just where the place is neither a leaf nor done;
  pub walk_refuses : (place : ℕ) (out : Bytes) (r : ℕ) → ((walk_records b place out).answer ≡ refused r) ↔ ((r ≡ 17) × (length (read_leaves b) < place))
  -- and its buffer is kept.
  pub walk_kept : (place : ℕ) (out : Bytes) → Kept out (walk_records b place out)

-- two images get the same from every one of these calls
pub record SameCalls (b c : Bytes) : Type 0 where
  -- the answer to each question, and so what is given of it
  pub one : (q : Question) → ask_one b q ≡ ask_one c q
  -- and the walk, with the final bytes of its buffer
  pub walk : (place : ℕ) (out : Bytes) → walk_records b place out ≡ walk_records c place out

-- of images and lists
pub record AcceptedCalls : Type 0 where
  -- For every image that the check accepts, what the calls give is right.
  pub calls : (b : Bytes) → IsBytes b → Accepted b → CallsCorrect b
  -- Both versions of one list's image give the same, other settings equal.
  pub both_versions : (st su : Settings) (list b c : Bytes) → OtherSettingsEqual st su → BuildsWith st list b → BuildsWith su list c → SameCalls b c

-- ---- the three, and the calls beside them

-- what a hire firm buys, at all three levels; and what holds of the calls over an accepted image
pub record Demands : Type 0 where
  pub first : Demand1
  pub second : Demand2
  pub third : Demand3
  pub over_accepted : AcceptedCalls
