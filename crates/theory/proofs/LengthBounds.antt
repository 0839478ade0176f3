-- How long what a call writes can get: an image, replies, records. Each is shorter than 2^32 bytes, so that one number can give a refusal's number and the bytes written.
use Rattle.std.specs.Prelude.{ℕ, suc, ◌*◌, ◌/◌, ◌<◌, ◌≤◌, ◌≡◌, Bool, true, false, cond, List, [], ◌∷◌, ◌++◌, map, length, eqb}
use Rattle.std.proofs.Common.{sym, ap, ap₂, ◌∙◌, arith, length-append, length-take-le}
use Rattle.spec.specs.Bytes.{Bytes, concat, le32}
use Rattle.spec.specs.Keys.{below, keys_of}
use Rattle.spec.specs.Leaves.{Leaf, leaves, reals, lowest, highest}
use Rattle.spec.specs.Image.{Settings, slot_width, Counts, Row, version_rows, in_order, level_starts, level_bodies, marked, write_records, header, image}
use Rattle.spec.specs.Frame.{read_settings}
use Rattle.spec.specs.Nodes.{Node, levels_of, read_leaves}
use Rattle.spec.specs.Questions.{Question, QP, QS, QB, QR, QC, Reply, found, keyless, sought, greater, seek_from, seek, reply, reply_bytes, replies, taken, parse_questions, questions_of}
use Rattle.spec.specs.Answer.{written, refusal_weight}
use Rattle.spec.specs.Build.{bytes, image_length, build}
use Rattle.spec.specs.Ask.{ask}
use Rattle.spec.specs.WalkRecords.{record_size, walk_records}
use Rattle.theory.specs.Terms.{All, IsBytes, Proper}
use Rattle.theory.proofs.LeafLists.{AllRealSized}
use Rattle.theory.proofs.Intervals.{lowest_key}
use Rattle.theory.proofs.QuestionFiles.{questions_exactly}
use Rattle.theory.proofs.NodeBits.{bodies, version_bodies, node_counts}
use Rattle.theory.proofs.ImageParts.{image_holds, bodies_small}
use Rattle.theory.proofs.BuildLaws.{BuiltFrom, length_given, built_length, built_from, built_fits, judged_image}
use Rattle.theory.proofs.RefusalNumbers.{check_accepts}
use Rattle.theory.proofs.RefusalLaws.{ask_writes_replies, ask_kept}
use Rattle.theory.proofs.WalkRecordLaws.{records_few, records_answered}
use Rattle.theory.proofs.Accept as Accept
use Rattle.theory.proofs.ReadBack.{read_back, settings_back}
use Rattle.theory.proofs.KeyLeaves.{reals_sized}

-- ---- images

-- records of small bodies
records_small : (rs : List Row) (bs : List Bytes) → All (λ b. length b < 16777216) bs → length (write_records rs bs) ≤ 16777222 * length bs
unfolding write_records marked le32
records_small [] bs h = omega arith
records_small (r ∷ rs) [] h = omega arith
records_small (r ∷ rs) (b ∷ bs) h = omega (arith, length-append (marked r.first r.second b) (write_records rs bs), h.0, records_small rs bs h.1)

-- A header has 22 bytes.
pub header_length : (st : Settings) (c : Counts) → length (header st c) ≡ 22
unfolding header le32
header_length st c = omega arith

-- a version has at most thirteen bodies
version_few : (v : ℕ) (ds ss : List Node) → length (version_bodies v ds ss) ≤ 13
unfolding level_bodies
version_few v ds ss = omega (arith, length-append (in_order (bodies ds ss)) (level_bodies v (map length (levels_of (ds ++ ss)))), go (eqb v 2))
  where
    go : (t : Bool) → length (cond t (level_starts (map length (levels_of (ds ++ ss))) ∷ []) []) ≤ 1
    go true = omega arith
    go false = omega arith

-- The image of a key list has fewer than 2^28 bytes.
pub image_short : (st : Settings) (ks : List Bytes) → BuiltFrom st ks → length (image st (leaves st.hash_width st.real_width ks)) < 268435456
image_short st ks b =
    let i = image_holds st (leaves st.hash_width st.real_width ks) (built_fits st ks b) in
    let n : ℕ = length (leaves st.hash_width st.real_width ks) in
    omega (
      arith,
      ap length i.image_is,
      length-append (header st (node_counts n i.dense_nodes i.sparse_nodes)) (write_records (version_rows st.version) (version_bodies st.version i.dense_nodes i.sparse_nodes)),
      header_length st (node_counts n i.dense_nodes i.sparse_nodes),
      version_few st.version i.dense_nodes i.sparse_nodes,
      records_small (version_rows st.version) (version_bodies st.version i.dense_nodes i.sparse_nodes) (bodies_small st.version (slot_width st) n i.dense_nodes i.sparse_nodes i.writable),
    )

-- ---- replies

-- the greater of two keys of at most 64 bytes
greater_small : (a b : Bytes) → length a ≤ 64 → length b ≤ 64 → length (greater a b) ≤ 64
unfolding greater
greater_small a b h l = go (below a b)
  where
    go : (t : Bool) → length (cond t b a) ≤ 64
    go true = l
    go false = h

-- the key of a seek's reply
pub sought_small : (w i : ℕ) (ls : List Leaf) (start : Bytes) → AllRealSized w ls → length start ≤ 64 → length (sought (seek_from i ls start)).key ≤ 64
unfolding seek_from sought keyless
sought_small w i [] start o h = omega arith
sought_small w i (l ∷ ls) start o h = go (below (highest l) start) (sought_small w (suc i) ls start o.1 h)
  where
    go : (b : Bool) → length (sought (seek_from (suc i) ls start)).key ≤ 64 → length (sought (cond b (seek_from (suc i) ls start) (found i (greater start (lowest l))))).key ≤ 64
    go true ih = ih
    go false ih = greater_small start (lowest l) h (lowest_key l o.0).fits

-- the key of any reply
key_small : (H w : ℕ) (ls : List Leaf) (q : Question) → AllRealSized w (reals H ls) → Proper q → length (reply H ls q).key ≤ 64
unfolding reply keyless seek
key_small H w ls (QP k) o p = omega arith
key_small H w ls (QS start) o p = sought_small w 0 (reals H ls) start o p.fits
key_small H w ls (QB stem) o p = omega arith
key_small H w ls (QR lo hi) o p = omega arith
key_small H w ls (QC lo hi) o p = omega arith

-- the bytes of a reply: mark, letter, number, length and key
abbrev pub longest_reply : ℕ
longest_reply = 72

reply_small : (r : Reply) → length r.key ≤ 64 → length (reply_bytes r) ≤ longest_reply
unfolding reply_bytes le32
reply_small r h = omega arith

replies_small : (H w : ℕ) (ls : List Leaf) (qs : List Question) → AllRealSized w (reals H ls) → All Proper qs → length (replies H ls qs) ≤ longest_reply * length qs
unfolding replies concat
replies_small H w ls [] o p = omega arith
replies_small H w ls (q ∷ qs) o p =
    omega (arith, length-append (reply_bytes (reply H ls q)) (replies H ls qs), reply_small (reply H ls q) (key_small H w ls q o p.0), replies_small H w ls qs o p.1)

-- The replies to a file that is taken have at most 72 bytes for each question.
pub replies_bound : (H w : ℕ) (ls : List Leaf) (file : Bytes) (qs : List Question) → AllRealSized w (reals H ls) → IsBytes file → parse_questions file ≡ taken qs → length (replies H ls qs) ≤ longest_reply * length qs
replies_bound H w ls file qs o small h = replies_small H w ls qs o ((questions_exactly file qs small).0 h).each

-- ---- what the calls write

-- an accepted image's leaves are read back
pub leaves_are : (b : Bytes) (o : Accept.ImageOfLeaves b) → read_leaves b ≡ o.leaves
leaves_are b o = ap read_leaves o.image_is ∙ read_back o.settings o.leaves o.fits

-- and so are its settings
pub settings_are : (b : Bytes) (o : Accept.ImageOfLeaves b) → read_settings b ≡ o.settings
settings_are b o = ap read_settings o.image_is ∙ settings_back o.settings o.leaves

-- They have real bits as an accepted image without hash bits has them, once their hash bits are struck out.
pub real_sizes : (b : Bytes) (o : Accept.ImageOfLeaves b) → AllRealSized o.settings.real_width (reals o.settings.hash_width o.leaves)
real_sizes b o = reals_sized o.settings.hash_width o.settings.real_width o.leaves o.fits.well_sized o.fits.spare

-- The length that the first call of build gives is less than 2^32.
pub length_short : (list : Bytes) → IsBytes list → (st : Settings) (n : ℕ) → image_length list st ≡ bytes n → n < refusal_weight
length_short list w st n h =
    let g = length_given list st n h in
    let i = judged_image list w st g.0 g.1 in
    omega (arith, image_short st (keys_of list) (built_from st list (keys_of list) i.0 i.1), g.2, ap length i.2)

-- The second writes as many bytes.
pub build_short : (list : Bytes) → IsBytes list → (st : Settings) (stated : ℕ) (out : Bytes) (n : ℕ) → (build list st stated out).answer ≡ written n → n < refusal_weight
build_short list w st stated out n h = length_short list w st n (built_length list st stated out n h).0

-- Ask writes fewer.
pub ask_short : (b file : Bytes) → IsBytes b → IsBytes file → (out : Bytes) (n : ℕ) → (ask b file out).answer ≡ written n → n < refusal_weight
ask_short b file s w out n h =
    let r = ask_writes_replies b file out n h in
    let o = Accept.accepted_is_image b s ((check_accepts b).0 r.0) in
    let k = (ask_kept b file out).success n h in
    let q = (questions_exactly file (questions_of file) w).0 r.1 in
    omega (
      arith,
      q.few,
      replies_bound o.settings.hash_width o.settings.real_width o.leaves file (questions_of file) (real_sizes b o) w r.1,
      sym (length-take-le n (ask b file out).final (omega arith)) ∙ ap length r.2 ∙ ap₂ (λ (st : Settings) (z : List Leaf). length (replies st.hash_width z (questions_of file))) (settings_are b o) (leaves_are b o),
    )

-- A walk writes fewer.
pub walk_records_short : (b : Bytes) → IsBytes b → (place : ℕ) (out : Bytes) (n : ℕ) → (walk_records b place out).answer ≡ written n → n < refusal_weight
walk_records_short b s place out n h =
    let w = records_answered b place out n h in
    let o = Accept.accepted_is_image b s w.0 in
    omega (arith, w.2, records_few (read_leaves b) place (length out / record_size), ap length (leaves_are b o), o.fits.few)
