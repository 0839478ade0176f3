-- What the two calls of build give: of a key list, with settings in range, the length of the literal image of its leaves, and the image itself, or 8, or 7.
-- The demands on built images stand on this.
use Rattle.std.specs.Prelude.{ℕ, ◌≤◌, ◌≡◌, refl, Bool, true, false, ◌&&◌, List, ◌↔◌, length, take, leb, ltb, eqb}
use Rattle.std.proofs.Common.{sym, ap, ◌∙◌, arith, leb-true, le-leb, ltb-true, ltb-false, eqb-true, eq-eqb, ne_eqb}
use Rattle.std.proofs.lemmas.Bool.{eqb-false}
use Rattle.spec.specs.Bytes.{Bytes}
use Rattle.spec.specs.Keys.{ParsedKeys, refused, keys, parse_keys, keys_of}
use Rattle.spec.specs.Leaves.{leaves}
use Rattle.spec.specs.Image.{Settings, known_version, image}
use Rattle.spec.specs.Answer.{Outcome, refuse, success, write, written}
use Rattle.spec.specs.Build.{in_range, Judged, turned_down, to_build, judge, Length, bytes, image_length, write_stated, build}
use Rattle.theory.specs.Terms.{Ascending, IsBytes, Keys, KeyList}
use Rattle.theory.proofs.KeyLeaves.{leaves_realizable, leaves_well_sized, leaves_spare_clear, leaves_length}
use Rattle.theory.proofs.KeyFiles.{keys_exactly}
use Rattle.theory.proofs.OutcomeLaws.{no_written, write_fits, write_short, success_answer, success_length, success_written}
use Rattle.theory.proofs.Lists.{and_both}
use Rattle.theory.proofs.LiteralImage.{Buildable}
use Rattle.theory.proofs.Judged.{judge_is}
use Rattle.spec.specs.Build as Build

-- the keys that are read
pub keys_of_list : (list : Bytes) (ks : List Bytes) → parse_keys list ≡ keys ks → keys_of list ≡ ks
unfolding keys_of
keys_of_list list ks h = rw (h, keys_of)

-- ---- what is judged

-- settings in range
pub in_range_exactly : (st : Settings) → (in_range st ≡ true) ↔ ((known_version st.version ≡ true) × (st.dense_levels ≤ 4) × (st.real_width ≤ 16) × (st.hash_width ≤ 16))
unfolding in_range
in_range_exactly st = (
  λ h.
      let m = and_both (known_version st.version && leb st.dense_levels 4 && leb st.real_width 16) (leb st.hash_width 16) h in
      let p = and_both (known_version st.version && leb st.dense_levels 4) (leb st.real_width 16) m.0 in
      let q = and_both (known_version st.version) (leb st.dense_levels 4) p.0 in
      (q.0, leb-true st.dense_levels 4 q.1, leb-true st.real_width 16 p.1, leb-true st.hash_width 16 m.1),
  λ p. rw (p.0, le-leb st.dense_levels 4 p.1, le-leb st.real_width 16 p.2, le-leb st.hash_width 16 p.3),
)

-- the literal image of the leaves is to be built from a key list, with settings in range
pub judge_keys : (list : Bytes) (st : Settings) (ks : List Bytes) → in_range st ≡ true → parse_keys list ≡ keys ks → judge list st ≡ to_build (image st (leaves st.hash_width st.real_width ks))
judge_keys list st ks r p = judge_is list st true (keys ks) r p

-- and nothing else is
pub judged_keys : (list : Bytes) (st : Settings) (b : Bytes) → judge list st ≡ to_build b
    → (in_range st ≡ true) × (ks : List Bytes) × (parse_keys list ≡ keys ks) × (b ≡ image st (leaves st.hash_width st.real_width ks))
judged_keys list st b h = one (in_range st) refl (parse_keys list) refl
  where
    none : {A : Type 0} (q : ℕ) → judge list st ≡ turned_down q → A
    none q e = let z : ◌≡◌ {A = ℕ} 0 1 = cc in absurd (omega arith)

    one : (t : Bool) → in_range st ≡ t → (p : ParsedKeys) → parse_keys list ≡ p
        → (in_range st ≡ true) × (ks : List Bytes) × (parse_keys list ≡ keys ks) × (b ≡ image st (leaves st.hash_width st.real_width ks))
    one false e p f = none 5 (judge_is list st false p e f)
    one true e (refused q) f = none q (judge_is list st true (refused q) e f)
    one true e (keys ks) f = let j = judge_keys list st ks e f in (e, ks, f, cc)

-- ---- the first call

-- the length, by what is judged
pub length_is : (list : Bytes) (st : Settings) (j : Judged) → judge list st ≡ j → image_length list st ≡ elim j [ turned_down r ↦ Build.refused r | to_build b ↦ bytes (length b) ]
unfolding image_length
length_is list st j e = ap {B = Length} (λ (j : Judged). elim j [ turned_down r ↦ Build.refused r | to_build b ↦ bytes (length b) ]) e

-- a length that is given is that of the image that is to be built
pub length_given : (list : Bytes) (st : Settings) (n : ℕ) → image_length list st ≡ bytes n → (b : Bytes) × (judge list st ≡ to_build b) × (length b ≡ n)
length_given list st n h = go (judge list st) refl
  where
    go : (j : Judged) → judge list st ≡ j → (b : Bytes) × (judge list st ≡ to_build b) × (length b ≡ n)
    go (turned_down r) e =
        let l : image_length list st ≡ Build.refused r = length_is list st (turned_down r) e in
        let z : ◌≡◌ {A = ℕ} 0 1 = cc in
        absurd (omega arith)
    go (to_build b) e = let l : image_length list st ≡ bytes (length b) = length_is list st (to_build b) e in (b, e, cc)

-- ---- the second call

-- build, by what is judged
pub build_is : (list : Bytes) (st : Settings) (stated : ℕ) (out : Bytes) (j : Judged) → judge list st ≡ j
    → build list st stated out ≡ elim j [ turned_down r ↦ refuse r out | to_build b ↦ write_stated stated b out ]
unfolding build
build_is list st stated out j e = ap {B = Outcome} (λ (j : Judged). elim j [ turned_down r ↦ refuse r out | to_build b ↦ write_stated stated b out ]) e

-- 8 comes where the stated length is not the image's,
pub stated_wrong : (stated : ℕ) (b out : Bytes) → (stated ≡ length b → ⊥) → write_stated stated b out ≡ refuse 8 out
unfolding write_stated
stated_wrong stated b out h = rw (ne_eqb stated (length b) h, write_stated)

-- and 7 is judged where it is
pub stated_right : (stated : ℕ) (b out : Bytes) → stated ≡ length b → write_stated stated b out ≡ write 7 b out
unfolding write_stated
stated_right stated b out h = rw (eq-eqb stated (length b) h, write_stated)

-- From a key list, with settings in range and the image's length, build writes the literal image of its leaves, or gives 7.
pub build_writes : (list : Bytes) (st : Settings) (ks : List Bytes) (out : Bytes) → in_range st ≡ true → parse_keys list ≡ keys ks
    → build list st (length (image st (leaves st.hash_width st.real_width ks))) out ≡ write 7 (image st (leaves st.hash_width st.real_width ks)) out
build_writes list st ks out r p =
    let b : Bytes = image st (leaves st.hash_width st.real_width ks) in
    build_is list st (length b) out (to_build b) (judge_keys list st ks r p) ∙ stated_right (length b) b out refl

-- what a success of build says: an image is to be built, its length is the one stated, and it is written
record BuildSucceeds (list : Bytes) (st : Settings) (stated : ℕ) (out : Bytes) : Type 0 where
  pub built : Bytes
  pub judged : judge list st ≡ to_build built
  pub length_stated : stated ≡ length built
  pub writes : build list st stated out ≡ success built out

-- build writes nothing else
build_succeeds : (list : Bytes) (st : Settings) (stated : ℕ) (out : Bytes) (n : ℕ) → (build list st stated out).answer ≡ written n → BuildSucceeds list st stated out
build_succeeds list st stated out n h = one (judge list st) refl
  where
    two : (b : Bytes) → judge list st ≡ to_build b → (t : Bool) → eqb stated (length b) ≡ t → (u : Bool) → ltb (length out) (length b) ≡ u → BuildSucceeds list st stated out
    two b e false f u g = no_written 8 n out _ (build_is list st stated out (to_build b) e ∙ stated_wrong stated b out (eqb-false stated (length b) f)) h
    two b e true f true g =
        no_written 7 n out _ (build_is list st stated out (to_build b) e ∙ stated_right stated b out (eqb-true stated (length b) f) ∙ write_short 7 b out (ltb-true (length out) (length b) g)) h
    two b e true f false g =
        let s = eqb-true stated (length b) f in
        record { built = b; judged = e; length_stated = s; writes = build_is list st stated out (to_build b) e ∙ stated_right stated b out s ∙ write_fits 7 b out (ltb-false (length out) (length b) g) }

    one : (j : Judged) → judge list st ≡ j → BuildSucceeds list st stated out
    one (turned_down r) e = no_written r n out _ (build_is list st stated out (turned_down r) e) h
    one (to_build b) e = two b e (eqb stated (length b)) refl (ltb (length out) (length b)) refl

-- ---- the two calls together

-- What the first accepts the second accepts, if the length is the one given and the output holds it, and then it writes just that many bytes.
pub length_builds : (list : Bytes) (st : Settings) (n : ℕ) → image_length list st ≡ bytes n → (out : Bytes) → n ≤ length out → (build list st n out).answer ≡ written n
length_builds list st n h out l =
    let g = length_given list st n h in
    let b = g.0 in
    ap (λ (o : Outcome). o.answer) (build_is list st n out (to_build b) g.1 ∙ stated_right n b out (sym g.2) ∙ write_fits 7 b out (omega (arith, g.2)))
    ∙ success_answer b out ∙ ap written g.2

-- And back: where the second succeeds, the first gives the length, which is the one stated.
pub built_length : (list : Bytes) (st : Settings) (stated : ℕ) (out : Bytes) (n : ℕ) → (build list st stated out).answer ≡ written n → (image_length list st ≡ bytes n) × (stated ≡ n)
built_length list st stated out n h =
    let s = build_succeeds list st stated out n h in
    let e : n ≡ length s.built = success_length s.built out n _ s.writes h in
    (length_is list st (to_build s.built) s.judged ∙ ap bytes (sym e), s.length_stated ∙ sym e)

-- ---- what is built

-- settings in range, and at most 65,535 keys that ascend: what build reads from a key list
pub record BuiltFrom (st : Settings) (ks : List Bytes) : Type 0 where
  pub version_known : known_version st.version ≡ true
  pub dense_range : st.dense_levels ≤ 4
  pub real_range : st.real_width ≤ 16
  pub hash_range : st.hash_width ≤ 16
  pub few : length ks ≤ 65535
  pub keys : Keys ks
  pub up : Ascending ks

-- so it does of every key list, with settings in range
pub built_from : (st : Settings) (list : Bytes) (ks : List Bytes) → in_range st ≡ true → KeyList list ks → BuiltFrom st ks
built_from st list ks e l =
    let r = (in_range_exactly st).0 e in
    record { version_known = r.0; dense_range = r.1; real_range = r.2; hash_range = r.3; few = l.few; keys = l.each; up = l.up }

-- The leaves of such keys fit: their image is accepted and read back.
pub built_fits : (st : Settings) (ks : List Bytes) → BuiltFrom st ks → Buildable st (leaves st.hash_width st.real_width ks)
built_fits st ks b = record {
  version_known = b.version_known;
  dense_range = b.dense_range;
  real_range = b.real_range;
  hash_range = b.hash_range;
  few = omega (arith, leaves_length st.hash_width st.real_width ks, b.few);
  realizable = leaves_realizable st.hash_width st.real_width ks b.keys b.up;
  well_sized = leaves_well_sized st.hash_width st.real_width ks b.keys;
  spare = leaves_spare_clear st.hash_width st.real_width ks b.keys;
}

-- What is to be built is the image of a key list, with settings in range.
pub judged_image : (list : Bytes) → IsBytes list → (st : Settings) (b : Bytes) → judge list st ≡ to_build b
    → (in_range st ≡ true) × KeyList list (keys_of list) × (b ≡ image st (leaves st.hash_width st.real_width (keys_of list)))
judged_image list w st b h =
    let j = judged_keys list st b h in
    let k = (keys_exactly list j.1 w).0 j.2 in
    let s = keys_of_list list j.1 j.2 in
    (j.0, rw s k, rw s j.3)

-- So is what build writes.
pub build_writes_image : (list : Bytes) → IsBytes list → (st : Settings) (stated : ℕ) (out : Bytes) (n : ℕ) → (build list st stated out).answer ≡ written n
    → (in_range st ≡ true) × KeyList list (keys_of list) × (take n (build list st stated out).final ≡ image st (leaves st.hash_width st.real_width (keys_of list)))
build_writes_image list w st stated out n h =
    let s = build_succeeds list st stated out n h in
    let j = judged_image list w st s.built s.judged in
    (j.0, j.1, success_written s.built out n _ s.writes h ∙ j.2)
