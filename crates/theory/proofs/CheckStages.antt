-- The check by its stages: the verdict on an image that passes them all is 0, a refusal's number is the verdict, and one of the two is there.
-- Used by the two halves of acceptance, by the demands, and by the crates that judge an image.
use Rattle.std.specs.Prelude.{ℕ, Bool, cond, List, drop}
use Rattle.std.proofs.Math.Path.{◌≡◌, refl}
use Rattle.std.proofs.Common.{ap₂, ◌∙◌, arith}
use Rattle.std.proofs.Math.Bool.{true, false}
use Rattle.std.proofs.Math.Option.{Option, none, some}
use Rattle.spec.specs.Bytes.{Bytes}
use Rattle.spec.specs.Frame.{has_header, rows_of, read_bodies, named, read_settings, parts}
use Rattle.spec.specs.Nodes.{nodes_of, levels_of}
use Rattle.spec.specs.Trie.{builders_trie}
use Rattle.spec.specs.Check.{header_valid, spare_clear, tables_valid, slots_valid, judge_bodies, verdict}
use Rattle.theory.specs.Terms.{From}
use Rattle.theory.specs.Demands.{Passes11, Passes12, Passes13, Passes14, Passes15, Passes16, CheckRefusal, header_missing, records_missing, header_wrong, spare_set, no_trie, table_wrong, slot_set}

-- ---- the verdict by its tests

-- the number of the first of five tests that fails, or 0
abbrev first_failed : Bool → Bool → Bool → Bool → Bool → ℕ
first_failed a b c d e = cond a (cond b (cond c (cond d (cond e 0 16) 15) 14) 13) 12

-- a verdict from whether the header stands, and the bodies that are read
abbrev verdict_by : Bytes → Bool → Option (List Bytes) → ℕ
verdict_by b false o = 11
verdict_by b true none = 11
verdict_by b true (some bs) = judge_bodies b bs

verdict_is : (b : Bytes) (t : Bool) (o : Option (List Bytes)) → has_header b ≡ t → read_bodies (rows_of b) (drop 22 b) ≡ o → verdict b ≡ verdict_by b t o
unfolding verdict
verdict_is b t o h f = same (has_header b) (read_bodies (rows_of b) (drop 22 b)) ∙ ap₂ (verdict_by b) h f
  where
    same : (t : Bool) (o : Option (List Bytes)) → ◌≡◌ {A = ℕ} (elim t [ false ↦ 11 | true ↦ elim o [ none ↦ 11 | some bs ↦ judge_bodies b bs ] ]) (verdict_by b t o)
    same false none = refl
    same false (some bs) = refl
    same true none = refl
    same true (some bs) = refl

module _ (b : Bytes) (bs : List Bytes) where
  -- the numbers 12 to 16 in their order
  judged_is : judge_bodies b bs
      ≡ first_failed (header_valid (parts b (named bs)) bs) (spare_clear (parts b (named bs)) (named bs)) (builders_trie (parts b (named bs))) (tables_valid (parts b (named bs)) bs) (slots_valid (read_settings b).hash_width 0 (levels_of (nodes_of (parts b (named bs)))))
  unfolding judge_bodies
  judged_is = go (header_valid (parts b (named bs)) bs) (spare_clear (parts b (named bs)) (named bs)) (builders_trie (parts b (named bs))) (tables_valid (parts b (named bs)) bs) (slots_valid (read_settings b).hash_width 0 (levels_of (nodes_of (parts b (named bs)))))
    where
      go : (a b c d e : Bool)
          → ◌≡◌ {A = ℕ} (elim a [ false ↦ 12 | true ↦ elim b [ false ↦ 13 | true ↦ elim c [ false ↦ 14 | true ↦ elim d [ false ↦ 15 | true ↦ elim e [ false ↦ 16 | true ↦ 0 ] ] ] ] ]) (first_failed a b c d e)
      go false b c d e = refl
      go true false c d e = refl
      go true true false d e = refl
      go true true true false e = refl
      go true true true true false = refl
      go true true true true true = refl

  -- the verdict where the header and the records stand
  tests : Passes11 b bs
      → verdict b
      ≡ first_failed (header_valid (parts b (named bs)) bs) (spare_clear (parts b (named bs)) (named bs)) (builders_trie (parts b (named bs))) (tables_valid (parts b (named bs)) bs) (slots_valid (read_settings b).hash_width 0 (levels_of (nodes_of (parts b (named bs)))))
  tests p = verdict_is b true (some bs) p.header p.bodies ∙ judged_is

  -- An image that passes every stage has the verdict 0.
  pub passes_verdict : Passes16 b bs → verdict b ≡ 0
  passes_verdict p =
      let a = p.before in
      let c = a.before in
      let d = c.before in
      let e = d.before in
      tests e.before ∙ rw (e.header, d.spare, c.trie, a.tables, p.slots)

-- The number of a refusal is the verdict.
pub refusal_verdict : {b : Bytes} {r : ℕ} → CheckRefusal b r → verdict b ≡ r
refusal_verdict {b = b} (header_missing h) = verdict_is b false (read_bodies (rows_of b) (drop 22 b)) h refl
refusal_verdict {b = b} (records_missing h) = go (has_header b) refl
  where
    go : (t : Bool) → has_header b ≡ t → verdict b ≡ 11
    go false e = verdict_is b false none e h
    go true e = verdict_is b true none e h
refusal_verdict {b = b} (header_wrong bs p h) = tests b bs p ∙ rw h
refusal_verdict {b = b} (spare_set bs p h) = tests b bs p.before ∙ rw (p.header, h)
refusal_verdict {b = b} (no_trie bs p h) = tests b bs p.before.before ∙ rw (p.before.header, p.spare, h)
refusal_verdict {b = b} (table_wrong bs p h) = tests b bs p.before.before.before ∙ rw (p.before.before.header, p.before.spare, p.trie, h)
refusal_verdict {b = b} (slot_set bs p h) =
    tests b bs p.before.before.before.before ∙ rw (p.before.before.before.header, p.before.before.spare, p.before.trie, p.tables, h)

-- It is from 11 to 16.
pub refusal_number : {b : Bytes} {r : ℕ} → CheckRefusal b r → From 11 16 r
refusal_number (header_missing h) = omega arith
refusal_number (records_missing h) = omega arith
refusal_number (header_wrong bs p h) = omega arith
refusal_number (spare_set bs p h) = omega arith
refusal_number (no_trie bs p h) = omega arith
refusal_number (table_wrong bs p h) = omega arith
refusal_number (slot_set bs p h) = omega arith

-- ---- every image passes, or is refused

module _ {A : Type 0} (b : Bytes) (accepts : (bs : List Bytes) → Passes16 b bs → A) (refuses : (r : ℕ) → CheckRefusal b r → A) where
  from_15 : (bs : List Bytes) → Passes15 b bs → (t : Bool) → slots_valid (read_settings b).hash_width 0 (levels_of (nodes_of (parts b (named bs)))) ≡ t → A
  from_15 bs p true e = accepts bs (record { before = p; slots = e })
  from_15 bs p false e = refuses 16 (slot_set bs p e)

  from_14 : (bs : List Bytes) → Passes14 b bs → (t : Bool) → tables_valid (parts b (named bs)) bs ≡ t → A
  from_14 bs p true e = from_15 bs (record { before = p; tables = e }) (slots_valid (read_settings b).hash_width 0 (levels_of (nodes_of (parts b (named bs))))) refl
  from_14 bs p false e = refuses 15 (table_wrong bs p e)

  from_13 : (bs : List Bytes) → Passes13 b bs → (t : Bool) → builders_trie (parts b (named bs)) ≡ t → A
  from_13 bs p true e = from_14 bs (record { before = p; trie = e }) (tables_valid (parts b (named bs)) bs) refl
  from_13 bs p false e = refuses 14 (no_trie bs p e)

  from_12 : (bs : List Bytes) → Passes12 b bs → (t : Bool) → spare_clear (parts b (named bs)) (named bs) ≡ t → A
  from_12 bs p true e = from_13 bs (record { before = p; spare = e }) (builders_trie (parts b (named bs))) refl
  from_12 bs p false e = refuses 13 (spare_set bs p e)

  from_11 : (bs : List Bytes) → Passes11 b bs → (t : Bool) → header_valid (parts b (named bs)) bs ≡ t → A
  from_11 bs p true e = from_12 bs (record { before = p; header = e }) (spare_clear (parts b (named bs)) (named bs)) refl
  from_11 bs p false e = refuses 12 (header_wrong bs p e)

  from_start : (t : Bool) (o : Option (List Bytes)) → has_header b ≡ t → read_bodies (rows_of b) (drop 22 b) ≡ o → A
  from_start false o h f = refuses 11 (header_missing h)
  from_start true none h f = refuses 11 (records_missing f)
  from_start true (some bs) h f = from_11 bs (record { header = h; bodies = f }) (header_valid (parts b (named bs)) bs) refl

  -- An image passes every stage, or is refused at one.
  pub by_stages : A
  by_stages = from_start (has_header b) (read_bodies (rows_of b) (drop 22 b)) refl refl

-- An image with the verdict 0 passes every stage.
pub verdict_passes : (b : Bytes) → verdict b ≡ 0 → (bs : List Bytes) × Passes16 b bs
verdict_passes b h = by_stages b (λ bs p. (bs, p)) (λ r c. absurd (omega (arith, h, refusal_verdict c, refusal_number c)))
