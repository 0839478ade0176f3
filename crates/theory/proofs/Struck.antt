-- An image with its hash bits struck out, as bytes: when it is accepted (`struck_accepted`), what its settings and its leaves are (`struck_settings`, `struck_leaves`), and that it is bytes (`struck_bytes`).
-- Used by the buyer's demands.
use Prim.Native.Nat.{ℕ, ◌+◌, ◌*◌, ◌≤◌, ◌<◌}
use Rattle.std.specs.Prelude.{◌≡◌, refl, Bool, true, false, cond, ◌↔◌, length, get_or, take, drop, eqb}
use Rattle.std.proofs.Common.{sym, ap₂, ◌∙◌, arith, mul-le-mul, take-append-drop, eqb-true, eq-eqb}
use Rattle.std.proofs.Math.Path.{ap, subst}
use mathlib.Core.List.{List, [], ◌∷◌, ◌++◌, map}
use Rattle.std.proofs.Math.Option.{Option, none, some}
use Rattle.std.proofs.Math.Seq.{length-take-le}
use Rattle.spec.specs.Bytes.{Bytes, Bits, blocks, le32, unpack}
use Rattle.spec.specs.Leaves.{real, reals}
use Rattle.spec.specs.Image.{slot_width, Row, marked, Bodies, in_order, write_records}
use Rattle.spec.specs.Frame.{has_header, read_bodies, named, rows_of, read_settings, read_counts, Parts, parts}
use Rattle.spec.specs.Nodes.{Node, nodes_of, levels_of, leaves_of, read_nodes, read_leaves}
use Rattle.spec.specs.Check.{no_spare, spare_clear, verdict}
use Rattle.spec.specs.Struck.{real_slots, struck_slots, slots_body, struck_bodies, struck_header, struck}
use Rattle.theory.specs.Terms.{All, IsBytes}
use Rattle.theory.proofs.Lists.{bytes_append, bytes_take, bytes_drop, bytes_le32}
use Rattle.theory.proofs.Frame.{Paired, read_paired, read_bodies_some, read_bodies_write, bytes_split, bytes_bodies}
use Rattle.theory.proofs.Bits.{length_unpack, length_pack, unpack_pack, unpack_at}
use Rattle.theory.specs.Demands.{Passes16, ExactSlotsZero, SpareBitsZero}
use Rattle.theory.proofs.CheckStages.{passes_verdict, verdict_passes}
use Rattle.theory.proofs.ReadBack.{read_nodes_bodies}
use Rattle.theory.proofs.ImageBytes.{bytes_pack}
use Rattle.theory.proofs.StruckNodes.{strike, strike_levels, strike_leaves}
use Rattle.theory.proofs.StruckParts.{length_real, real_append, unhashed, HeaderStruck, header_struck, found_long, read_short, bodies_named, with_slots_body, paired_slots, all_slots, struck_parts, nodes_struck, trie_count, header_tests, PartsPass, pass_exact, SlotsBodies, pass_struck, pass_back}

-- ---- what is left of bytes

-- the real bits of the slots of bytes with these bodies
abbrev real_bits : Bytes → Bodies → Bits
real_bits s b = real_slots (read_settings s).hash_width (read_settings s).real_width (read_counts s).leaves (unpack b.SV)

-- SV without hash bits
abbrev slots_struck : Bytes → Bodies → Bytes
slots_struck s b = struck_slots (read_settings s) (read_counts s).leaves b.SV

-- the bodies under their marks, SV without hash bits
abbrev named_struck : Bytes → Bodies → Bodies
named_struck s b = with_slots_body b (slots_struck s b)

-- the header and the records without hash bits
abbrev image_struck : Bytes → Bodies → List Bytes → Bytes
image_struck s b rest = struck_header s ++ write_records (rows_of s) (in_order (named_struck s b) ++ rest)

-- the bytes have these bodies behind their header, of which SV is as long as its slots
record HasSlots (s : Bytes) (b : Bodies) (rest : List Bytes) : Type 0 where
  found : read_bodies (rows_of s) (drop 22 s) ≡ some (in_order b ++ rest)
  size : length b.SV ≡ blocks 8 ((read_counts s).leaves * slot_width (read_settings s))

has_slots : (s : Bytes) (bs : List Bytes) → read_bodies (rows_of s) (drop 22 s) ≡ some bs → length (slots_body bs) ≡ blocks 8 ((read_counts s).leaves * slot_width (read_settings s)) → HasSlots s (named bs) (drop 12 bs)
unfolding named
has_slots s bs e z = record { found = e ∙ ap some (bodies_named (get_or s 2 0) bs (read_paired (rows_of s) (drop 22 s) bs e)); size = z }

-- what is left of bytes by the bodies that are read
abbrev struck_of : Bytes → Option (List Bytes) → Bytes
struck_of s none = s
struck_of s (some bs) =
    cond (eqb (length (slots_body bs)) (blocks 8 ((read_counts s).leaves * slot_width (read_settings s)))) (struck_header s ++ write_records (rows_of s) (struck_bodies (read_settings s) (read_counts s).leaves bs)) s

struck_by : (s : Bytes) (o : Option (List Bytes)) → read_bodies (rows_of s) (drop 22 s) ≡ o → struck s ≡ struck_of s o
unfolding struck
struck_by s o e = same (read_bodies (rows_of s) (drop 22 s)) ∙ ap (struck_of s) e
  where
    same : (o : Option (List Bytes))
        → ◌≡◌ {A = Bytes} (elim o [ none ↦ s | some bs ↦ cond (eqb (length (slots_body bs)) (blocks 8 ((read_counts s).leaves * slot_width (read_settings s)))) (struck_header s ++ write_records (rows_of s) (struck_bodies (read_settings s) (read_counts s).leaves bs)) s ]) (struck_of s o)
    same none = refl
    same (some bs) = refl

-- Bytes have slots, or nothing is struck out.
by_slots : {A : Type 0} (s : Bytes) → (struck s ≡ s → A) → ((b : Bodies) (rest : List Bytes) → HasSlots s b rest → A) → A
by_slots {A} s f g = go (read_bodies (rows_of s) (drop 22 s)) refl
  where
    size : ℕ
    size = blocks 8 ((read_counts s).leaves * slot_width (read_settings s))

    judge : (bs : List Bytes) → read_bodies (rows_of s) (drop 22 s) ≡ some bs → (t : Bool) → eqb (length (slots_body bs)) size ≡ t → A
    judge bs e true z = g (named bs) (drop 12 bs) (has_slots s bs e (eqb-true (length (slots_body bs)) size z))
    judge bs e false z = f (struck_by s (some bs) e ∙ rw z)

    go : (o : Option (List Bytes)) → read_bodies (rows_of s) (drop 22 s) ≡ o → A
    go none e = f (struck_by s none e)
    go (some bs) e = judge bs e (eqb (length (slots_body bs)) size) refl

-- ---- bytes with slots

parts_from : (s u : Bytes) (b : Bodies) (sv : Bytes) → read_settings u ≡ unhashed (read_settings s) → read_counts u ≡ read_counts s
    → take ((read_counts s).leaves * slot_width (unhashed (read_settings s))) (unpack sv) ≡ real_slots (read_settings s).hash_width (read_settings s).real_width (read_counts s).leaves (take ((read_counts s).leaves * slot_width (read_settings s)) (unpack b.SV))
    → parts u (with_slots_body b sv) ≡ struck_parts (parts s b)
unfolding parts
parts_from s u b sv e f g = rw (e, f, g)

module _ (s : Bytes) (b : Bodies) (rest : List Bytes) (i : HasSlots s b rest) where
  -- What is left are the header and the records without hash bits.
  struck_is : struck s ≡ image_struck s b rest
  unfolding struck_bodies
  struck_is = struck_by s (some (in_order b ++ rest)) i.found ∙ rw (eq-eqb (length b.SV) (blocks 8 ((read_counts s).leaves * slot_width (read_settings s))) i.size)

  fields : HeaderStruck s (write_records (rows_of s) (in_order (named_struck s b) ++ rest))
  fields = header_struck s (write_records (rows_of s) (in_order (named_struck s b) ++ rest)) (found_long s (in_order b ++ rest) i.found)

  enough : (read_counts s).leaves * slot_width (read_settings s) ≤ length (unpack b.SV)
  enough = omega (arith, length_unpack b.SV, i.size)

  real_size : length (real_bits s b) ≡ (read_counts s).leaves * slot_width (unhashed (read_settings s))
  real_size =
      let z : (read_settings s).real_width ≡ 0 + (read_settings s).real_width = omega arith in
      length_real (read_settings s).hash_width (read_settings s).real_width (read_counts s).leaves (unpack b.SV) enough ∙ ap (λ (n : ℕ). (read_counts s).leaves * n) z

  -- Its parts are the parts without hash bits.
  parts_struck : parts (image_struck s b rest) (named_struck s b) ≡ struck_parts (parts s b)
  unfolding struck_slots
  parts_struck =
      let k : ℕ = (read_counts s).leaves * slot_width (read_settings s) in
      let sv : Bits = unpack b.SV in
      parts_from s (image_struck s b rest) b (slots_struck s b) fields.settings fields.counts
      (unpack_at ((read_counts s).leaves * slot_width (unhashed (read_settings s))) (real_bits s b) real_size
      ∙ ap (real_slots (read_settings s).hash_width (read_settings s).real_width (read_counts s).leaves) (sym (take-append-drop k sv))
      ∙ real_append (read_settings s).hash_width (read_settings s).real_width (read_counts s).leaves (take k sv) (drop k sv) (omega (arith, length-take-le k sv enough)))

  struck_size : length (slots_struck s b) ≡ blocks 8 ((read_counts s).leaves * slot_width (unhashed (read_settings s)))
  unfolding struck_slots
  struck_size = length_pack (real_bits s b) ∙ ap (blocks 8) real_size

  slots_bodies : SlotsBodies (parts s b) b (slots_struck s b)
  unfolding parts struck_slots
  slots_bodies = record {
    enough = omega (arith, length-take-le ((read_counts s).leaves * slot_width (read_settings s)) (unpack b.SV) enough);
    size = i.size;
    struck_size = struck_size;
    struck_spare = subst (λ (k : ℕ). no_spare k (slots_struck s b) ≡ true) real_size (unpack_pack (real_bits s b)).1;
  }

  shorter : length (slots_struck s b) ≤ length b.SV
  shorter =
      let m : (read_counts s).leaves * slot_width (unhashed (read_settings s)) ≤ (read_counts s).leaves * slot_width (read_settings s) = mul-le-mul (omega arith) (omega arith) in
      omega (arith, struck_size, i.size)

  -- Its bodies are the bodies without hash bits.
  found_struck : IsBytes s → read_bodies (rows_of (image_struck s b rest)) (drop 22 (image_struck s b rest)) ≡ some (in_order (named_struck s b) ++ rest)
  found_struck w =
      let short = read_short (rows_of s) (drop 22 s) (in_order b ++ rest) (bytes_drop 22 s w) i.found in
      ap₂ read_bodies fields.rows fields.behind
      ∙ read_bodies_write (rows_of s) (in_order (named_struck s b) ++ rest) (paired_slots b (slots_struck s b) rest (get_or s 2 0) (read_paired (rows_of s) (drop 22 s) (in_order b ++ rest) i.found))
      (all_slots b (slots_struck s b) rest (λ c. length c < 4294967296) (omega (arith, shorter, short.1.1.1.1.1.1.0)) short)

-- ---- the two verdicts

same_bodies : (s : Bytes) (bs cs : List Bytes) → read_bodies (rows_of s) (drop 22 s) ≡ some bs → read_bodies (rows_of s) (drop 22 s) ≡ some cs → bs ≡ cs
same_bodies s bs cs e f = cc

-- An accepted image has slots.
accepted_slots : (s : Bytes) → verdict s ≡ 0 → (b : Bodies) × (rest : List Bytes) × HasSlots s b rest
unfolding parts
accepted_slots s h =
    let v = verdict_passes s h in
    let header = v.1.before.before.before.before in
    (named v.0, drop 12 v.0, has_slots s v.0 header.before.bodies (header_tests (parts s (named v.0)) v.0 header.header).1)

module _ (s : Bytes) (b : Bodies) (rest : List Bytes) (found : read_bodies (rows_of s) (drop 22 s) ≡ some (in_order b ++ rest)) where
  -- What the check finds of an accepted image.
  verdict_parts : verdict s ≡ 0 → (has_header s ≡ true) × PartsPass (parts s b) b rest
  unfolding named parts
  verdict_parts h =
      let v = verdict_passes s h in
      let a = subst (Passes16 s) (same_bodies s v.0 (in_order b ++ rest) v.1.before.before.before.before.before.bodies found) v.1 in
      let tables = a.before in
      let trie = tables.before in
      let spare = trie.before in
      (spare.before.before.header, record { header = spare.before.header; spare = spare.spare; trie = trie.trie; tables = tables.tables; slots = a.slots })

  -- An image of which it finds that is accepted.
  parts_verdict : has_header s ≡ true → PartsPass (parts s b) b rest → verdict s ≡ 0
  unfolding named parts
  parts_verdict m a = passes_verdict s (in_order b ++ rest) (record {
    before = record {
      before = record {
        before = record { before = record { before = record { header = m; bodies = found }; header = a.header }; spare = a.spare };
        trie = a.trie;
      };
      tables = a.tables;
    };
    slots = a.slots;
  })

  -- The nodes are those of the parts.
  nodes_read : read_nodes s ≡ nodes_of (parts s b)
  unfolding named
  nodes_read = read_nodes_bodies s (in_order b ++ rest) found

  -- No spare bit is set if none is in the bodies that are read.
  spare_zero : spare_clear (parts s b) b ≡ true → SpareBitsZero s
  unfolding named
  spare_zero h bs e = subst (λ (z : List Bytes). spare_clear (parts s (named z)) (named z) ≡ true) (same_bodies s (in_order b ++ rest) bs found e) h

  -- And back.
  zero_spare : SpareBitsZero s → spare_clear (parts s b) b ≡ true
  unfolding named
  zero_spare h = h (in_order b ++ rest) found

-- An image is accepted exactly if the slots of its exact leaves and its spare bits are zero and it is accepted with its hash bits struck out.
pub struck_accepted : (s : Bytes) → IsBytes s → (read_settings s).hash_width ≤ 16 → (verdict s ≡ 0) ↔ (ExactSlotsZero s × SpareBitsZero s × (verdict (struck s) ≡ 0))
unfolding parts
struck_accepted s w small = (to, from)
  where
    to : verdict s ≡ 0 → ExactSlotsZero s × SpareBitsZero s × (verdict (struck s) ≡ 0)
    to h =
        let v = accepted_slots s h in
        let b = v.0 in
        let rest = v.1 in
        let i = v.2 in
        let a = verdict_parts s b rest i.found h in
        let c = subst (λ (q : Parts). PartsPass q (named_struck s b) rest) (sym (parts_struck s b rest i)) (pass_struck (parts s b) b (slots_struck s b) rest (slots_bodies s b rest i) a.1) in (
          rw (nodes_read s b rest i.found) (pass_exact (parts s b) b rest a.1),
          spare_zero s b rest i.found a.1.spare,
          ap verdict (struck_is s b rest i) ∙ parts_verdict (image_struck s b rest) (named_struck s b) rest (found_struck s b rest i w) ((fields s b rest i).marked ∙ a.0) c,
        )

    back : ExactSlotsZero s × SpareBitsZero s × (verdict (struck s) ≡ 0) → (b : Bodies) (rest : List Bytes) → HasSlots s b rest → verdict s ≡ 0
    back z b rest i =
        let a = verdict_parts (image_struck s b rest) (named_struck s b) rest (found_struck s b rest i w) (ap verdict (sym (struck_is s b rest i)) ∙ z.2) in
        let c = subst (λ (q : Parts). PartsPass q (named_struck s b) rest) (parts_struck s b rest i) a.1 in
        parts_verdict s b rest i.found (sym (fields s b rest i).marked ∙ a.0)
        (pass_back (parts s b) b (slots_struck s b) rest (slots_bodies s b rest i) small (zero_spare s b rest i.found z.1) (rw (nodes_read s b rest i.found) at z.0) c)

    from : ExactSlotsZero s × SpareBitsZero s × (verdict (struck s) ≡ 0) → verdict s ≡ 0
    from z = by_slots s (λ e. ap verdict (sym e) ∙ z.2) (back z)

-- ---- settings, leaves and bytes

-- The settings of an accepted image with its hash bits struck out are its own, but for h, which is 0.
pub struck_settings : (s : Bytes) → IsBytes s → verdict s ≡ 0 → read_settings (struck s) ≡ unhashed (read_settings s)
struck_settings s w h =
    let v = accepted_slots s h in
    ap read_settings (struck_is s v.0 v.1 v.2) ∙ (fields s v.0 v.1 v.2).settings

leaves_read : (s : Bytes) → read_leaves s ≡ leaves_of (levels_of (read_nodes s))
unfolding read_leaves
leaves_read s = refl

-- The leaves of an accepted image with its hash bits struck out are its own, their hash bits struck out.
pub struck_leaves : (s : Bytes) → IsBytes s → verdict s ≡ 0 → read_leaves (struck s) ≡ reals (read_settings s).hash_width (read_leaves s)
unfolding parts reals
struck_leaves s w h =
    let v = accepted_slots s h in
    let b = v.0 in
    let rest = v.1 in
    let i = v.2 in
    let k : ℕ = (read_settings s).hash_width in
    let count = trie_count (parts s b) (verdict_parts s b rest i.found h).1.trie in
    let nodes : read_nodes (struck s) ≡ map (strike k) (read_nodes s) =
    ap read_nodes (struck_is s b rest i)
    ∙ nodes_read (image_struck s b rest) (named_struck s b) rest (found_struck s b rest i w)
    ∙ ap nodes_of (parts_struck s b rest i)
    ∙ nodes_struck (parts s b) (slots_bodies s b rest i).enough count
    ∙ ap (map (strike k)) (sym (nodes_read s b rest i.found)) in
    leaves_read (struck s) ∙ ap (λ (ns : List Node). leaves_of (levels_of ns)) nodes ∙ ap leaves_of (strike_levels k (read_nodes s)) ∙ strike_leaves k (levels_of (read_nodes s)) ∙ ap (map (real k)) (sym (leaves_read s))

-- Records that are bytes are so with other bodies of bytes.
bytes_other : (rs : List Row) (bs cs : List Bytes) → Paired rs bs → IsBytes (write_records rs bs) → All IsBytes cs → IsBytes (write_records rs cs)
unfolding write_records
bytes_other [] bs cs p h e = tt
bytes_other (r ∷ rs) [] cs p h e = absurd p
bytes_other (r ∷ rs) (b ∷ bs) [] p h e = tt
bytes_other (r ∷ rs) (b ∷ bs) (c ∷ cs) p h e =
    let q = bytes_split (marked r.first r.second b) (write_records rs bs) h in
    bytes_append (marked r.first r.second c) (write_records rs cs) (q.0.0, (q.0.1.0, bytes_append (le32 (length c)) c (bytes_le32 (length c)) e.0)) (bytes_other rs bs cs p q.1 e.1)

-- What is left of bytes is bytes.
pub struck_bytes : (s : Bytes) → IsBytes s → IsBytes (struck s)
unfolding struck_header struck_slots
struck_bytes s w = by_slots s (λ e. subst IsBytes (sym e) w) go
  where
    go : (b : Bodies) (rest : List Bytes) → HasSlots s b rest → IsBytes (struck s)
    go b rest i =
        let bs : List Bytes = in_order b ++ rest in
        let cs : List Bytes = in_order (named_struck s b) ++ rest in
        let paired = read_paired (rows_of s) (drop 22 s) bs i.found in
        let records : IsBytes (write_records (rows_of s) bs) = subst IsBytes (read_bodies_some (rows_of s) (drop 22 s) bs (bytes_drop 22 s w) i.found) (bytes_drop 22 s w) in
        let header : IsBytes (struck_header s) = bytes_append (take 5 s) (0 ∷ take 16 (drop 6 s)) (bytes_take 5 s w) (omega arith, bytes_take 16 (drop 6 s) (bytes_drop 6 s w)) in
        let bodies : All IsBytes cs = all_slots b (slots_struck s b) rest IsBytes (bytes_pack (real_bits s b)) (bytes_bodies (rows_of s) bs paired records) in
        subst IsBytes (sym (struck_is s b rest i)) (bytes_append (struck_header s) (write_records (rows_of s) cs) header (bytes_other (rows_of s) bs cs paired records bodies))
