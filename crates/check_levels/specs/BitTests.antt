-- Number 14 said of the bits and labels alone, without a list of nodes: what the check judges. `builders_trie_is` says that it is document 01's.
use Prim.Native.Nat.{ℕ, suc, ◌+◌, ◌-◌, ◌*◌, ◌<◌, ◌≤◌}
use Rattle.std.specs.Prelude.{◌≡◌, Bool, take, drop}
use Rattle.std.proofs.Math.Path.{refl, ap, ap₂}
use Rattle.std.proofs.Common.{sym, ◌∙◌, true≢false, arith, length-append, take_all}
use Rattle.std.proofs.Math.Bool.{true, false, cond, ◌&&◌, and_assoc, and-true}
use mathlib.Core.List.{List, [], ◌∷◌, ◌++◌, map}
use Rattle.std.proofs.Math.ListN.{length}
use Rattle.std.proofs.lemmas.List.{length-map, take-append-le}
use Rattle.std.proofs.Math.Seq.{take-nil, take-append-add}
use Rattle.std.proofs.Math.Dec.{leb, ltb, eqb}
use borrow.Author.Tests.{eqb-true, eqb-false, eq-eqb, ne_eqb, leb-true, leb-false}
use Rattle.spec.specs.Bytes.{Bytes, Bits, all, every, count, ones}
use Rattle.spec.specs.Image.{slot_width}
use Rattle.spec.specs.Frame.{Parts}
use Rattle.spec.specs.Nodes.{Entry, entry, continues, Shape, dense_shapes, zip_entries, split, sparse_shape, extra_ends, sparse_nodes, nodes_of, slotted, total}
use Rattle.spec.specs.Trie.{first_set, covered, nodes_valid, builders_trie}
use Rattle.check_levels.specs.Tests.{under, all_append}
use Rattle.check_levels.specs.LevelEnds.{before, rise, nodes_above, rise_ext, nodes_above_ext, end_tests}
use Rattle.check_levels.specs.Shapes.{ends_here, branches, leaves_at, non_root_valid, root_valid, nodes_from, shapes_valid, nodes_shapes}
use Rattle.check_levels.specs.SparseNodes.{entries_valid, entries_shapes, length_split, position_of, branches_before, leaves_among, leaves_before}
use Rattle.check_levels.specs.DenseNodes.{nodes_from_false, dense_nodes_valid, dense_shapes_valid, length_dense, dense_before, dense_leaves}
use Rattle.theory.proofs.Lists.{and_both}
use Rattle.theory.proofs.Levels.{total_append}

-- the lengths that number 12 gives the bits and labels
pub record Sized (p : Parts) : Type 0 where
  pub dl : length p.dl ≡ 256 * p.counts.dense_nodes
  pub dc : length p.dc ≡ 256 * p.counts.dense_nodes
  pub dp : length p.dp ≡ p.counts.dense_nodes
  pub sl : length p.sl ≡ p.counts.sparse_entries
  pub sc : length p.sc ≡ p.counts.sparse_entries
  pub sb : length p.sb ≡ p.counts.sparse_entries
  pub dense : p.settings.dense_levels ≤ 4

-- the sparse entries, the first of which is in the root or not
unfoldable pub sparse_valid : Bool → List Entry → Bits → Bool
unfolding entries_valid
sparse_valid root [] bs = true
sparse_valid root (e ∷ es) bs = entries_valid root true e es (drop 1 bs)

-- the branches that continue before node i: D-HasChild bits before a dense node's own, and S-HasChild bits before a sparse node's first entry
unfoldable pub branches_to : ℕ → Bits → Bits → Bits → ℕ → ℕ
unfolding position_of
branches_to n dc sc sb i = cond (leb i n) (ones (take (256 * i) dc)) (ones dc + ones (take (position_of (i - n) sb) sc))

-- the counts agree: no leaves means no nodes; else the leaves are labels that do not continue and exact leaves, there is one, nodes are continuing branches plus one,
-- and the ends of the levels rise to the node count in 64 levels, the dense nodes above
unfoldable pub counts_valid : Parts → Bool
unfolding ones rise nodes_above branches_to
counts_valid p =
    let n : ℕ = p.counts.dense_nodes + p.counts.sparse_nodes in
    let k : ℕ → ℕ = branches_to p.counts.dense_nodes p.dc p.sc p.sb in
    cond (eqb n 0) (eqb p.counts.leaves 0)
    (eqb (ones p.dl + ones p.dp + p.counts.sparse_entries) (p.counts.leaves + ones p.dc + ones p.sc)
    && ltb 0 p.counts.leaves
    && (eqb n (ones p.dc + ones p.sc + 1) && (rise k n 63 1 && eqb (nodes_above k n p.settings.dense_levels) p.counts.dense_nodes)))

-- number 14 by the bits
unfoldable pub bits_valid : Parts → Bool
unfolding first_set ones covered sparse_valid dense_nodes_valid counts_valid
bits_valid p =
    first_set p.sb && eqb (ones p.sb) p.counts.sparse_nodes && covered p.dc p.dl
    && (sparse_valid (eqb p.counts.dense_nodes 0) (zip_entries p.sl p.sc) p.sb
    && dense_nodes_valid true p.dl p.dc p.dp
    && counts_valid p)

-- ---- the nodes

-- the tests of two lists of nodes
from_append : (hs gs : List Shape) → nodes_from true (hs ++ gs) ≡ nodes_from true hs && nodes_from (eqb (length hs) 0) gs
unfolding nodes_from all
from_append [] gs = refl
from_append (h ∷ hs) gs =
    rw (ne_eqb (suc (length hs)) 0 (λ q. omega arith), all_append non_root_valid hs gs)
    (sym (and_assoc (root_valid h) (all non_root_valid hs) (all non_root_valid gs)) ∙ ap (λ (t : Bool). root_valid h && all non_root_valid hs && t) (nodes_from_false gs))

pub continues_zip : (xs : Bytes) (cs : Bits) → length xs ≡ length cs → map continues (zip_entries xs cs) ≡ cs
unfolding zip_entries
continues_zip [] [] h = refl
continues_zip [] (c ∷ cs) h = absurd (omega arith)
continues_zip (x ∷ xs) [] h = absurd (omega arith)
continues_zip (x ∷ xs) (c ∷ cs) h = ap (λ (z : Bits). c ∷ z) (continues_zip xs cs (omega arith))

pub length_zip : (xs : Bytes) (cs : Bits) → length xs ≡ length cs → length (zip_entries xs cs) ≡ length cs
length_zip xs cs h = sym (length-map (zip_entries xs cs) continues) ∙ ap length (continues_zip xs cs h)

-- entries that end, and those that continue
pub count_both : (es : List Entry) → count ends_here es + ones (map continues es) ≡ length es
unfolding count ones
count_both [] = refl
count_both (entry x true ∷ es) = omega (arith, count_both es)
count_both (entry x false ∷ es) = omega (arith, count_both es)

-- ---- sparse nodes, of entries and S-LOUDS bits

pub record SparseCounts (es : List Entry) (bs : Bits) : Type 0 where
  pub number : length (split es bs) ≡ ones bs
  pub branches_are : (m : ℕ) → total branches (take m (map sparse_shape (split es bs))) ≡ ones (take (position_of m bs) (map continues es))
  pub leaves_are : total leaves_at (map sparse_shape (split es bs)) + ones (map continues es) ≡ length es
  pub leaves_to : (m : ℕ) → total leaves_at (take m (map sparse_shape (split es bs))) + ones (take (position_of m bs) (map continues es)) ≡ position_of m bs

sparse_counts : (es : List Entry) (bs : Bits) → length es ≡ length bs → first_set bs ≡ true → all extra_ends (split es bs) ≡ true → SparseCounts es bs
unfolding split first_set ones position_of total
sparse_counts [] [] h f a = record { number = refl; branches_are = λ m. rw (take-nil m); leaves_are = refl; leaves_to = λ m. rw (take-nil m) }
sparse_counts [] (b ∷ bs) h f a = absurd (omega arith)
sparse_counts (e ∷ es) [] h f a = absurd (omega arith)
sparse_counts (e ∷ es) (false ∷ bs) h f a = absurd (true≢false (sym f))
sparse_counts (e ∷ es) (true ∷ bs) h f a = record {
  number = length_split e es bs (omega arith) ∙ omega arith;
  branches_are = λ m. branches_before m e es bs (omega arith) a;
  leaves_are = ap (λ (k : ℕ). k + ones (map continues (e ∷ es))) (leaves_among e es bs (omega arith) a) ∙ count_both (e ∷ es);
  leaves_to = λ m. leaves_before m e es bs (omega arith) a;
}

pub sparse_from : (root : Bool) (es : List Entry) (bs : Bits) → sparse_valid root es bs ≡ all extra_ends (split es bs) && nodes_from root (map sparse_shape (split es bs))
unfolding sparse_valid split all nodes_from
sparse_from root [] bs = refl
sparse_from root (e ∷ es) bs = entries_shapes root e es (drop 1 bs)

-- ---- both forms

eqb_sum : (x a b c l : ℕ) → x + b + c ≡ a → eqb x l ≡ eqb a (l + b + c)
eqb_sum x a b c l h = go (eqb x l) refl
  where
    go : (t : Bool) → eqb x l ≡ t → t ≡ eqb a (l + b + c)
    go true e = sym (eq-eqb a (l + b + c) (omega (arith, eqb-true x l e)))
    go false e = sym (ne_eqb a (l + b + c) (λ q. eqb-false x l e (omega arith)))

position_all : (bs : Bits) → position_of (ones bs) bs ≡ length bs
unfolding position_of ones
position_all [] = refl
position_all (true ∷ bs) = let e : 1 + ones bs ≡ suc (ones bs) = omega arith in rw e (ap suc (position_all bs))
position_all (false ∷ bs) = let e : 0 + ones bs ≡ ones bs = omega arith in rw e (ap suc (position_all bs))

shuffle : (x n d f : Bool) → x && (n && (d && f)) ≡ x && f && d && n
shuffle true true true true = refl
shuffle true true true false = refl
shuffle true true false true = refl
shuffle true true false false = refl
shuffle true false true true = refl
shuffle true false true false = refl
shuffle true false false true = refl
shuffle true false false false = refl
shuffle false n d f = refl

module _ (p : Parts) (z : Sized p) where
  abbrev pub D : List Shape
  D = dense_shapes p.dl p.dc p.dp

  abbrev pub es : List Entry
  es = zip_entries p.sl p.sc

  abbrev pub S : List Shape
  S = map sparse_shape (split es p.sb)

  abbrev pub N : ℕ
  N = p.counts.dense_nodes + p.counts.sparse_nodes

  abbrev pub K : ℕ → ℕ
  K = branches_to p.counts.dense_nodes p.dc p.sc p.sb

  pub bits_of_entries : map continues es ≡ p.sc
  bits_of_entries = continues_zip p.sl p.sc (z.sl ∙ sym z.sc)

  pub number_of_entries : length es ≡ p.counts.sparse_entries
  number_of_entries = length_zip p.sl p.sc (z.sl ∙ sym z.sc) ∙ z.sc

  pub long_dl : length p.dl ≡ 256 * length p.dp
  long_dl = omega (arith, z.dl, z.dp)

  pub long_dc : length p.dc ≡ 256 * length p.dp
  long_dc = omega (arith, z.dc, z.dp)

  pub long_D : length D ≡ p.counts.dense_nodes
  long_D = length_dense p.dl p.dc p.dp ∙ z.dp

  module _ (first : first_set p.sb ≡ true) (set : ones p.sb ≡ p.counts.sparse_nodes) (within : covered p.dc p.dl ≡ true) (extra : all extra_ends (split es p.sb) ≡ true) where
    pub sparse : SparseCounts es p.sb
    sparse = sparse_counts es p.sb (number_of_entries ∙ sym z.sb) first extra

    long_S : length S ≡ p.counts.sparse_nodes
    long_S = length-map (split es p.sb) sparse_shape ∙ sparse.number ∙ set

    pub long : length (D ++ S) ≡ N
    long = length-append D S ∙ ap₂ ◌+◌ long_D long_S

    total_D : total branches D ≡ ones p.dc
    total_D =
        ap (total branches) (sym (take_all p.counts.dense_nodes D (omega (arith, long_D)))) ∙ dense_before p.counts.dense_nodes p.dl p.dc p.dp long_dl long_dc within
        ∙ ap ones (take_all (256 * p.counts.dense_nodes) p.dc (omega (arith, z.dc)))

    total_S : total branches S ≡ ones p.sc
    total_S =
        ap (total branches) (sym (take_all (ones p.sb) S (omega (arith, long_S, set)))) ∙ sparse.branches_are (ones p.sb)
        ∙ ap₂ (λ (k : ℕ) (b : Bits). ones (take k b)) (position_all p.sb ∙ z.sb) bits_of_entries ∙ ap ones (take_all p.counts.sparse_entries p.sc (omega (arith, z.sc)))

    pub total_all : total branches (D ++ S) ≡ ones p.dc + ones p.sc
    total_all = total_append branches D S ∙ ap₂ ◌+◌ total_D total_S

    pub before_all : (i : ℕ) → before branches (D ++ S) i ≡ K i
    unfolding branches_to
    before_all i = go (leb i p.counts.dense_nodes) refl
      where
        go : (b : Bool) → leb i p.counts.dense_nodes ≡ b
            → total branches (take i (D ++ S)) ≡ cond b (ones (take (256 * i) p.dc)) (ones p.dc + ones (take (position_of (i - p.counts.dense_nodes) p.sb) p.sc))
        go true e =
            ap (total branches) (take-append-le i D S (omega (arith, leb-true i p.counts.dense_nodes e, long_D)))
            ∙ dense_before i p.dl p.dc p.dp long_dl long_dc within
        go false e =
            let m : ℕ = i - p.counts.dense_nodes in
            let q : length D + m ≡ i = omega (arith, leb-false i p.counts.dense_nodes e, long_D) in
            ap (λ (k : ℕ). total branches (take k (D ++ S))) (sym q) ∙ ap (total branches) (take-append-add D S m) ∙ total_append branches D (take m S)
            ∙ ap₂ ◌+◌ total_D (sparse.branches_are m ∙ ap (λ (b : Bits). ones (take (position_of m p.sb) b)) bits_of_entries)

    pub leaves_all : total leaves_at (D ++ S) + ones p.dc + ones p.sc ≡ ones p.dl + ones p.dp + p.counts.sparse_entries
    leaves_all =
        omega (
          arith,
          total_append leaves_at D S,
          dense_leaves p.dl p.dc p.dp long_dl long_dc within,
          sparse.leaves_are,
          ap ones bits_of_entries,
          number_of_entries,
        )

    ends_all : 0 < N → end_tests branches (D ++ S) p.settings.dense_levels p.counts.dense_nodes ≡ (rise K N 63 1 && eqb (nodes_above K N p.settings.dense_levels) p.counts.dense_nodes)
    ends_all l =
        ap₂ ◌&&◌ (ap (λ (n : ℕ). rise (before branches (D ++ S)) n 63 1) long ∙ rise_ext (before branches (D ++ S)) K N (λ e u. before_all e) 63 1 (omega arith))
        (ap (λ (n : ℕ). eqb n p.counts.dense_nodes) (ap (λ (n : ℕ). nodes_above (before branches (D ++ S)) n p.settings.dense_levels) long ∙ nodes_above_ext (before branches (D ++ S)) K N (λ e u. before_all e) p.settings.dense_levels))

    -- the tests of the nodes, in two parts
    in_parts : shapes_valid p.settings.dense_levels p.counts.dense_nodes p.counts.leaves (D ++ S) ≡ counts_valid p && nodes_from true (D ++ S)
    unfolding shapes_valid counts_valid nodes_from
    in_parts = go (D ++ S) refl
      where
        go : (hs : List Shape) → D ++ S ≡ hs → shapes_valid p.settings.dense_levels p.counts.dense_nodes p.counts.leaves hs ≡ counts_valid p && nodes_from true hs
        go [] q = rw (eq-eqb N 0 (sym long ∙ ap length q)) (sym (and-true (eqb p.counts.leaves 0)))
        go (h ∷ hs) q =
            let some : 0 < N = omega (arith, long, ap length q) in
            rw (ne_eqb N 0 (λ e. omega arith))
            (ap (λ (t : Bool). t && nodes_from true (h ∷ hs))
            (ap₂ ◌&&◌
            (ap (λ (t : Bool). t && ltb 0 p.counts.leaves) (ap (λ (gs : List Shape). eqb (total leaves_at gs) p.counts.leaves) (sym q) ∙ eqb_sum (total leaves_at (D ++ S)) (ones p.dl + ones p.dp + p.counts.sparse_entries) (ones p.dc) (ones p.sc) p.counts.leaves leaves_all))
            (ap₂ ◌&&◌ (ap₂ (λ (a b : ℕ). eqb a (b + 1)) (ap length (sym q) ∙ long) (ap (total branches) (sym q) ∙ total_all))
            (ap (λ (gs : List Shape). end_tests branches gs p.settings.dense_levels p.counts.dense_nodes) (sym q) ∙ ends_all some))))

    dense_and_sparse : nodes_from true (D ++ S) ≡ dense_nodes_valid true p.dl p.dc p.dp && nodes_from (eqb p.counts.dense_nodes 0) S
    dense_and_sparse =
        from_append D S ∙ ap₂ ◌&&◌ (dense_shapes_valid true p.dl p.dc p.dp long_dl long_dc within) (ap (λ (n : ℕ). nodes_from (eqb n 0) S) long_D)

    nodes_all : shapes_valid p.settings.dense_levels p.counts.dense_nodes p.counts.leaves (D ++ S) ≡ counts_valid p && (dense_nodes_valid true p.dl p.dc p.dp && nodes_from (eqb p.counts.dense_nodes 0) S)
    nodes_all = in_parts ∙ ap (λ (t : Bool). counts_valid p && t) dense_and_sparse

  -- Number 14 is judged by the bits as document 01 says it of the nodes.
  pub builders_trie_is : builders_trie p ≡ bits_valid p
  unfolding builders_trie bits_valid sparse_nodes nodes_of every
  builders_trie_is =
      gather (first_set p.sb) (eqb (ones p.sb) p.counts.sparse_nodes) (covered p.dc p.dl) (all extra_ends (split es p.sb))
      (nodes_valid p.settings.dense_levels p.counts.dense_nodes p.counts.leaves (slotted (slot_width p.settings) (D ++ S) p.sv))
      ∙ under (first_set p.sb && eqb (ones p.sb) p.counts.sparse_nodes && covered p.dc p.dl)
      (all extra_ends (split es p.sb) && nodes_valid p.settings.dense_levels p.counts.dense_nodes p.counts.leaves (slotted (slot_width p.settings) (D ++ S) p.sv))
      (sparse_valid (eqb p.counts.dense_nodes 0) es p.sb && dense_nodes_valid true p.dl p.dc p.dp && counts_valid p) rest
    where
      gather : (a b c d e : Bool) → a && (b && (c && (d && (e && true)))) ≡ a && b && c && (d && e)
      gather true true true d e = ap (λ (t : Bool). d && t) (and-true e)
      gather true true false d e = refl
      gather true false c d e = refl
      gather false b c d e = refl

      rest : first_set p.sb && eqb (ones p.sb) p.counts.sparse_nodes && covered p.dc p.dl ≡ true
          → all extra_ends (split es p.sb) && nodes_valid p.settings.dense_levels p.counts.dense_nodes p.counts.leaves (slotted (slot_width p.settings) (D ++ S) p.sv)
          ≡ sparse_valid (eqb p.counts.dense_nodes 0) es p.sb && dense_nodes_valid true p.dl p.dc p.dp && counts_valid p
      rest h =
          let a = and_both (first_set p.sb && eqb (ones p.sb) p.counts.sparse_nodes) (covered p.dc p.dl) h in
          let b = and_both (first_set p.sb) (eqb (ones p.sb) p.counts.sparse_nodes) a.0 in
          ap (λ (t : Bool). all extra_ends (split es p.sb) && t) (nodes_shapes (slot_width p.settings) p.settings.dense_levels p.counts.dense_nodes p.counts.leaves (D ++ S) p.sv (omega (arith, z.dense)))
          ∙ under (all extra_ends (split es p.sb)) (shapes_valid p.settings.dense_levels p.counts.dense_nodes p.counts.leaves (D ++ S))
          (counts_valid p && (dense_nodes_valid true p.dl p.dc p.dp && nodes_from (eqb p.counts.dense_nodes 0) S))
          (λ x. nodes_all b.0 (eqb-true (ones p.sb) p.counts.sparse_nodes b.1) a.1 x)
          ∙ shuffle (all extra_ends (split es p.sb)) (counts_valid p) (dense_nodes_valid true p.dl p.dc p.dp) (nodes_from (eqb p.counts.dense_nodes 0) S)
          ∙ ap (λ (t : Bool). t && dense_nodes_valid true p.dl p.dc p.dp && counts_valid p) (sym (sparse_from (eqb p.counts.dense_nodes 0) es p.sb))
