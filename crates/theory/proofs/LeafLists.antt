-- Leaf lists that are realizable: in order, and each cut one byte behind what it shares with another.
-- Any choice of one possible key for each leaf of such a list ascends strictly and has just these leaves: the lists that build an image are the choices.
use Rattle.std.specs.Prelude.{ℕ, suc, ◌<◌, zero, ◌+◌, ◌-◌, ◌≡◌, refl, cond, Bool, true, false, not, List, [], ◌∷◌, ◌++◌, map, length, take, replicate, drop, T, ltb}
use Rattle.std.proofs.Common.{sym, ap, ap₂, ◌∙◌, true≢false, append-nil, lt-ltb}
use Rattle.std.proofs.Math.Bool.{or-true}
use Rattle.std.proofs.Math.Seq.{take-append_seam}
use Rattle.spec.specs.Bytes.{Bytes, any, filter, maximum, equal, begins, shared, Bits, clear}
use Rattle.spec.specs.Keys.{below}
use Rattle.spec.specs.Leaves.{Leaf, others, leaf, leaves, suffix_bits}
use Rattle.theory.specs.Terms.{Ascending, All, BelowAll, Key}
use Rattle.theory.proofs.Lists.{eqb_self, gt_eqb, lt_eqb}
use Rattle.theory.proofs.Order.{equal_self}

-- A leaf with cut key c, exact where e, stands before one with cut key d: c begins d, and is exact; or they part at a byte of both.
pub data Before (e : Bool) : Bytes → Bytes → Type 0 where
  inner : {y : ℕ} {ys : Bytes} → T e → Before e [] (y ∷ ys)
  less : {x y : ℕ} {xs ys : Bytes} → x < y → Before e (x ∷ xs) (y ∷ ys)
  step : {x : ℕ} {xs ys : Bytes} → Before e xs ys → Before e (x ∷ xs) (x ∷ ys)

-- a leaf's cut key
abbrev pub cut_key : Leaf → Bytes
cut_key l = l.cut

-- a leaf stands before each of a list
abbrev pub BeforeAll : Leaf → List Leaf → Type 0
BeforeAll l = All (λ m. Before l.exact l.cut m.cut)

-- each leaf stands before those behind it
abbrev pub Ordered : List Leaf → Type 0
Ordered [] = Unit
Ordered (l ∷ ls) = BeforeAll l ls × Ordered ls

-- A leaf list as a builder's trie has it: each kind, and each open leaf's length, is what the cut keys give.
pub record Shortest (n : ℕ) (ls : List Leaf) (l : Leaf) : Type 0 where
  pub kind : any (begins l.cut) (others (map cut_key ls) l.cut) ≡ l.exact
  pub size : l.exact ≡ false → suc (maximum (map (shared l.cut) (others (map cut_key ls) l.cut))) ≡ length l.cut
  pub blank : l.exact ≡ true → l.suffix ≡ replicate n false

-- A leaf list is realizable if it is ordered and each of its leaves is cut shortest.
pub record Realizable (n : ℕ) (ls : List Leaf) : Type 0 where
  pub ordered : Ordered ls
  pub shortest : All (Shortest n ls) ls

-- no bit is set past the byte R
abbrev pub ClearPast : ℕ → Bits → Type 0
ClearPast zero s = clear s ≡ true
ClearPast (suc R) s = ClearPast R (drop 8 s)

-- a leaf with a cut key of 1 to 64 bytes and a slot of n bits
pub record WellSized (n : ℕ) (l : Leaf) : Type 0 where
  pub key : Key l.cut
  pub slot : length l.suffix ≡ n

-- leaves with such cut keys and slots
abbrev pub AllWellSized : ℕ → List Leaf → Type 0
AllWellSized n = All (WellSized n)

-- no real bit of a leaf, behind its h hash bits, is set past its key's 64th byte
abbrev pub SpareClear : ℕ → Leaf → Type 0
SpareClear h l = ClearPast (64 - length l.cut) (drop h l.suffix)

-- a leaf of n real bits alone, as an accepted image without hash bits has it
pub record RealSized (n : ℕ) (l : Leaf) : Type 0 where
  pub key : Key l.cut
  pub spare : ClearPast (64 - length l.cut) l.suffix
  pub slot : length l.suffix ≡ n

-- leaves of real bits alone
abbrev pub AllRealSized : ℕ → List Leaf → Type 0
AllRealSized n = All (RealSized n)

-- ---- one possible key for each leaf

-- k is a possible key of l, which has h hash bits and n real bits: the cut key and a rest, which an exact leaf does not have and behind which an open one has the key's suffix
pub record PossibleKey (h n : ℕ) (l : Leaf) (k : Bytes) : Type 0 where
  pub rest : Bytes
  pub split : k ≡ l.cut ++ rest
  pub ends : T l.exact → rest ≡ []
  pub bits : l.exact ≡ false → suffix_bits h n (length l.cut) k ≡ l.suffix

-- one possible key for each leaf
pub data PossibleKeys (h n : ℕ) : List Leaf → List Bytes → Type 0 where
  done : PossibleKeys h n [] []
  also : {l : Leaf} {k : Bytes} {ls : List Leaf} {ks : List Bytes} → PossibleKey h n l k → PossibleKeys h n ls ks → PossibleKeys h n (l ∷ ls) (k ∷ ks)

-- the keys c s and d t of two such leaves
module _ {e : Bool} (s t : Bytes) (q : T e → s ≡ []) where
  -- they are in order
  pub before_below : {c d : Bytes} → Before e c d → below (c ++ s) (d ++ t) ≡ true
  unfolding below
  before_below (inner h) = rw (q h)
  before_below (less {x} {y} h) = rw (lt-ltb x y h)
  before_below (step {x} r) = rw (eqb_self x, before_below r) (or-true (ltb x x))

  -- they share what the cut keys share
  before_shared : {c d : Bytes} → Before e c d → shared (c ++ s) (d ++ t) ≡ shared c d
  unfolding shared
  before_shared (inner h) = rw (q h)
  before_shared (less {x} {y} h) = rw (lt_eqb x y h)
  before_shared (step {x} r) = rw (eqb_self x, before_shared r)

  after_shared : {c d : Bytes} → Before e c d → shared (d ++ t) (c ++ s) ≡ shared d c
  unfolding shared
  after_shared (inner h) = rw (q h)
  after_shared (less {x} {y} h) = rw (gt_eqb x y h)
  after_shared (step {x} r) = rw (eqb_self x, after_shared r)

  -- one begins the other where its cut key does
  before_begins : {c d : Bytes} → Before e c d → begins (c ++ s) (d ++ t) ≡ begins c d
  unfolding begins
  before_begins (inner h) = rw (q h)
  before_begins (less {x} {y} h) = rw (lt_eqb x y h)
  before_begins (step {x} r) = rw (eqb_self x, before_begins r)

  after_begins : {c d : Bytes} → Before e c d → begins (d ++ t) (c ++ s) ≡ begins d c
  unfolding begins
  after_begins (inner h) = rw (q h)
  after_begins (less {x} {y} h) = rw (gt_eqb x y h)
  after_begins (step {x} r) = rw (eqb_self x, after_begins r)

  -- they are not equal
  before_equal : {c d : Bytes} → Before e c d → equal (c ++ s) (d ++ t) ≡ false
  unfolding equal
  before_equal (inner h) = rw (q h)
  before_equal (less {x} {y} h) = rw (lt_eqb x y h)
  before_equal (step {x} r) = rw (eqb_self x, before_equal r)

  after_equal : {c d : Bytes} → Before e c d → equal (d ++ t) (c ++ s) ≡ false
  unfolding equal
  after_equal (inner h) = rw (q h)
  after_equal (less {x} {y} h) = rw (gt_eqb x y h)
  after_equal (step {x} r) = rw (eqb_self x, after_equal r)

-- what two keys share is what the cut keys share
pub record Alike (c k d m : Bytes) : Type 0 where
  pub equal_same : equal k m ≡ equal c d
  pub shared_same : equal c d ≡ false → shared k m ≡ shared c d
  pub begins_same : equal c d ≡ false → begins k m ≡ begins c d

-- k relates to each of the keys as c does to the cut keys
pub data AlikeToAll (c k : Bytes) : List Leaf → List Bytes → Type 0 where
  end : AlikeToAll c k [] []
  cell : {m : Leaf} {km : Bytes} {ms : List Leaf} {kms : List Bytes} → Alike c k m.cut km → AlikeToAll c k ms kms → AlikeToAll c k (m ∷ ms) (km ∷ kms)

-- each of the keys does
pub data AllAlike (ls : List Leaf) (ks : List Bytes) : List Leaf → List Bytes → Type 0 where
  end : AllAlike ls ks [] []
  line : {m : Leaf} {km : Bytes} {ms : List Leaf} {kms : List Bytes} → AlikeToAll m.cut km ls ks → AllAlike ls ks ms kms → AllAlike ls ks (m ∷ ms) (km ∷ kms)

alike_self : (c k : Bytes) → Alike c k c k
alike_self c k = record {
  equal_same = equal_self k ∙ sym (equal_self c);
  shared_same = λ h. absurd (true≢false (sym (equal_self c) ∙ h));
  begins_same = λ h. absurd (true≢false (sym (equal_self c) ∙ h));
}

alike_before : {h n : ℕ} (l m : Leaf) (k km : Bytes) → PossibleKey h n l k → PossibleKey h n m km → Before l.exact l.cut m.cut → Alike l.cut k m.cut km
alike_before l m k km p r b = rw (p.split, r.split) (record {
  equal_same = before_equal p.rest r.rest p.ends b ∙ sym (plain_same b);
  shared_same = λ h. before_shared p.rest r.rest p.ends b;
  begins_same = λ h. before_begins p.rest r.rest p.ends b;
})
  where
    plain_same : {e : Bool} {c d : Bytes} → Before e c d → equal c d ≡ false
    plain_same b = simp append-nil at (before_equal [] [] (λ _. refl) b)

alike_after : {h n : ℕ} (l m : Leaf) (k km : Bytes) → PossibleKey h n l k → PossibleKey h n m km → Before l.exact l.cut m.cut → Alike m.cut km l.cut k
alike_after l m k km p r b = rw (p.split, r.split) (record {
  equal_same = after_equal p.rest r.rest p.ends b ∙ sym (plain_same b);
  shared_same = λ h. after_shared p.rest r.rest p.ends b;
  begins_same = λ h. after_begins p.rest r.rest p.ends b;
})
  where
    plain_same : {e : Bool} {c d : Bytes} → Before e c d → equal d c ≡ false
    plain_same b = simp append-nil at (after_equal [] [] (λ _. refl) b)

alike_to_all : {h n : ℕ} (l : Leaf) (k : Bytes) {ms : List Leaf} {kms : List Bytes} → PossibleKey h n l k → BeforeAll l ms → PossibleKeys h n ms kms → AlikeToAll l.cut k ms kms
alike_to_all l k p f done = end
alike_to_all l k p f (also {l = m} {k = km} r rs) = cell (alike_before l m k km p r f.0) (alike_to_all l k p f.1 rs)

widen : {h n : ℕ} (l : Leaf) (k : Bytes) {ls : List Leaf} {ks : List Bytes} {ms : List Leaf} {kms : List Bytes}
    → PossibleKey h n l k → BeforeAll l ms → PossibleKeys h n ms kms → AllAlike ls ks ms kms → AllAlike (l ∷ ls) (k ∷ ks) ms kms
widen l k p f done end = end
widen l k p f (also {l = m} {k = km} r rs) (line q qs) = line (cell (alike_after l m k km p r f.0) q) (widen l k p f.1 rs qs)

-- possible keys of ordered leaves relate as the cut keys do
pub all_alike : {h n : ℕ} {ls : List Leaf} {ks : List Bytes} → Ordered ls → PossibleKeys h n ls ks → AllAlike ls ks ls ks
all_alike o done = end
all_alike o (also {l = l} {k = k} p ps) = line (cell (alike_self l.cut k) (alike_to_all l k p o.0 ps)) (widen l k p o.0 ps (all_alike o.1 ps))

-- what a leaf is cut by depends on the cut keys alone
pub alike_maximum : {c k : Bytes} {ls : List Leaf} {ks : List Bytes} → AlikeToAll c k ls ks
    → maximum (map (shared k) (others ks k)) ≡ maximum (map (shared c) (others (map cut_key ls) c))
unfolding others filter maximum
alike_maximum end = refl
alike_maximum {c} {k} (cell {m} {km} {ms} {kms} q qs) = rw q.equal_same (go (alike_maximum qs) (equal c m.cut) refl)
  where
    go : maximum (map (shared k) (others kms k)) ≡ maximum (map (shared c) (others (map cut_key ms) c))
        → (b : Bool) → equal c m.cut ≡ b → maximum (map (shared k) (cond (not (equal c m.cut)) (km ∷ others kms k) (others kms k)))
        ≡ maximum (map (shared c) (cond (not (equal c m.cut)) (m.cut ∷ others (map cut_key ms) c) (others (map cut_key ms) c)))
    go rec true e = rw e rec
    go rec false e = rw (e, q.shared_same e, rec)

-- and so does its kind
pub alike_any : {c k : Bytes} {ls : List Leaf} {ks : List Bytes} → AlikeToAll c k ls ks
    → any (begins k) (others ks k) ≡ any (begins c) (others (map cut_key ls) c)
unfolding others filter any
alike_any end = refl
alike_any {c} {k} (cell {m} {km} {ms} {kms} q qs) = rw q.equal_same (go (alike_any qs) (equal c m.cut) refl)
  where
    go : any (begins k) (others kms k) ≡ any (begins c) (others (map cut_key ms) c)
        → (b : Bool) → equal c m.cut ≡ b → any (begins k) (cond (not (equal c m.cut)) (km ∷ others kms k) (others kms k))
        ≡ any (begins c) (cond (not (equal c m.cut)) (m.cut ∷ others (map cut_key ms) c) (others (map cut_key ms) c))
    go rec true e = rw e rec
    go rec false e = rw (e, q.begins_same e, rec)

-- leaves with the same cut key, kind and suffix
pub leaf_equal : (l m : Leaf) → l.cut ≡ m.cut → l.exact ≡ m.exact → l.suffix ≡ m.suffix → l ≡ m
leaf_equal l m p q r = λ i. record { cut = p i; exact = q i; suffix = r i }

leaf_again : {h n : ℕ} {ls : List Leaf} {ks : List Bytes} (l : Leaf) (k : Bytes) → Shortest (h + n) ls l → PossibleKey h n l k → AlikeToAll l.cut k ls ks → leaf h n ks k ≡ l
unfolding leaf
leaf_again {h} {n} {ls} {ks} l k t p r = rw (alike_any r, t.kind) (go l.exact refl)
  where
    c : Bytes
    c = l.cut

    whole : T l.exact → k ≡ c
    whole t = p.split ∙ rw (p.ends t) (append-nil c)

    long : l.exact ≡ false → suc (maximum (map (shared k) (others ks k))) ≡ length c
    long e = ap suc (alike_maximum r) ∙ t.size e

    prefix_append : take (length c) k ≡ c
    prefix_append = rw p.split (take-append_seam c p.rest)

    go : (b : Bool) → l.exact ≡ b → cond l.exact
        (record { cut = k; exact = true; suffix = replicate (h + n) false })
        (record { cut = take (suc (maximum (map (shared k) (others ks k)))) k; exact = false; suffix = suffix_bits h n (suc (maximum (map (shared k) (others ks k)))) k })
        ≡ l
    go true e = rw e (leaf_equal _ _ (whole (rw e tt)) refl (sym (t.blank e)))
    go false e = rw e (leaf_equal _ _ (ap (λ z. take z k) (long e) ∙ prefix_append) refl (ap (λ z. suffix_bits h n z k) (long e) ∙ p.bits e))

again : {h n : ℕ} {ls : List Leaf} {ks : List Bytes} {ms : List Leaf} {kms : List Bytes}
    → All (Shortest (h + n) ls) ms → PossibleKeys h n ms kms → AllAlike ls ks ms kms → map (leaf h n ks) kms ≡ ms
again t done end = refl
again t (also {l = m} {k = km} p ps) (line r rs) = ap₂ ◌∷◌ (leaf_again m km t.0 p r) (again t.1 ps rs)

-- a possible key is below those of the leaves behind
pub possible_key_below : {h n : ℕ} (l : Leaf) (k : Bytes) {ms : List Leaf} {kms : List Bytes} → PossibleKey h n l k → BeforeAll l ms → PossibleKeys h n ms kms → BelowAll k kms
possible_key_below l k p f done = tt
possible_key_below l k p f (also {l = m} {k = km} r rs) = (rw (p.split, r.split) (before_below p.rest r.rest p.ends f.0), possible_key_below l k p f.1 rs)

-- Possible keys of ordered leaves, one for each, ascend strictly.
pub possible_keys_ascend : {h n : ℕ} {ls : List Leaf} {ks : List Bytes} → Ordered ls → PossibleKeys h n ls ks → Ascending ks
possible_keys_ascend o done = tt
possible_keys_ascend o (also {l = l} {k = k} p ps) = (possible_key_below l k p o.0 ps, possible_keys_ascend o.1 ps)

-- any choice of one possible key for each leaf has just these leaves
pub possible_keys_leaves : {h n : ℕ} {ls : List Leaf} {ks : List Bytes} → Realizable (h + n) ls → PossibleKeys h n ls ks → leaves h n ks ≡ ls
unfolding leaves
possible_keys_leaves g ps = again g.shortest ps (all_alike g.ordered ps)
