-- Begins-with over a leaf list, and the key lists that have these leaves: a stem's range has just the keys that begin with the stem (stem_exactly).
use Rattle.std.specs.Prelude.{ℕ, ◌-◌, ◌≤◌, ◌≡◌, refl, Bool, true, false, List, [], ◌++◌, ◌↔◌, length, take, drop, replicate}
use Rattle.std.proofs.Common.{sym, ap, ◌∙◌, append-nil, arith, length-drop, take_all}
use mathlib.Core.Logic.Iff
use Rattle.std.proofs.lemmas.List.{length-replicate}
use Rattle.spec.specs.Bytes.{Bytes, begins}
use Rattle.spec.specs.Keys.{below, within}
use Rattle.spec.specs.Leaves.{Leaf}
use Rattle.spec.specs.Questions.{stem_end, begins_with}
use Rattle.theory.specs.Terms.{IsBytes, In, Key, Bound}
use Rattle.theory.proofs.Lists.{all_in, bytes_drop}
use Rattle.theory.proofs.Order.{below_append, below_nil, prefix_append, outside_prefix}
use Rattle.theory.proofs.LeafLists.{Realizable, AllRealSized}
use Rattle.theory.proofs.Intervals.{below_all_ff}
use Rattle.theory.proofs.Choices.{HasLeaves}
use Rattle.theory.proofs.RangeLaws.{range_held, range_denied}

-- no bytes are above as many FF bytes
pub below_ff : (m : ℕ) (r : Bytes) → length r ≤ m → IsBytes r → below (replicate m 255) r ≡ false
below_ff m r l b =
    let f : Bytes = replicate m 255 in
    let e : take m f ≡ f = take_all m f (omega (arith, length-replicate {A = ℕ} m 255)) in
    rw e at (below_all_ff m m r (omega arith) l b)

-- a stem is not above what it begins
behind_stem : (stem r : Bytes) → below (stem ++ r) stem ≡ false
behind_stem stem r = let e : below (stem ++ r) (stem ++ []) ≡ false = below_append stem r [] ∙ below_nil r in rw (append-nil stem) at e

-- The range of a stem is the right way round.
stem_order : (stem : Bytes) → below (stem_end stem) stem ≡ false
stem_order stem = behind_stem stem (replicate (64 - length stem) 255)

-- The keys of at most 64 bytes from a stem to the stem filled with FF to 64 bytes are exactly those that begin with it; with an empty stem, all.
pub stem_exactly : (stem k : Bytes) → length k ≤ 64 → IsBytes k → within stem (stem_end stem) k ≡ begins stem k
unfolding within
stem_exactly stem k h b = go (begins stem k) refl
  where
    go : (x : Bool) → begins stem k ≡ x → within stem (stem_end stem) k ≡ x
    go true e =
        let r : Bytes = drop (length stem) k in
        let s : k ≡ stem ++ r = prefix_append stem k e in
        let low : below k stem ≡ false = ap (λ (z : Bytes). below z stem) s ∙ behind_stem stem r in
        let high : below (stem_end stem) k ≡ false = ap (below (stem_end stem)) s ∙ below_append stem (replicate (64 - length stem) 255) r ∙ below_ff (64 - length stem) r (omega (arith, length-drop (length stem) k)) (bytes_drop (length stem) k b) in
        rw (low, high)
    go false e = rw (append-nil stem) at (outside_prefix stem k [] (replicate (64 - length stem) 255) e)

-- some list that has the leaves has a key that begins with the stem
abbrev pub SomeBegins : ℕ → List Leaf → Bytes → Type 0
SomeBegins n ls stem = (ks : List Bytes) × HasLeaves n ks ls × ((k : Bytes) × In k ks × (begins stem k ≡ true))

-- The keys of a list that has the leaves lie in the stem's range just as they begin with the stem.
keys_with_stem : {n : ℕ} (ls : List Leaf) (stem : Bytes) (ks : List Bytes) → HasLeaves n ks ls → (k : Bytes) → In k ks → within stem (stem_end stem) k ≡ begins stem k
keys_with_stem ls stem ks w k i = let q = all_in Key w.keys i in stem_exactly stem k q.fits q.bytes

-- A stem's reply is 1 exactly when some list that has the leaves has a key that begins with it.
pub begins_held : {n : ℕ} (ls : List Leaf) (stem : Bytes) → Realizable n ls → AllRealSized n ls → Bound stem → (begins_with ls stem ≡ 1) ↔ SomeBegins n ls stem
unfolding begins_with
begins_held ls stem g o q = Iff.trans (range_held ls stem (stem_end stem) g o q (stem_order stem)) (
  λ a. (a.0, a.1, (a.2.0, a.2.1, sym (keys_with_stem ls stem a.0 a.1 a.2.0 a.2.1) ∙ a.2.2)),
  λ a. (a.0, a.1, (a.2.0, a.2.1, keys_with_stem ls stem a.0 a.1 a.2.0 a.2.1 ∙ a.2.2)),
)

-- A stem is denied exactly when none of the lists that have the leaves has a key that begins with it.
pub begins_denied : {n : ℕ} (ls : List Leaf) (stem : Bytes) → Realizable n ls → AllRealSized n ls → Bound stem
    → (begins_with ls stem ≡ 0) ↔ ((ks : List Bytes) → HasLeaves n ks ls → (k : Bytes) → In k ks → begins stem k ≡ false)
unfolding begins_with
begins_denied ls stem g o q = Iff.trans (range_denied ls stem (stem_end stem) g o q (stem_order stem)) (
  λ f ks w k i. sym (keys_with_stem ls stem ks w k i) ∙ f ks w k i,
  λ f ks w k i. keys_with_stem ls stem ks w k i ∙ f ks w k i,
)
