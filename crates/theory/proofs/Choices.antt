-- The key lists that have given leaves: any choice of one possible key for each leaf, and no other.
use Rattle.std.specs.Prelude.{ℕ, ◌+◌, ◌≤◌, ◌≡◌, refl, cond, Bool, true, false, ◌&&◌, List, [], ◌∷◌, ◌++◌, map, ◌↔◌, length, drop, leb}
use Rattle.std.proofs.Common.{sym, ap, subst, ◌∙◌, true≢false, append-nil, arith, le-leb}
use Rattle.spec.specs.Bytes.{Bytes, Bits, begins, equal, same_bits}
use Rattle.spec.specs.Leaves.{hash_bits, suffix_bits, Leaf, leaves, bits_behind, possible, lowest}
use Rattle.theory.specs.Terms.{Ascending, Keys, Key, All}
use Rattle.theory.proofs.Order.{begins_append, equal_true, equal_self, prefix_append}
use Rattle.theory.proofs.LeafLists.{PossibleKey, PossibleKeys, done, also, Realizable, possible_keys_leaves, possible_keys_ascend, AllRealSized}
use Rattle.theory.proofs.KeyLeaves.{leaves_real_realizable, leaves_real_sized, leaves_possible_keys, leaves_length}
use Rattle.theory.proofs.Intervals.{lowest_key, lowest_possible}
use Rattle.theory.proofs.Lists.{and_both}

-- ks is an ascending list of keys whose leaves are ls
pub record HasLeaves (n : ℕ) (ks : List Bytes) (ls : List Leaf) : Type 0 where
  pub keys : Keys ks
  pub up : Ascending ks
  pub same_leaves : leaves 0 n ks ≡ ls

-- ch chooses a possible key for each leaf
abbrev pub Choice : (Leaf → Bytes) → List Leaf → Type 0
Choice ch = All (λ l. Key (ch l) × (possible l (ch l) ≡ true))

-- ---- possible keys, as a cut key and a rest

bits_eq : (a b : Bits) → same_bits a b ≡ true → a ≡ b
unfolding same_bits
bits_eq [] [] h = refl
bits_eq [] (y ∷ b) h = absurd (true≢false (sym h))
bits_eq (x ∷ a) [] h = absurd (true≢false (sym h))
bits_eq (true ∷ a) (true ∷ b) h = ap (λ (z : Bits). true ∷ z) (bits_eq a b h)
bits_eq (true ∷ a) (false ∷ b) h = absurd (true≢false (sym h))
bits_eq (false ∷ a) (true ∷ b) h = absurd (true≢false (sym h))
bits_eq (false ∷ a) (false ∷ b) h = ap (λ (z : Bits). false ∷ z) (bits_eq a b h)

-- bits are the same as themselves
pub bits_self : (a : Bits) → same_bits a a ≡ true
unfolding same_bits
bits_self [] = refl
bits_self (true ∷ a) = bits_self a
bits_self (false ∷ a) = bits_self a

-- a possible key is the cut key and a rest
pub possible_split : {n : ℕ} (l : Leaf) (k : Bytes) → length l.suffix ≡ n → possible l k ≡ true → PossibleKey 0 n l k
unfolding possible suffix_bits hash_bits
possible_split {n} l k s h = go l.exact refl h
  where
    go : (b : Bool) → l.exact ≡ b
        → cond b (equal l.cut k) (leb (length k) 64 && (begins l.cut k && same_bits (bits_behind (length l.suffix) (length l.cut) k) l.suffix)) ≡ true → PossibleKey 0 n l k
    go true e h = record {
      rest = [];
      split = sym (equal_true l.cut k h) ∙ sym (append-nil l.cut);
      ends = λ _. refl;
      bits = λ q. absurd (true≢false (sym e ∙ q));
    }
    go false e h =
        let p = and_both (leb (length k) 64) (begins l.cut k && same_bits (bits_behind (length l.suffix) (length l.cut) k) l.suffix) h in
        let q = and_both (begins l.cut k) (same_bits (bits_behind (length l.suffix) (length l.cut) k) l.suffix) p.1 in
        record {
          rest = drop (length l.cut) k;
          split = prefix_append l.cut k q.0;
          ends = λ t. absurd (rw e at t);
          bits = λ _. rw (← s) (bits_eq _ _ q.1);
        }

-- and back
pub split_possible : {n : ℕ} (l : Leaf) (k : Bytes) → length l.suffix ≡ n → length k ≤ 64 → PossibleKey 0 n l k → possible l k ≡ true
unfolding possible suffix_bits hash_bits
split_possible {n} l k s h p = go l.exact refl
  where
    go : (b : Bool) → l.exact ≡ b
        → cond l.exact (equal l.cut k) (leb (length k) 64 && (begins l.cut k && same_bits (bits_behind (length l.suffix) (length l.cut) k) l.suffix)) ≡ true
    go true e = rw (e, p.split ∙ ap (λ (z : Bytes). l.cut ++ z) (p.ends (rw e tt)) ∙ append-nil l.cut) (equal_self l.cut)
    go false e = rw (e, le-leb (length k) 64 h, s, p.bits e, bits_self l.suffix, ap (begins l.cut) p.split ∙ begins_append l.cut p.rest)

-- ---- choices

choice_possible : {n : ℕ} (ch : Leaf → Bytes) (ls : List Leaf) → AllRealSized n ls → Choice ch ls → PossibleKeys 0 n ls (map ch ls)
choice_possible ch [] o c = done
choice_possible ch (l ∷ ls) o c = also (possible_split l (ch l) o.0.slot c.0.1) (choice_possible ch ls o.1 c.1)

choice_keys : (ch : Leaf → Bytes) (ls : List Leaf) → Choice ch ls → Keys (map ch ls)
choice_keys ch [] c = tt
choice_keys ch (l ∷ ls) c = (c.0.0, choice_keys ch ls c.1)

-- realizability: any choice of one possible key for each leaf builds these leaves
pub choice_has_leaves : {n : ℕ} (ch : Leaf → Bytes) (ls : List Leaf) → Realizable n ls → AllRealSized n ls → Choice ch ls → HasLeaves n (map ch ls) ls
choice_has_leaves {n} ch ls g o c =
    let p = choice_possible ch ls o c in
    let z : n ≡ 0 + n = omega arith in
    record { keys = choice_keys ch ls c; up = possible_keys_ascend g.ordered p; same_leaves = possible_keys_leaves (subst (λ (m : ℕ). Realizable m ls) z g) p }

-- the lowest keys are a choice
lowest_choice : (n : ℕ) (ls : List Leaf) → AllRealSized n ls → Choice lowest ls
lowest_choice n [] o = tt
lowest_choice n (l ∷ ls) o = ((lowest_key l o.0, lowest_possible l o.0), lowest_choice n ls o.1)

-- A leaf list is that of some key list exactly when it is good and each leaf is as an accepted image has it.
pub has_leaves_exactly : (n : ℕ) (ls : List Leaf) → ((ks : List Bytes) × HasLeaves n ks ls) ↔ (Realizable n ls × AllRealSized n ls)
has_leaves_exactly n ls = (
  λ b. rw (← b.1.same_leaves) (leaves_real_realizable n b.0 b.1.keys b.1.up, leaves_real_sized n b.0 b.1.keys),
  λ p. (map lowest ls, choice_has_leaves lowest ls p.0 p.1 (lowest_choice n ls p.1)),
)

-- it has as many keys
pub has_leaves_length : {n : ℕ} (ks : List Bytes) (ls : List Leaf) → HasLeaves n ks ls → length ks ≡ length ls
has_leaves_length {n} ks ls b = sym (leaves_length 0 n ks) ∙ ap length b.same_leaves

-- its keys are possible keys of the leaves, one for each
pub has_leaves_possible : {n : ℕ} (ks : List Bytes) (ls : List Leaf) → HasLeaves n ks ls → PossibleKeys 0 n ls ks
has_leaves_possible {n} ks ls b = rw (← b.same_leaves) (leaves_possible_keys 0 n ks b.keys)
