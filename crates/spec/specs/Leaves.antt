-- Document 01, "Keys and cut keys", as order 4 changes it: exact and open leaves, cut keys and suffixes, and the possible keys of a leaf.
use Rattle.std.specs.Prelude.{ℕ, suc, ◌+◌, ◌-◌, Bool, true, false, cond, not, ◌&&◌, List, [], ◌∷◌, ◌++◌, map, length, take, drop, replicate, leb, eqb}
use Rattle.spec.specs.Bytes.{Bytes, Bits, any, filter, maximum, blocks, equal, begins, shared, low_bits, bits_of, padded, same_bits, filled}
use Rattle.spec.specs.Fnv.{hash}

-- A leaf stands for one key: its cut key (document 01's word for the key's shortest distinguishing prefix), its kind and its suffix bits.
pub record Leaf : Type 0 where
  pub cut : Bytes
  pub exact : Bool
  pub suffix : Bits

-- the other keys of the list
unfoldable pub others : List Bytes → Bytes → List Bytes
unfolding filter equal
others ks k = filter (λ o. not (equal k o)) ks

-- the n bits of a key behind its first c bytes, zeros where the key has ended
unfoldable pub bits_behind : ℕ → ℕ → Bytes → Bits
unfolding bits_of padded
bits_behind n c k = padded n (bits_of (drop c k))

-- Order 4: "the h lowest bits of the whole key's 64-bit FNV-1a hash, lowest weight first"
unfoldable pub hash_bits : ℕ → Bytes → Bits
unfolding low_bits hash
hash_bits h k = low_bits h (hash k)

-- "and behind them the n real bits": the suffix of a key that is cut behind its first c bytes
unfoldable pub suffix_bits : ℕ → ℕ → ℕ → Bytes → Bits
unfolding hash_bits bits_behind
suffix_bits h n c k = hash_bits h k ++ bits_behind n c k

-- A key that begins another key of the list is cut nowhere and is an exact leaf, its slot zero.
-- Any other is cut one byte behind its longest prefix shared with another key and is an open leaf, its suffix h bits of its hash and the n bits behind the cut.
unfoldable pub leaf : ℕ → ℕ → List Bytes → Bytes → Leaf
unfolding any others begins maximum shared suffix_bits
leaf h n ks k =
    let c : ℕ = suc (maximum (map (shared k) (others ks k))) in
    cond (any (begins k) (others ks k))
    (record { cut = k; exact = true; suffix = replicate (h + n) false })
    (record { cut = take c k; exact = false; suffix = suffix_bits h n c k })

-- the leaf list of a key list, in key order
unfoldable pub leaves : ℕ → ℕ → List Bytes → List Leaf
unfolding leaf
leaves h n ks = map (leaf h n ks) ks

-- a leaf with its h hash bits struck out: its suffix is the real bits alone
unfoldable pub real : ℕ → Leaf → Leaf
real h l = record { cut = l.cut; exact = l.exact; suffix = drop h l.suffix }

-- leaves with their hash bits struck out
unfoldable pub reals : ℕ → List Leaf → List Leaf
unfolding real
reals h ls = map (real h) ls

-- ---- possible keys, of leaves whose suffixes are real bits alone

-- Possible keys (document 01's term): of an exact leaf itself; of an open leaf all keys of at most 64 bytes that begin with the cut key and have that suffix.
unfoldable pub possible : Leaf → Bytes → Bool
unfolding equal begins same_bits bits_behind
possible l k =
    cond l.exact (equal l.cut k)
    (leb (length k) 64 && (begins l.cut k && same_bits (bits_behind (length l.suffix) (length l.cut) k) l.suffix))

-- less trailing zero bytes
unfoldable pub trimmed : Bytes → Bytes
trimmed [] = []
trimmed (x ∷ xs) = elim (trimmed xs) [ [] ↦ cond (eqb x 0) [] (x ∷ []) | y ∷ ys ↦ x ∷ y ∷ ys ]

-- The lowest: the cut key and suffix filled up with zero bits to whole bytes, less trailing zero bytes behind the cut, and what stands past the 64th byte dropped.
unfoldable pub lowest : Leaf → Bytes
unfolding trimmed filled
lowest l = cond l.exact l.cut (l.cut ++ trimmed (take (64 - length l.cut) (filled false (blocks 8 (length l.suffix)) l.suffix)))

-- The highest: filled with one bits to 64 bytes, and what stands past the 64th byte dropped.
unfoldable pub highest : Leaf → Bytes
unfolding filled
highest l = cond l.exact l.cut (l.cut ++ take (64 - length l.cut) (filled true (blocks 8 (length l.suffix)) l.suffix ++ replicate 64 255))
