-- Document 01, "What the product covers": byte strings, bits and little-endian numbers, and the few list functions that the rest is said with.
use Rattle.std.specs.Prelude.{ℕ, zero, suc, ◌+◌, ◌-◌, ◌*◌, ◌/◌, ◌%◌, ◌^◌, max, Bool, true, false, cond, not, ◌&&◌, ◌||◌, List, [], ◌∷◌, ◌++◌, length, get_or, take, drop, leb, eqb}
use Prim.Native.Char.{Char, code}
use Prim.Native.String.{String, len, char_at}
use Rattle.std.specs.Bool.{beq}

-- a key, or any byte string
abbrev pub Bytes : Type 0
Bytes = List ℕ

-- bits, the first one first
abbrev pub Bits : Type 0
Bits = List Bool

-- ---- lists

module _ {A : Type 0} where
  -- some member passes the test
  unfoldable pub any : (A → Bool) → List A → Bool
  any p [] = false
  any p (x ∷ xs) = p x || any p xs

  -- every member passes the test
  unfoldable pub all : (A → Bool) → List A → Bool
  all p [] = true
  all p (x ∷ xs) = p x && all p xs

  -- the members that pass the test, in their order
  unfoldable pub filter : (A → Bool) → List A → List A
  filter p [] = []
  filter p (x ∷ xs) = cond (p x) (x ∷ filter p xs) (filter p xs)

  -- how many members pass the test
  unfoldable pub count : (A → Bool) → List A → ℕ
  count p [] = 0
  count p (x ∷ xs) = cond (p x) (suc (count p xs)) (count p xs)

  -- lists one behind the other
  unfoldable pub concat : List (List A) → List A
  concat [] = []
  concat (l ∷ ls) = l ++ concat ls

-- every test of a list passes
unfoldable pub every : List Bool → Bool
every [] = true
every (t ∷ ts) = t && every ts

-- n, n + 1, .. , k of them
unfoldable pub iota : ℕ → ℕ → List ℕ
iota n zero = []
iota n (suc k) = n ∷ iota (suc n) k

-- the greatest, 0 if there is none
unfoldable pub maximum : List ℕ → ℕ
maximum [] = 0
maximum (x ∷ xs) = max x (maximum xs)

-- how many blocks of w positions n positions begin
abbrev pub blocks : ℕ → ℕ → ℕ
blocks w n = (n + (w - 1)) / w

-- ---- text

-- a character's ASCII number
abbrev pub letter : Char → ℕ
letter c = code c

-- k characters of a text, from the i-th on
unfoldable pub ascii_from : ℕ → ℕ → String → Bytes
ascii_from zero i s = []
ascii_from (suc k) i s = code (char_at s i) ∷ ascii_from k (suc i) s

-- the text in quotes, as ASCII bytes
unfoldable pub ascii : String → Bytes
unfolding ascii_from
ascii s = ascii_from (len s) 0 s

-- ---- byte strings

-- the same bytes
unfoldable pub equal : Bytes → Bytes → Bool
equal [] [] = true
equal [] (y ∷ ys) = false
equal (x ∷ xs) [] = false
equal (x ∷ xs) (y ∷ ys) = eqb x y && equal xs ys

-- p begins k
unfoldable pub begins : Bytes → Bytes → Bool
begins [] k = true
begins (x ∷ p) [] = false
begins (x ∷ p) (y ∷ k) = eqb x y && begins p k

-- the length of the longest prefix that two keys share
unfoldable pub shared : Bytes → Bytes → ℕ
shared [] k = 0
shared (x ∷ p) [] = 0
shared (x ∷ p) (y ∷ k) = cond (eqb x y) (suc (shared p k)) 0

-- neighbours that are equal, once each
unfoldable pub dedup : List Bytes → List Bytes
unfolding equal
dedup [] = []
dedup (p ∷ []) = p ∷ []
dedup (p ∷ q ∷ ps) = cond (equal p q) (dedup (q ∷ ps)) (p ∷ dedup (q ∷ ps))

-- ---- numbers of several bytes, their low byte first

-- a 32-bit number as four bytes
unfoldable pub le32 : ℕ → Bytes
le32 n = n % 256 ∷ n / 256 % 256 ∷ n / 65536 % 256 ∷ n / 16777216 % 256 ∷ []

-- the number in the first four bytes
unfoldable pub from32 : Bytes → ℕ
from32 s = get_or s 0 0 + 256 * get_or s 1 0 + 65536 * get_or s 2 0 + 16777216 * get_or s 3 0

-- ---- bits, the low bit of each byte first: bit i stands in byte i div 8 with weight 2^(i mod 8)

-- a bit as a number
abbrev pub bit : Bool → ℕ
bit true = 1
bit false = 0

-- how many ones
unfoldable pub ones : Bits → ℕ
ones [] = 0
ones (b ∷ bs) = bit b + ones bs

-- no bit is set
unfoldable pub clear : Bits → Bool
clear [] = true
clear (b ∷ bs) = not b && clear bs

-- the number whose bit i has the weight 2^i
unfoldable pub low_first : Bits → ℕ
low_first [] = 0
low_first (b ∷ bs) = bit b + 2 * low_first bs

-- bits in k bytes
unfoldable pub packed : ℕ → Bits → Bytes
unfolding low_first
packed zero bs = []
packed (suc k) bs = low_first (take 8 bs) ∷ packed k (drop 8 bs)

-- bits in as many bytes as they begin
unfoldable pub pack : Bits → Bytes
unfolding packed
pack bs = packed (blocks 8 (length bs)) bs

-- the k low bits of a number, the lowest first
unfoldable pub low_bits : ℕ → ℕ → Bits
low_bits zero x = []
low_bits (suc k) x = eqb (x % 2) 1 ∷ low_bits k (x / 2)

-- the bits that bytes hold
unfoldable pub unpack : Bytes → Bits
unfolding low_bits
unpack [] = []
unpack (x ∷ xs) = low_bits 8 x ++ unpack xs

-- ---- bits, the high bit of each byte first: as an open leaf's suffix takes them from a key

-- the k bits of a number, the high bit first
unfoldable pub high_first : ℕ → ℕ → Bits
high_first zero x = []
high_first (suc k) x = leb (2 ^ k) x ∷ high_first k (x % 2 ^ k)

-- the bits of bytes
unfoldable pub bits_of : Bytes → Bits
unfolding high_first
bits_of [] = []
bits_of (x ∷ xs) = high_first 8 x ++ bits_of xs

-- the first n bits, zeros where they have ended
unfoldable pub padded : ℕ → Bits → Bits
padded zero bs = []
padded (suc n) [] = false ∷ padded n []
padded (suc n) (b ∷ bs) = b ∷ padded n bs

-- the same bits
unfoldable pub same_bits : Bits → Bits → Bool
same_bits [] [] = true
same_bits [] (b ∷ bs) = false
same_bits (a ∷ az) [] = false
same_bits (a ∷ az) (b ∷ bs) = beq a b && same_bits az bs

-- the number of k bits whose high bits are given, filled up with f
unfoldable pub fill : Bool → ℕ → Bits → ℕ
fill f zero bs = 0
fill f (suc k) [] = bit f * 2 ^ k + fill f k []
fill f (suc k) (b ∷ bs) = bit b * 2 ^ k + fill f k bs

-- m bytes of bits, filled up with f
unfoldable pub filled : Bool → ℕ → Bits → Bytes
unfolding fill
filled f zero bs = []
filled f (suc m) bs = fill f 8 bs ∷ filled f m (drop 8 bs)
