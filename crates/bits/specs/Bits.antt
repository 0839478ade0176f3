-- Bits and numbers of a byte string by position: what `bits` and `bits_select` give, and what the crates above say ranks, selects and writes with.
use Rattle.std.specs.Prelude.{ℕ, zero, suc, ◌+◌, ◌*◌, ◌/◌, ◌%◌, ◌^◌, ◌≤◌, ◌<◌, cond, [], ◌∷◌, ◌++◌, length, get_or, take, drop, set, leb}
use Rattle.std.specs.Int.Bits.{bit_or}
use Rattle.spec.specs.Bytes.{Bytes, low_first, high_first}

-- bit i, as a number: it stands in byte i div 8 with weight 2^(i mod 8)
abbrev pub bit_at : Bytes → ℕ → ℕ
bit_at s i = get_or s (i / 8) 0 / 2 ^ (i % 8) % 2

-- the ones before bit k
unfoldable pub rank : Bytes → ℕ → ℕ
rank s zero = zero
rank s (suc k) = rank s k + bit_at s k

-- the last position up to n before which stand at most m ones: the position of the m-th one, counted from 0, or n where there is none
unfoldable pub select : Bytes → ℕ → ℕ → ℕ
unfolding rank
select s zero m = zero
select s (suc n) m = cond (leb (rank s (suc n)) m) (suc n) (select s n m)

-- the position of the one in byte b that has j ones below it, or 8 where there is no such one
abbrev pub select_in_byte : ℕ → ℕ → ℕ
select_in_byte b j = select (b ∷ []) 8 j

-- the number whose bytes are s, the low byte first
unfoldable pub value : Bytes → ℕ
value [] = zero
value (b ∷ bs) = value bs * 256 + b

-- the 64-bit number in the eight bytes from `at`, zeros where the bytes have ended
unfoldable pub word : Bytes → ℕ → ℕ
unfolding value
word s at = value (drop at s) % 2 ^ 64

-- s with bit i set
unfoldable pub with_bit : Bytes → ℕ → Bytes
with_bit s i = set s (i / 8) (bit_or (get_or s (i / 8) 0) (2 ^ (i % 8)))

-- s with the ones of b set in byte q, where it has that byte
unfoldable pub with_ones : Bytes → ℕ → ℕ → Bytes
with_ones s q b = set s q (bit_or (get_or s q 0) b)

-- s with the ones of a number of at most 16 bits set from bit i on, in three bytes
unfoldable pub with_number : Bytes → ℕ → ℕ → Bytes
unfolding with_ones
with_number s i v =
    let w : ℕ = v * 2 ^ (i % 8) in
    with_ones (with_ones (with_ones s (i / 8) (w % 256)) (i / 8 + 1) (w / 256 % 256)) (i / 8 + 2) (w / 65536 % 256)

-- the bits of a byte in the other order
abbrev pub reversed : ℕ → ℕ
reversed b = low_first (high_first 8 b)

-- len bytes from an offset
abbrev pub part : Bytes → ℕ → ℕ → Bytes
part s off len = take len (drop off s)

-- the key of n bytes from a
abbrev pub key : Bytes → ℕ → ℕ → Bytes
key s a n = take n (drop a s)

-- the bytes xs stand in `out` from `at` on, and all else stays
abbrev pub overlaid : Bytes → ℕ → Bytes → Bytes
overlaid out at xs = take at out ++ xs ++ drop (at + length xs) out

-- every bit that is set among the first k of xs is set in ys
abbrev pub Covers : Bytes → Bytes → ℕ → Type 0
Covers xs ys k = (i : ℕ) → i < k → bit_at xs i ≤ bit_at ys i
