-- Order 4 of document 02: the 64-bit FNV-1a hash of a key. "The hash has its named offset basis and prime, starts afresh, and takes one byte at a time. Each product is taken modulo 2^64".
use Rattle.std.specs.Prelude.{ℕ, ◌*◌, ◌%◌, ◌^◌, [], ◌∷◌}
use Rattle.std.specs.Int.Bits.{bit_xor}
use Rattle.spec.specs.Bytes.{Bytes}

-- the state before the first byte
abbrev pub offset_basis : ℕ
offset_basis = 14695981039346656037

-- what each state is multiplied with
abbrev pub prime : ℕ
prime = 1099511628211

-- the state x after one byte more: the exclusive or of both, times the prime
unfoldable pub hash_step : ℕ → ℕ → ℕ
hash_step x b = bit_xor b x * prime % 2 ^ 64

-- the state x after bytes more
unfoldable pub hash_from : ℕ → Bytes → ℕ
unfolding hash_step
hash_from x [] = x
hash_from x (b ∷ k) = hash_from (hash_step x b) k

-- a key's hash
unfoldable pub hash : Bytes → ℕ
unfolding hash_from
hash k = hash_from offset_basis k
