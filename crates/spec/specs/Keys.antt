-- Document 01, "Keys and cut keys": the order of keys, key lists, and the numbers 1 to 4 of "Turning a file down".
use Rattle.std.specs.Prelude.{ℕ, zero, suc, ◌+◌, Bool, true, false, not, ◌&&◌, ◌||◌, List, [], ◌∷◌, ◌++◌, length, get_or, take, drop, ltb, eqb}
use Rattle.spec.specs.Bytes.{Bytes, letter}

-- order by unsigned bytes, a proper prefix first
unfoldable pub below : Bytes → Bytes → Bool
below [] [] = false
below [] (y ∷ ys) = true
below (x ∷ xs) [] = false
below (x ∷ xs) (y ∷ ys) = ltb x y || (eqb x y && below xs ys)

-- the key is in the range from lo to hi, both bounds included
unfoldable pub within : Bytes → Bytes → Bytes → Bool
unfolding below
within lo hi k = not (below k lo) && not (below hi k)

-- the records of keys: mark "KY", one length byte, the key
unfoldable pub write_keys : List Bytes → Bytes
write_keys [] = []
write_keys (k ∷ ks) = letter "K" ∷ letter "Y" ∷ length k ∷ k ++ write_keys ks

-- what a key list holds: its keys, or the number that turns it down
pub data ParsedKeys : Type 0 where
  refused : ℕ → ParsedKeys
  keys : List Bytes → ParsedKeys

-- a key before those behind it
unfoldable pub with_key : Bytes → ParsedKeys → ParsedKeys
with_key k (refused r) = refused r
with_key k (keys ks) = keys (k ∷ ks)

-- The records of s, before which stand `done` others, the last of them with the key `last` (empty: none); `fuel` is at least the length of s.
-- The first number that applies: 4, a record follows 65,535 others; 1, fewer than three bytes or a wrong mark; 2, length 0 or over 64;
-- 1, key bytes missing; 3, key not above the last.
unfoldable pub parse_records : ℕ → ℕ → Bytes → Bytes → ParsedKeys
unfolding below with_key
parse_records zero done last s = keys []
parse_records (suc fuel) done last [] = keys []
parse_records (suc fuel) done last (b ∷ s) =
    elim (eqb done 65535) [
      | true ↦ refused 4
      | false ↦
          elim (ltb (length s) 2 || not (eqb b (letter "K") && eqb (get_or s 0 0) (letter "Y"))) [
            | true ↦ refused 1
            | false ↦
                let n : ℕ = get_or s 1 0 in
                let k : Bytes = take n (drop 2 s) in
                elim (eqb n 0 || ltb 64 n) [
                  | true ↦ refused 2
                  | false ↦
                      elim (ltb (length s) (n + 2)) [
                        | true ↦ refused 1
                        | false ↦
                            elim (below last k) [ false ↦ refused 3 | true ↦ with_key k (parse_records fuel (suc done) k (drop (n + 2) s)) ]
                      ]
                ]
          ]
    ]

-- a key list's keys, or the first number that applies, record by record
unfoldable pub parse_keys : Bytes → ParsedKeys
unfolding parse_records
parse_keys s = parse_records (length s) 0 [] s

-- the keys of a key list; none where a number from 1 to 4 applies
unfoldable pub keys_of : Bytes → List Bytes
unfolding parse_keys
keys_of list = elim (parse_keys list) [ refused r ↦ [] | keys ks ↦ ks ]
