-- Document 01, "Examples", its end: the leaf printer's text, as bytes. Every line ends with a line feed.
use Rattle.std.specs.Prelude.{ℕ, zero, suc, ◌+◌, ◌-◌, ◌/◌, ◌%◌, Bool, true, false, cond, List, [], ◌∷◌, ◌++◌, map, length, ltb, eqb}
use Rattle.spec.specs.Bytes.{Bytes, Bits, letter, ascii, bit}
use Rattle.spec.specs.Leaves.{Leaf}
use Rattle.spec.specs.Nodes.{read_leaves}
use Rattle.spec.specs.Check.{verdict}

-- the decimal figures of a number, those of `done` behind them; `fuel` is above the number
unfoldable pub digits : ℕ → ℕ → Bytes → Bytes
digits zero n done = done
digits (suc fuel) n done = elim (ltb n 10) [ true ↦ (letter "0" + n) ∷ done | false ↦ digits fuel (n / 10) ((letter "0" + n % 10) ∷ done) ]

-- a number in decimal figures
unfoldable pub decimal : ℕ → Bytes
unfolding digits
decimal n = digits (suc n) n []

-- a capital hexadecimal figure
unfoldable pub hex_digit : ℕ → ℕ
hex_digit x = cond (ltb x 10) (letter "0" + x) (letter "A" + (x - 10))

-- a key in capital hexadecimal
unfoldable pub hex : Bytes → Bytes
unfolding hex_digit
hex [] = []
hex (x ∷ k) = hex_digit (x / 16) ∷ hex_digit (x % 16) ∷ hex k

-- the suffix bits, hash bits before real bits, the first one first; "-" for an exact leaf, or if there are none
unfoldable pub suffix_text : Bool → Bits → Bytes
suffix_text true s = letter "-" ∷ []
suffix_text false [] = letter "-" ∷ []
suffix_text false (b ∷ s) = map (λ c. letter "0" + bit c) (b ∷ s)

-- a leaf's number in key order, E (exact) or O (open), cut key, suffix
unfoldable pub line : ℕ → Leaf → Bytes
unfolding decimal hex suffix_text
line i l = decimal i ++ letter " " ∷ cond l.exact (letter "E") (letter "O") ∷ letter " " ∷ hex l.cut ++ letter " " ∷ suffix_text l.exact l.suffix ++ (10 ∷ [])

-- the leaves' lines, the first of them number i
unfoldable pub lines : ℕ → List Leaf → Bytes
unfolding line
lines i [] = []
lines i (l ∷ ls) = line i l ++ lines (suc i) ls

-- `leaves` and the leaf count, then the lines
unfoldable pub listing : List Leaf → Bytes
unfolding ascii decimal lines
listing ls = ascii "leaves " ++ decimal (length ls) ++ 10 ∷ lines 0 ls

-- the bytes of the longest input that is taken for an image
abbrev pub longest_input : ℕ
longest_input = 65536

-- an image of at most 65,536 bytes: its leaves; a longer input: `too long`; a refused one: `refused` and the number
unfoldable pub print : Bytes → Bytes
unfolding verdict read_leaves ascii decimal listing
print b =
    let v : ℕ = verdict b in
    elim (ltb longest_input (length b)) [
      | true ↦ ascii "too long" ++ (10 ∷ [])
      | false ↦
          elim (eqb v 0) [ false ↦ ascii "refused " ++ decimal v ++ (10 ∷ []) | true ↦ listing (read_leaves b) ]
    ]
