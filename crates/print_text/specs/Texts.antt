-- The leaf printer's text, piece by piece: how each piece grows, and how long it gets.
use Rattle.std.specs.Prelude.{◌≡◌, refl, Bool, true, false, cond, List, [], ◌∷◌, ◌++◌, map, ℕ, zero, suc, ◌+◌, ◌*◌, ◌-◌, ◌/◌, ◌%◌, ◌^◌, ◌≤◌, ◌<◌, ◌⊎◌, length, get_or, take, drop, ltb, eqb}
use Rattle.std.proofs.Common.{sym, ap, ap₂, ◌∙◌, true≢false, append_assoc, append-nil, inl, inr, arith, eqb-true, lt-ltb, le-ltb, ltb-true, ltb-false, eq-eqb, ne_eqb, length-append, length-drop, take-suc, length-take-le, get_or-drop, shr-shr}
use Rattle.std.proofs.lemmas.List.{map-append}
use Rattle.std.proofs.lemmas.Bool.{eqb-false}
use Rattle.std.proofs.Math.Nat.{pow-succ'}
use Rattle.spec.specs.Bytes.{Bytes, Bits, ascii, ascii_from, letter, bit, low_bits}
use Rattle.spec.specs.Leaves.{Leaf}
use Rattle.spec.specs.Nodes.{read_leaves}
use Rattle.spec.specs.Check.{verdict}
use Rattle.bits.proofs.UnpackLaws.{length_low_bits}
use Rattle.spec.specs.Print.{longest_input, digits, decimal, hex_digit, hex, suffix_text, line, lines, listing, print}

-- ---- numbers in decimal digits

-- the last digit to write
digits_one : (fuel n : ℕ) (done : Bytes) → n < 10 → digits (suc fuel) n done ≡ (letter "0" + n) ∷ done
unfolding digits
digits_one fuel n done h = go (ltb n 10) (lt-ltb n 10 h)
  where
    go : (b : Bool) → b ≡ true → ◌≡◌ {A = Bytes} (elim b [ true ↦ (letter "0" + n) ∷ done | false ↦ digits fuel (n / 10) ((letter "0" + n % 10) ∷ done) ]) ((letter "0" + n) ∷ done)
    go true e = refl
    go false e = absurd (true≢false (sym e))

-- a digit with more in front of it
digits_more : (fuel n : ℕ) (done : Bytes) → 10 ≤ n → digits (suc fuel) n done ≡ digits fuel (n / 10) ((letter "0" + n % 10) ∷ done)
unfolding digits
digits_more fuel n done h = go (ltb n 10) (le-ltb n 10 h)
  where
    go : (b : Bool) → b ≡ false → ◌≡◌ {A = Bytes} (elim b [ true ↦ (letter "0" + n) ∷ done | false ↦ digits fuel (n / 10) ((letter "0" + n % 10) ∷ done) ]) (digits fuel (n / 10) ((letter "0" + n % 10) ∷ done))
    go true e = absurd (true≢false e)
    go false e = refl

-- the digits stand in front of what is done
digits_front : (fuel n : ℕ) (done : Bytes) → digits fuel n done ≡ digits fuel n [] ++ done
unfolding digits
digits_front zero n done = refl
digits_front (suc fuel) n done = go (ltb n 10) refl (digits_front fuel (n / 10))
  where
    go : (b : Bool) → ltb n 10 ≡ b → ((d : Bytes) → digits fuel (n / 10) d ≡ digits fuel (n / 10) [] ++ d) → digits (suc fuel) n done ≡ digits (suc fuel) n [] ++ done
    go true e ih =
        let l : n < 10 = ltb-true n 10 e in
        digits_one fuel n done l ∙ ap (λ (z : Bytes). z ++ done) (sym (digits_one fuel n [] l))
    go false e ih =
        let l = ltb-false n 10 e in
        let x : Bytes = (letter "0" + n % 10) ∷ [] in
        digits_more fuel n done l ∙ ih (x ++ done) ∙ sym (append_assoc (digits fuel (n / 10) []) x done)
        ∙ ap (λ (z : Bytes). z ++ done) (sym (digits_more fuel n [] l ∙ ih x))

-- any fuel above the number gives the same digits
digits_fuel : (f g n : ℕ) (done : Bytes) → n < f → n < g → digits f n done ≡ digits g n done
digits_fuel zero g n done h k = absurd (omega arith)
digits_fuel (suc f) zero n done h k = absurd (omega arith)
digits_fuel (suc f) (suc g) n done h k = go (ltb n 10) refl (digits_fuel f g (n / 10) ((letter "0" + n % 10) ∷ done))
  where
    go : (b : Bool) → ltb n 10 ≡ b → (n / 10 < f → n / 10 < g → digits f (n / 10) ((letter "0" + n % 10) ∷ done) ≡ digits g (n / 10) ((letter "0" + n % 10) ∷ done))
        → digits (suc f) n done ≡ digits (suc g) n done
    go true e ih =
        let l : n < 10 = ltb-true n 10 e in
        digits_one f n done l ∙ sym (digits_one g n done l)
    go false e ih =
        let l = ltb-false n 10 e in
        digits_more f n done l ∙ ih (omega arith) (omega arith) ∙ sym (digits_more g n done l)

-- a number of one digit
pub decimal_one : (n : ℕ) → n < 10 → decimal n ≡ (letter "0" + n) ∷ []
unfolding decimal
decimal_one n h = digits_one n n [] h

-- a number's last digit stands behind those of its tenth
pub decimal_last : (n : ℕ) → 10 ≤ n → decimal n ≡ decimal (n / 10) ++ (letter "0" + n % 10) ∷ []
unfolding decimal
decimal_last n h =
    let x : Bytes = (letter "0" + n % 10) ∷ [] in
    digits_more n n [] h ∙ digits_front n (n / 10) x ∙ ap (λ (z : Bytes). z ++ x) (digits_fuel n (suc (n / 10)) (n / 10) [] (omega arith) (omega arith))

-- how many digits that is
pub length_decimal_one : (n : ℕ) → n < 10 → length (decimal n) ≡ 1
length_decimal_one n h = ap length (decimal_one n h)

-- one digit more than its tenth has
pub length_decimal_last : (n : ℕ) → 10 ≤ n → length (decimal n) ≡ length (decimal (n / 10)) + 1
length_decimal_last n h = ap length (decimal_last n h) ∙ length-append (decimal (n / 10)) ((letter "0" + n % 10) ∷ [])

-- a number below 10 ^ (k + 1) has at most k + 1 digits
pub length_decimal : (k n : ℕ) → n < 10 ^ suc k → length (decimal n) ≤ suc k
length_decimal zero n h = omega (arith, length_decimal_one n (omega arith))
length_decimal (suc k) n h = go (ltb n 10) refl (length_decimal k (n / 10))
  where
    go : (b : Bool) → ltb n 10 ≡ b → (n / 10 < 10 ^ suc k → length (decimal (n / 10)) ≤ suc k) → length (decimal n) ≤ suc (suc k)
    go true e ih = omega (arith, length_decimal_one n (ltb-true n 10 e))
    go false e ih =
        let l = ltb-false n 10 e in
        let p : 10 ^ suc (suc k) ≡ 10 * 10 ^ suc k = pow-succ' 10 (suc k) in
        let m = ih (omega arith) in
        omega (arith, length_decimal_last n l)

-- ---- keys in hexadecimal digits

-- no bytes, no digits
pub hex_none : hex [] ≡ []
unfolding hex
hex_none = refl

-- the digits of two keys, one behind the other
hex_append : (xs ys : Bytes) → hex (xs ++ ys) ≡ hex xs ++ hex ys
unfolding hex
hex_append [] ys = refl
hex_append (x ∷ xs) ys = ap (λ (z : Bytes). hex_digit (x / 16) ∷ hex_digit (x % 16) ∷ z) (hex_append xs ys)

-- one byte more
pub hex_more : (k : Bytes) (i : ℕ) → i < length k → hex (take (suc i) k) ≡ hex (take i k) ++ hex (get_or k i 0 ∷ [])
hex_more k i h = ap hex (take-suc k i 0 h) ∙ hex_append (take i k) (get_or k i 0 ∷ [])

-- two digits a byte
pub length_hex : (k : Bytes) → length (hex k) ≡ 2 * length k
unfolding hex
length_hex [] = refl
length_hex (x ∷ k) = omega (arith, length_hex k)

-- the digits of the first i bytes
pub length_hex_take : (k : Bytes) (i : ℕ) → i ≤ length k → length (hex (take i k)) ≡ 2 * i
length_hex_take k i h = length_hex (take i k) ∙ ap (λ (n : ℕ). 2 * n) (length-take-le i k h)

-- the digits of one byte
pub hex_byte : (x : ℕ) → hex (x ∷ []) ≡ hex_digit (x / 16) ∷ hex_digit (x % 16) ∷ []
unfolding hex
hex_byte x = refl

-- a digit is a decimal one, or a capital letter
pub hex_digit_is : (x : ℕ) → hex_digit x ≡ cond (ltb x 10) (letter "0" + x) (letter "A" + (x - 10))
unfolding hex_digit
hex_digit_is x = refl

-- ---- suffix bits

-- a bit as a digit
abbrev pub bit_digit : Bool → ℕ
bit_digit c = letter "0" + bit c

-- the suffix bits of an exact leaf, or of none
pub suffix_none : (e : Bool) (n x : ℕ) → (e ≡ true) ⊎ (n ≡ 0) → suffix_text e (low_bits n x) ≡ letter "-" ∷ []
unfolding suffix_text low_bits
suffix_none true n x h = refl
suffix_none false zero x h = refl
suffix_none false (suc n) x (inl h) = absurd (true≢false (sym h))
suffix_none false (suc n) x (inr h) = absurd (omega arith)

-- the suffix bits of an open leaf
pub suffix_open : (e : Bool) (n x : ℕ) → e ≡ false → (n ≡ 0 → ⊥) → suffix_text e (low_bits n x) ≡ map bit_digit (low_bits n x)
unfolding suffix_text low_bits
suffix_open true n x h k = absurd (true≢false h)
suffix_open false zero x h k = absurd (k refl)
suffix_open false (suc n) x h k = refl

-- no bits, no digits
pub bit_digits_none : (x : ℕ) → map bit_digit (low_bits 0 x) ≡ []
unfolding low_bits
bit_digits_none x = refl

-- one bit more
low_bits_more : (k x : ℕ) → low_bits (suc k) x ≡ low_bits k x ++ eqb (x / 2 ^ k % 2) 1 ∷ []
unfolding low_bits
low_bits_more zero x = let e : x / 2 ^ 0 ≡ x = omega arith in rw e
low_bits_more (suc k) x =
    let w : 1 + k ≡ suc k = omega arith in
    ap (λ (z : Bits). eqb (x % 2) 1 ∷ z) (low_bits_more k (x / 2) ∙ ap (λ (n : ℕ). low_bits k (x / 2) ++ eqb (n % 2) 1 ∷ []) (shr-shr x 1 k ∙ ap (λ (z : ℕ). x / 2 ^ z) w))

-- a bit of a number, as a digit
digit_mod : (x : ℕ) → bit_digit (eqb (x % 2) 1) ≡ letter "0" + x % 2
digit_mod x = go (eqb (x % 2) 1) refl
  where
    go : (b : Bool) → eqb (x % 2) 1 ≡ b → bit_digit b ≡ letter "0" + x % 2
    go true e = omega (arith, eqb-true (x % 2) 1 e)
    go false e = let n = eqb-false (x % 2) 1 e in omega arith

-- one digit more
pub bit_digits_more : (k x : ℕ) → map bit_digit (low_bits (suc k) x) ≡ map bit_digit (low_bits k x) ++ (letter "0" + x / 2 ^ k % 2) ∷ []
bit_digits_more k x =
    ap (map bit_digit) (low_bits_more k x) ∙ map-append bit_digit (low_bits k x) (eqb (x / 2 ^ k % 2) 1 ∷ [])
    ∙ ap (λ (n : ℕ). map bit_digit (low_bits k x) ++ n ∷ []) (digit_mod (x / 2 ^ k))

-- as many numbers as there were members
pub length-map : {A : Type 0} (f : A → ℕ) (s : List A) → length (map f s) ≡ length s
length-map f [] = refl
length-map f (b ∷ s) = ap suc (length-map f s)

-- a digit a bit
pub length_bit_digits : (k x : ℕ) → length (map bit_digit (low_bits k x)) ≡ k
length_bit_digits k x = length-map bit_digit (low_bits k x) ∙ length_low_bits k x

-- the text of at most 32 suffix bits
length_suffix : (e : Bool) (s : Bits) → length s ≤ 32 → length (suffix_text e s) ≤ 32
unfolding suffix_text
length_suffix true s h = omega arith
length_suffix false [] h = omega arith
length_suffix false (b ∷ s) h = omega (arith, length-map bit_digit s)

-- ---- lines

-- the kind's letter
abbrev pub kind_letter : Bool → ℕ
kind_letter e = cond e (letter "E") (letter "O")

-- kind and cut key, as they stand in a line
abbrev pub cut_text : Leaf → Bytes
cut_text l = (letter " " ∷ kind_letter l.exact ∷ letter " " ∷ []) ++ hex l.cut

-- the suffix, as it stands in a line
abbrev pub slot_text : Leaf → Bytes
slot_text l = (letter " " ∷ []) ++ suffix_text l.exact l.suffix

-- a line is a number, kind and cut key, the suffix and a line feed
pub line_is : (i : ℕ) (l : Leaf) → line i l ≡ decimal i ++ cut_text l ++ slot_text l ++ (10 ∷ [])
unfolding line
line_is i l = refl

-- a line's pieces
pub length_pieces : (i : ℕ) (l : Leaf) → length (line i l) ≡ length (decimal i) + length (cut_text l) + length (slot_text l) + 1
length_pieces i l =
    omega (arith, ap length (line_is i l) ∙ length-append (decimal i ++ cut_text l ++ slot_text l) (10 ∷ []), length-append (decimal i ++ cut_text l) (slot_text l), length-append (decimal i) (cut_text l))

-- the bytes of a line at most: 10 digits, blanks and the kind, 128 digits of the key, 32 suffix bits, the line feed
abbrev pub longest_line : ℕ
longest_line = 175

-- no line is longer, for a leaf number of at most 10 digits
pub length_line : (i : ℕ) (l : Leaf) → i < 10 ^ 10 → length l.cut ≤ 64 → length l.suffix ≤ 32 → length (line i l) ≤ longest_line
length_line i l h k n = omega (arith, length_pieces i l, length_decimal 9 i h, length_hex l.cut, length_suffix l.exact l.suffix n)

-- ---- the whole text

-- the first line of a listing, for so many leaves
abbrev pub head_text : ℕ → Bytes
head_text n = ascii "leaves " ++ decimal n ++ (10 ∷ [])

-- the answer to a refused image
abbrev pub refused_text : ℕ → Bytes
refused_text v = ascii "refused " ++ decimal v ++ (10 ∷ [])

-- the answer to an input that is no image's length
abbrev pub too_long_text : Bytes
too_long_text = ascii "too long" ++ (10 ∷ [])

-- the first line is no longer than a leaf's
pub length_head : (n : ℕ) → n < 10 ^ 10 → length (head_text n) ≤ longest_line
unfolding ascii ascii_from
length_head n h = omega (arith, length-append (ascii "leaves " ++ decimal n) (10 ∷ []), length-append (ascii "leaves ") (decimal n), length_decimal 9 n h)

-- a listing is its first line, and then the lines
pub listing_is : (ls : List Leaf) → listing ls ≡ head_text (length ls) ++ lines 0 ls
unfolding listing
listing_is ls = sym (append_assoc (ascii "leaves " ++ decimal (length ls)) (10 ∷ []) (lines 0 ls))

-- no leaves, no lines
pub lines_none : (i : ℕ) → lines i [] ≡ []
unfolding lines
lines_none i = refl

-- a leaf's line stands before those of the leaves behind it
pub lines_next : (i : ℕ) (l : Leaf) (ls : List Leaf) → lines i (l ∷ ls) ≡ line i l ++ lines (suc i) ls
unfolding lines
lines_next i l ls = refl

-- the lines of the first leaves stand before those of the rest, which number on
pub lines_append : (i : ℕ) (xs ys : List Leaf) → lines i (xs ++ ys) ≡ lines i xs ++ lines (i + length xs) ys
unfolding lines
lines_append i [] ys = let e : i ≡ i + 0 = omega arith in ap (λ (k : ℕ). lines k ys) e
lines_append i (l ∷ xs) ys =
    let e : suc i + length xs ≡ i + suc (length xs) = omega arith in
    ap (λ (z : Bytes). line i l ++ z) (lines_append (suc i) xs ys ∙ ap (λ (k : ℕ). lines (suc i) xs ++ lines k ys) e) ∙ sym (append_assoc (line i l) (lines (suc i) xs) (lines (i + suc (length xs)) ys))

-- one line more: behind the lines of k leaves from leaf number i on stands that of leaf number i + k
pub lines_more : (ls : List Leaf) (d : Leaf) (i k : ℕ) → i + k < length ls → lines i (take (suc k) (drop i ls)) ≡ lines i (take k (drop i ls)) ++ line (i + k) (get_or ls (i + k) d)
lines_more ls d i k h =
    let r : List Leaf = drop i ls in
    let g : k < length r = omega (arith, length-drop i ls) in
    let l : Leaf = get_or r k d in
    ap (lines i) (take-suc r k d g) ∙ lines_append i (take k r) (l ∷ [])
    ∙ ap (λ (z : Bytes). lines i (take k r) ++ z) (lines_next (i + length (take k r)) l [] ∙ ap (λ (z : Bytes). line (i + length (take k r)) l ++ z) (lines_none _) ∙ append-nil _)
    ∙ ap₂ (λ (n : ℕ) (m : Leaf). lines i (take k r) ++ line (i + n) m) (length-take-le k r (omega arith)) (get_or-drop i ls k d)

-- the text by the two tests: is the input too long, is the image accepted
unfoldable by_tests : Bool → Bool → Bytes → Bytes
by_tests true ok b = too_long_text
by_tests false true b = listing (read_leaves b)
by_tests false false b = refused_text (verdict b)

-- the printer's text is that
print_is : (b : Bytes) → print b ≡ by_tests (ltb longest_input (length b)) (eqb (verdict b) 0) b
unfolding print by_tests
print_is b = go (ltb longest_input (length b)) (eqb (verdict b) 0)
  where
    go : (long ok : Bool) →
        ◌≡◌ {A = Bytes} (elim long [ true ↦ too_long_text | false ↦ elim ok [ false ↦ refused_text (verdict b) | true ↦ listing (read_leaves b) ] ]) (by_tests long ok b)
    go true ok = refl
    go false true = refl
    go false false = refl

-- a longer input
pub print_too_long : (b : Bytes) → longest_input < length b → print b ≡ too_long_text
unfolding by_tests
print_too_long b h = print_is b ∙ ap (λ (long : Bool). by_tests long (eqb (verdict b) 0) b) (lt-ltb longest_input (length b) h)

-- a refused image
pub print_refused : (b : Bytes) → length b ≤ longest_input → (verdict b ≡ 0 → ⊥) → print b ≡ refused_text (verdict b)
unfolding by_tests
print_refused b h n = print_is b ∙ ap₂ (λ (long ok : Bool). by_tests long ok b) (le-ltb longest_input (length b) h) (ne_eqb (verdict b) 0 n)

-- an accepted image
pub print_accepted : (b : Bytes) → length b ≤ longest_input → verdict b ≡ 0 → print b ≡ listing (read_leaves b)
unfolding by_tests
print_accepted b h e = print_is b ∙ ap₂ (λ (long ok : Bool). by_tests long ok b) (le-ltb longest_input (length b) h) (eq-eqb (verdict b) 0 e)
