-- Document 01, "Questions and replies", as orders 2, 3 and 4 change it: questions, the reply to each over a leaf list, and the bytes of both; with the numbers 24, 21, 22 and 23.
use Rattle.std.specs.Prelude.{ℕ, zero, suc, ◌+◌, ◌-◌, Bool, true, false, cond, not, ◌&&◌, ◌||◌, List, [], ◌∷◌, ◌++◌, map, length, take, drop, get_or, replicate, ltb, eqb}
use Rattle.std.proofs.Math.Option.{Option}
use Rattle.std.proofs.Math.ListN.{get_elem?}
use Rattle.spec.specs.Bytes.{Bytes, any, count, concat, letter, bit, le32, from32}
use Rattle.spec.specs.Keys.{below}
use Rattle.spec.specs.Leaves.{Leaf, reals, real, possible, lowest, highest}
use Rattle.spec.specs.Rules.{same_hash_bits, rule, rule_number}

-- point, seek, begins-with; range and count, lower then upper bound
pub data Question : Type 0 where
  QP QS QB : Bytes → Question
  QR QC : Bytes → Bytes → Question

-- ---- replies over the leaves. Order 4: "Points compare both parts", "ranges, counts and seeks use real bits only".

-- the leaf has a possible key from lo to hi, both included
unfoldable pub meets : Bytes → Bytes → Leaf → Bool
unfolding below lowest highest
meets lo hi l = not (below hi (lowest l)) && not (below (highest l) lo)

-- the leaf, with its h hash bits struck out, has that key among its possible keys; and an open leaf has the key's hash bits
unfoldable pub may_hold : ℕ → Bytes → Leaf → Bool
unfolding real possible same_hash_bits
may_hold h k l = possible (real h l) k && (l.exact || same_hash_bits h k l)

-- point: 1 if some leaf may hold that key, else 0
unfoldable pub point : ℕ → List Leaf → Bytes → ℕ
unfolding any may_hold
point h ls k = bit (any (may_hold h k) ls)

-- range: 1 if some leaf has a key in the range among its possible keys, else 0
unfoldable pub range : List Leaf → Bytes → Bytes → ℕ
unfolding any meets
range ls lo hi = bit (any (meets lo hi) ls)

-- count: how many leaves have a possible key in the range
unfoldable pub counted : List Leaf → Bytes → Bytes → ℕ
unfolding count meets
counted ls lo hi = count (meets lo hi) ls

-- what a seek finds: none, or a leaf's number in key order from 0 and a key
pub data Sought : Type 0 where
  none : Sought
  found : ℕ → Bytes → Sought

-- the greater of two keys
unfoldable pub greater : Bytes → Bytes → Bytes
unfolding below
greater a b = cond (below a b) b a

-- a seek among the leaves from number i on
unfoldable pub seek_from : ℕ → List Leaf → Bytes → Sought
unfolding below highest lowest greater
seek_from i [] start = none
seek_from i (l ∷ ls) start = let r : Sought = seek_from (suc i) ls start in cond (below (highest l) start) r (found i (greater start (lowest l)))

-- seek: the first leaf whose highest possible key is not below the start; its number, and the greater of the start and the leaf's lowest key
unfoldable pub seek : List Leaf → Bytes → Sought
unfolding seek_from
seek ls start = seek_from 0 ls start

-- the end of a begins-with question's range, by order 2: the stem filled with FF to 64 bytes
abbrev pub stem_end : Bytes → Bytes
stem_end stem = stem ++ replicate (64 - length stem) 255

-- begins-with: the range from the stem to its end, which has every key that begins with the stem
unfoldable pub begins_with : List Leaf → Bytes → ℕ
unfolding range
begins_with ls stem = range ls stem (stem_end stem)

-- a reply's letter, number and key
pub record Reply : Type 0 where
  pub letter : ℕ
  pub number : ℕ
  pub key : Bytes

-- a reply without a key
unfoldable pub keyless : ℕ → ℕ → Reply
keyless letter number = record { letter = letter; number = number; key = [] }

-- a seek's reply; none: FFFFFFFF, length 0
unfoldable pub sought : Sought → Reply
unfolding keyless
sought none = keyless (letter "S") 0xFFFFFFFF
sought (found i k) = record { letter = letter "S"; number = i; key = k }

-- the reply to a question over leaves with h hash bits each, with the question's second letter; by order 3 a point's key is one byte, the number of the rule behind the reply
unfoldable pub reply : ℕ → List Leaf → Question → Reply
unfolding keyless sought point rule reals seek begins_with range counted
reply h ls (QP k) = record { letter = letter "P"; number = point h ls k; key = rule_number (rule h ls k) ∷ [] }
reply h ls (QS start) = sought (seek (reals h ls) start)
reply h ls (QB stem) = keyless (letter "B") (begins_with (reals h ls) stem)
reply h ls (QR lo hi) = keyless (letter "R") (range (reals h ls) lo hi)
reply h ls (QC lo hi) = keyless (letter "C") (counted (reals h ls) lo hi)

-- a reply's bytes: "AN", the letter, a 32-bit number, a length byte, a key
unfoldable pub reply_bytes : Reply → Bytes
unfolding le32
reply_bytes r = letter "A" ∷ letter "N" ∷ r.letter ∷ le32 r.number ++ (length r.key ∷ r.key)

-- the replies in the order of the questions
unfoldable pub replies : ℕ → List Leaf → List Question → Bytes
unfolding concat reply reply_bytes
replies h ls qs = concat (map (λ q. reply_bytes (reply h ls q)) qs)

-- the reply at the front of reply bytes
unfoldable pub read_reply : Bytes → Reply
unfolding from32
read_reply s = record { letter = get_or s 2 0; number = from32 (drop 3 s); key = take (get_or s 7 0) (drop 8 s) }

-- the reply written for the i-th question, from 0
unfoldable pub reply_at : ℕ → Bytes → Reply
unfolding read_reply
reply_at zero s = read_reply s
reply_at (suc i) s = reply_at i (drop (get_or s 7 0 + 8) s)

-- ---- question files

-- what stands at the front and the bytes behind it, or the number that turns the file down
pub data Front (A : Type 0) : Type 0 where
  bad : ℕ → Front A
  got : A → Bytes → Front A

-- a key: a length byte, judged before the key's bytes, and the key; 21, bytes missing; 22, a length over 64
unfoldable pub read_key : Bytes → Front Bytes
read_key [] = bad 21
read_key (n ∷ s) =
    elim (ltb 64 n) [
      | true ↦ bad 22
      | false ↦
          elim (ltb (length s) n) [ true ↦ bad 21 | false ↦ got (take n s) (drop n s) ]
    ]

-- a question with one key
unfoldable pub one_key : (Bytes → Question) → Bytes → Front Question
unfolding read_key
one_key q s = elim (read_key s) [ bad r ↦ bad r | got k t ↦ got (q k) t ]

-- a question with two bounds, read from left to right; 23, lower bound above upper
unfoldable pub two_keys : (Bytes → Bytes → Question) → Bytes → Front Question
unfolding read_key below
two_keys q s =
    elim (read_key s) [
      | bad r ↦ bad r
      | got lo t ↦
          elim (read_key t) [
            | bad r ↦ bad r
            | got hi u ↦
                elim (below hi lo) [ true ↦ bad 23 | false ↦ got (q lo hi) u ]
          ]
    ]

-- the keys that the second letter of a mark asks for; 21, a wrong mark
unfoldable pub read_keys : ℕ → Bytes → Front Question
unfolding one_key two_keys
read_keys x s =
    elim (eqb x (letter "P")) [
      | true ↦ one_key QP s
      | false ↦
          elim (eqb x (letter "S")) [
            | true ↦ one_key QS s
            | false ↦
                elim (eqb x (letter "B")) [
                  | true ↦ one_key QB s
                  | false ↦
                      elim (eqb x (letter "R")) [
                        | true ↦ two_keys QR s
                        | false ↦
                            elim (eqb x (letter "C")) [ true ↦ two_keys QC s | false ↦ bad 21 ]
                      ]
                ]
          ]
    ]

-- a question: a mark and one or two keys
unfoldable pub read_question : Bytes → Front Question
unfolding read_keys
read_question [] = bad 21
read_question (a ∷ []) = bad 21
read_question (a ∷ x ∷ s) = elim (eqb a (letter "Q")) [ false ↦ bad 21 | true ↦ read_keys x s ]

-- what a question file holds: its questions, or the number that turns it down
pub data ParsedQuestions : Type 0 where
  refused : ℕ → ParsedQuestions
  taken : List Question → ParsedQuestions

-- a question before those behind it
unfoldable pub with_question : Question → ParsedQuestions → ParsedQuestions
with_question q (refused r) = refused r
with_question q (taken qs) = taken (q ∷ qs)

-- The questions of s, before which stand `done` others; `fuel` is at least the length of s. 24, a question follows 1,024 others; then the question's own number.
unfoldable pub parse_from : ℕ → ℕ → Bytes → ParsedQuestions
unfolding read_question with_question
parse_from zero done s = taken []
parse_from (suc fuel) done [] = taken []
parse_from (suc fuel) done (b ∷ s) =
    elim (eqb done 1024) [
      | true ↦ refused 24
      | false ↦
          elim (read_question (b ∷ s)) [ bad r ↦ refused r | got q t ↦ with_question q (parse_from fuel (suc done) t) ]
    ]

-- a question file's questions, or the first number that applies, question by question; an empty file has none
unfoldable pub parse_questions : Bytes → ParsedQuestions
unfolding parse_from
parse_questions s = parse_from (length s) 0 s

-- the questions of a question file; none where a number from 21 to 24 applies
unfoldable pub questions_of : Bytes → List Question
unfolding parse_questions
questions_of file = elim (parse_questions file) [ refused r ↦ [] | taken qs ↦ qs ]

-- the i-th question, from 0
unfoldable pub question_at : Bytes → ℕ → Option Question
unfolding questions_of
question_at file i = get_elem? (questions_of file) i
