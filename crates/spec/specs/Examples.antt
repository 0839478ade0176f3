-- Document 01, "Examples": the starred ones, and those of orders 2, 3, 4 and 8 of document 02, as one table of definitions with one theorem. Questions go to the leaves read back from the image.
use Rattle.std.specs.Prelude.{ℕ, ◌≡◌, refl, true, List, [], ◌∷◌, ◌++◌, map, length, get_or, replicate}
use Rattle.spec.specs.Bytes.{Bytes, count, concat, bit, ascii}
use Rattle.spec.specs.Keys.{within}
use Rattle.spec.specs.Leaves.{Leaf, leaves, reals}
use Rattle.spec.specs.Image.{level_starts, level_widths, Bodies, bodies, image}
use Rattle.spec.specs.Nodes.{read_leaves}
use Rattle.spec.specs.Rules.{no_nodes, rule_number, rule}
use Rattle.spec.specs.Struck.{struck}
use Rattle.spec.specs.Questions.{point, counted, seek, begins_with, none, found}

-- ---- the lists

-- list A: D1, D12, D2, V
unfoldable pub A : List Bytes
unfolding ascii
A = ascii "D1" ∷ ascii "D12" ∷ ascii "D2" ∷ ascii "V" ∷ []

-- the same with VAN for V
unfoldable pub VAN : List Bytes
unfolding ascii
VAN = ascii "D1" ∷ ascii "D12" ∷ ascii "D2" ∷ ascii "VAN" ∷ []

-- the key FF alone
abbrev pub FF : List Bytes
FF = (0xFF ∷ []) ∷ []

-- the keys FF and FF FF
abbrev pub FF_FF : List Bytes
FF_FF = (0xFF ∷ []) ∷ (0xFF ∷ 0xFF ∷ []) ∷ []

-- order 2's key S017 FF 01, and S017 FF 02
unfoldable pub S017 : List Bytes
unfolding ascii
S017 = (ascii "S017" ++ (0xFF ∷ 0x01 ∷ [])) ∷ (ascii "S017" ++ (0xFF ∷ 0x02 ∷ [])) ∷ []

-- the highest two keys of 64 bytes
abbrev pub FF_64 : List Bytes
FF_64 = (replicate 63 0xFF ++ (0xFE ∷ [])) ∷ replicate 64 0xFF ∷ []

-- ---- what is computed of a list

-- the bodies of a list's image without hash bits, by dense levels and n
unfoldable pub bodies_of : ℕ → ℕ → List Bytes → Bodies
unfolding bodies leaves
bodies_of dense n ks = bodies dense (leaves 0 n ks)

-- a list's image without hash bits, by version, dense levels and n
unfoldable pub image_of : ℕ → ℕ → ℕ → List Bytes → Bytes
unfolding image leaves
image_of version dense n ks = image (record { version = version; dense_levels = dense; real_width = n; hash_width = 0 }) (leaves 0 n ks)

-- a list's image of version 1 without dense levels, by h and n
unfoldable pub hashed_image : ℕ → ℕ → List Bytes → Bytes
unfolding image leaves
hashed_image h n ks = image (record { version = 1; dense_levels = 0; real_width = n; hash_width = h }) (leaves h n ks)

-- the body of LV, without suffixes
unfoldable pub starts_of : List Bytes → Bytes
unfolding level_starts level_widths leaves
starts_of ks = level_starts (level_widths (leaves 0 0 ks))

-- the leaves read back from a list's image of version 1 without dense levels and hash bits
unfoldable pub leaves_read : ℕ → List Bytes → List Leaf
unfolding image_of read_leaves
leaves_read n ks = read_leaves (image_of 1 0 n ks)

-- the point replies to keys, in their order, over leaves with h hash bits
unfoldable pub points : ℕ → List Leaf → List Bytes → List ℕ
unfolding point
points h ls ks = map (point h ls) ks

-- the rules behind them
unfoldable pub rules : ℕ → List Leaf → List Bytes → List ℕ
unfolding rule
rules h ls ks = map (λ k. rule_number (rule h ls k)) ks

-- a seek's number and key, or nothing
unfoldable pub sought_at : List Leaf → Bytes → Bytes
unfolding seek
sought_at ls start = elim (seek ls start) [ none ↦ [] | found i k ↦ i ∷ k ]

-- a leaf's suffix bits as numbers, by its number in key order
unfoldable pub suffix_of : ℕ → List Leaf → List ℕ
suffix_of i ls = map bit (get_or ls i (record { cut = []; exact = true; suffix = [] })).suffix

-- the cut keys one behind the other
unfoldable pub cut_keys : List Leaf → Bytes
unfolding concat
cut_keys ls = concat (map (λ l. l.cut) ls)

-- ---- the table

-- what is computed, and what the document says
pub data Row : Type 0 where
  ◌is◌ : Bytes → Bytes → Row

infix 5 ◌is◌
-- what is computed
abbrev pub computed : Row → Bytes
computed (a is b) = a

-- what the document says
abbrev pub said : Row → Bytes
said (a is b) = b

-- the starred examples, and those of orders 2, 3, 4 and 8
unfoldable pub table : List Row
unfolding A VAN S017 bodies_of image_of hashed_image starts_of leaves_read read_leaves leaves reals points rules counted sought_at begins_with struck suffix_of cut_keys ascii
table =
    -- A: SL 44 56 31 32 FF 32, SC 05, SB 15, RS and TS one zero entry each; 110 bytes
    ((bodies_of 0 0 A).SL is 0x44 ∷ 0x56 ∷ 0x31 ∷ 0x32 ∷ 0xFF ∷ 0x32 ∷ [])
    ∷ ((bodies_of 0 0 A).SC is 0x05 ∷ [])
    ∷ ((bodies_of 0 0 A).SB is 0x15 ∷ [])
    ∷ ((bodies_of 0 0 A).RS is 0 ∷ 0 ∷ 0 ∷ 0 ∷ [])
    ∷ ((bodies_of 0 0 A).TS is 0 ∷ 0 ∷ 0 ∷ 0 ∷ [])
    ∷ (length (image_of 1 0 0 A) ∷ [] is 110 ∷ [])
    -- A, dense 1: DL byte 8 is 10 and byte 10 is 40; DC byte 8 is 10; SL 31 32 FF 32, SC 01, SB 05; RL 0 0 2 2, RC 0 0 1 1
    ∷ ((bodies_of 1 0 A).DL is replicate 8 0 ++ (0x10 ∷ 0 ∷ 0x40 ∷ replicate 21 0))
    ∷ ((bodies_of 1 0 A).DC is replicate 8 0 ++ (0x10 ∷ replicate 23 0))
    ∷ ((bodies_of 1 0 A).SL is 0x31 ∷ 0x32 ∷ 0xFF ∷ 0x32 ∷ [])
    ∷ ((bodies_of 1 0 A).SC is 0x01 ∷ [])
    ∷ ((bodies_of 1 0 A).SB is 0x05 ∷ [])
    ∷ ((bodies_of 1 0 A).RL is 0 ∷ 0 ∷ 0 ∷ 0 ∷ 0 ∷ 0 ∷ 0 ∷ 0 ∷ 2 ∷ 0 ∷ 0 ∷ 0 ∷ 2 ∷ 0 ∷ 0 ∷ 0 ∷ [])
    ∷ ((bodies_of 1 0 A).RC is 0 ∷ 0 ∷ 0 ∷ 0 ∷ 0 ∷ 0 ∷ 0 ∷ 0 ∷ 1 ∷ 0 ∷ 0 ∷ 0 ∷ 1 ∷ 0 ∷ 0 ∷ 0 ∷ [])
    -- the empty list: 94 bytes
    ∷ (length (image_of 1 0 0 []) ∷ [] is 94 ∷ [])
    -- the key FF alone: SL FF, a real label
    ∷ ((bodies_of 0 0 FF).SL is 0xFF ∷ [])
    ∷ (cut_keys (leaves_read 0 FF) is 0xFF ∷ [])
    -- FF and FF FF: SL FF FF FF, SC 01, SB 03
    ∷ ((bodies_of 0 0 FF_FF).SL is 0xFF ∷ 0xFF ∷ 0xFF ∷ [])
    ∷ ((bodies_of 0 0 FF_FF).SC is 0x01 ∷ [])
    ∷ ((bodies_of 0 0 FF_FF).SB is 0x03 ∷ [])
    -- A, points: D1 1, D10 0, D 0, D2x 1, empty 0
    ∷ (points 0 (leaves_read 0 A) (ascii "D1" ∷ ascii "D10" ∷ ascii "D" ∷ ascii "D2x" ∷ [] ∷ []) is 1 ∷ 0 ∷ 0 ∷ 1 ∷ 0 ∷ [])
    -- A, counts: D12Z to D2 gives 2; D11 to D13 gives 1
    ∷ (counted (leaves_read 0 A) (ascii "D12Z") (ascii "D2") ∷ [] is 2 ∷ [])
    ∷ (counted (leaves_read 0 A) (ascii "D11") (ascii "D13") ∷ [] is 1 ∷ [])
    -- with VAN for V the image is the same; D2a to V counts 2
    ∷ (image_of 1 0 0 VAN is image_of 1 0 0 A)
    ∷ (counted (leaves_read 0 VAN) (ascii "D2a") (ascii "V") ∷ [] is 2 ∷ [])
    -- A, seeks: empty gives 0 D1; D13 gives 2 D2; D2a gives 2 D2a; W none
    ∷ (sought_at (leaves_read 0 A) [] is 0 ∷ ascii "D1")
    ∷ (sought_at (leaves_read 0 A) (ascii "D13") is 2 ∷ ascii "D2")
    ∷ (sought_at (leaves_read 0 A) (ascii "D2a") is 2 ∷ ascii "D2a")
    ∷ (sought_at (leaves_read 0 A) (ascii "W") is [])
    -- D1, D12, D2, VAN, n 8: V's suffix is 01000001, so SV is 82 00 00 00; point VAX 1, VB 0; seek VB none; seek V gives 3 VA
    ∷ (suffix_of 3 (leaves_read 8 VAN) is 0 ∷ 1 ∷ 0 ∷ 0 ∷ 0 ∷ 0 ∷ 0 ∷ 1 ∷ [])
    ∷ ((bodies_of 0 8 VAN).SV is 0x82 ∷ 0 ∷ 0 ∷ 0 ∷ [])
    ∷ (points 0 (leaves_read 8 VAN) (ascii "VAX" ∷ ascii "VB" ∷ []) is 1 ∷ 0 ∷ [])
    ∷ (sought_at (leaves_read 8 VAN) (ascii "VB") is [])
    ∷ (sought_at (leaves_read 8 VAN) (ascii "V") is 3 ∷ ascii "VA")
    -- order 2: the stem S017 has S017 FF 01 behind it, and S018 has not; an empty stem covers every key
    ∷ (begins_with (leaves_read 0 S017) (ascii "S017") ∷ [] is 1 ∷ [])
    ∷ (begins_with (leaves_read 0 S017) (ascii "S018") ∷ [] is 0 ∷ [])
    ∷ (begins_with (leaves 0 0 FF_64) [] ∷ [] is 1 ∷ [])
    -- order 3, rules behind points: A, D1 3, D10 1, D 2, D2x 4, empty 2, and D1 FF 1, since the extra FF is no label; D1, D12, D2, VAN, n 8, VAX 4, VB 5; FF and FF FF, FF 3, FF FF 4, FF FE 1
    ∷ (rules 0 (leaves_read 0 A) (ascii "D1" ∷ ascii "D10" ∷ ascii "D" ∷ ascii "D2x" ∷ [] ∷ (ascii "D1" ++ (0xFF ∷ [])) ∷ []) is 3 ∷ 1 ∷ 2 ∷ 4 ∷ 2 ∷ 1 ∷ [])
    ∷ (rules 0 (leaves_read 8 VAN) (ascii "VAX" ∷ ascii "VB" ∷ []) is 4 ∷ 5 ∷ [])
    ∷ (rules 0 (leaves_read 0 FF_FF) ((0xFF ∷ []) ∷ (0xFF ∷ 0xFF ∷ []) ∷ (0xFF ∷ 0xFE ∷ []) ∷ []) is 3 ∷ 4 ∷ 1 ∷ [])
    -- order 8: A has its levels' first nodes 0, 1 and 2; in version 2 it has 128 bytes, and the empty list 100; the cut keys read back, with a dense level, are the same
    ∷ (starts_of A is 0 ∷ 0 ∷ 0 ∷ 0 ∷ 1 ∷ 0 ∷ 0 ∷ 0 ∷ 2 ∷ 0 ∷ 0 ∷ 0 ∷ [])
    ∷ (length (image_of 2 0 0 A) ∷ [] is 128 ∷ [])
    ∷ (length (image_of 2 0 0 []) ∷ [] is 100 ∷ [])
    ∷ (cut_keys (read_leaves (image_of 2 1 0 A)) is cut_keys (leaves_read 0 A))
    -- order 4: D1, D12, D2, VAN, h 4, n 8: header byte 5 is 4; the hash of VAN is 7C136419EA02AA42, so that V's suffix is 0100 and 01000001; the image is as long as with n 12
    -- points VAN 1, VAX 0 by rule 5, since its hash ends with 0, and D1 1, an exact leaf; the range from VAX to VAX counts 1
    ∷ (get_or (hashed_image 4 8 VAN) 5 0 ∷ length (hashed_image 4 8 VAN) ∷ [] is 4 ∷ length (image_of 1 0 12 VAN) ∷ [])
    ∷ (suffix_of 3 (read_leaves (hashed_image 4 8 VAN)) is 0 ∷ 1 ∷ 0 ∷ 0 ∷ 0 ∷ 1 ∷ 0 ∷ 0 ∷ 0 ∷ 0 ∷ 0 ∷ 1 ∷ [])
    ∷ (points 4 (read_leaves (hashed_image 4 8 VAN)) (ascii "VAN" ∷ ascii "VAX" ∷ ascii "D1" ∷ []) is 1 ∷ 0 ∷ 1 ∷ [])
    ∷ (rules 4 (read_leaves (hashed_image 4 8 VAN)) (ascii "VAN" ∷ ascii "VAX" ∷ ascii "D1" ∷ []) is 4 ∷ 5 ∷ 3 ∷ [])
    ∷ (counted (reals 4 (read_leaves (hashed_image 4 8 VAN))) (ascii "VAX") (ascii "VAX") ∷ [] is 1 ∷ [])
    -- with its hash bits struck out it is the image with h 0
    ∷ (struck (hashed_image 4 8 VAN) is image_of 1 0 8 VAN)
    ∷ []

-- Each row's two sides are equal; over the empty list every point is 0, by rule 6, for every key; and the list with VAN has no key from D2a to V.
pub examples : (map computed table ≡ map said table)
    × ((k : Bytes) → point 0 (leaves_read 0 []) k ≡ 0)
    × ((k : Bytes) → rule 0 (leaves_read 0 []) k ≡ no_nodes)
    × (count (within (ascii "D2a") (ascii "V")) VAN ≡ 0)
unfolding table leaves_read leaves point rule count within VAN S017 ascii
examples = (refl, λ k. refl, λ k. refl, refl)
