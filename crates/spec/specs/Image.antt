-- Document 01, "Records of an image", as orders 4 and 8 change it: the trie's nodes in level order, the bodies, the header and the image of each version.
use Rattle.std.specs.Prelude.{ℕ, suc, ◌+◌, ◌-◌, ◌*◌, Bool, true, false, cond, not, ◌&&◌, ◌||◌, List, [], ◌∷◌, ◌++◌, map, length, get_or, take, replicate, ltb, eqb}
use Prim.Native.Char.{Char}
use Rattle.spec.specs.Bytes.{Bytes, Bits, any, filter, concat, iota, blocks, letter, dedup, equal, begins, ones, pack, le32}
use Rattle.spec.specs.Leaves.{Leaf}

-- the version of the format, dense levels, how many real bits a slot has (n), and how many hash bits (h)
pub record Settings : Type 0 where
  pub version : ℕ
  pub dense_levels : ℕ
  pub real_width : ℕ
  pub hash_width : ℕ

-- the bits of a slot
abbrev pub slot_width : Settings → ℕ
slot_width st = st.hash_width + st.real_width

-- there are versions 1 and 2
unfoldable pub known_version : ℕ → Bool
known_version v = eqb v 1 || eqb v 2

-- the header's four counts
pub record Counts : Type 0 where
  pub leaves : ℕ
  pub dense_nodes : ℕ
  pub sparse_entries : ℕ
  pub sparse_nodes : ℕ

-- ---- the trie

-- p is a proper prefix of the leaf's cut key
unfoldable pub above : Bytes → Leaf → Bool
unfolding begins
above p l = ltb (length p) (length l.cut) && begins p l.cut

-- p is a node: a proper prefix of a cut key
unfoldable pub is_node : List Leaf → Bytes → Bool
unfolding any above
is_node ls p = any (above p) ls

-- the leaf whose cut key is p, if there is one
unfoldable pub leaf_at : List Leaf → Bytes → List Leaf
unfolding filter equal
leaf_at ls p = filter (λ l. equal p l.cut) ls

-- p is a cut key
unfoldable pub is_leaf : List Leaf → Bytes → Bool
unfolding any equal
is_leaf ls p = any (λ l. equal p l.cut) ls

-- the nodes on level d, in key order
unfoldable pub on_level : List Leaf → ℕ → List Bytes
unfolding dedup filter
on_level ls d = dedup (map (λ l. take d l.cut) (filter (λ l. ltb d (length l.cut)) ls))

-- the nodes from one level to below another, in level order
unfoldable pub nodes : List Leaf → ℕ → ℕ → List Bytes
unfolding concat iota on_level
nodes ls from to = concat (map (on_level ls) (iota from (to - from)))

-- where a node's branches lead: the prefixes one byte longer, by label
unfoldable pub branches : List Leaf → Bytes → List Bytes
unfolding dedup filter above
branches ls p = dedup (map (λ l. take (suc (length p)) l.cut) (filter (above p) ls))

-- the label of the branch from p to q
abbrev pub label : Bytes → Bytes → ℕ
label p q = get_or q (length p) 0

-- ---- one node's part of each body

-- b is among the labels
unfoldable pub has : List ℕ → ℕ → Bool
unfolding any
has xs b = any (eqb b) xs

-- D-Labels: the 256 bits of a dense node, set at its labels
unfoldable pub dense_labels : List Leaf → Bytes → Bits
unfolding branches has iota
dense_labels ls p = let xs : List ℕ = map (label p) (branches ls p) in map (has xs) (iota 0 256)

-- D-HasChild: the 256 bits of a dense node, set at the labels that continue
unfoldable pub dense_has_child : List Leaf → Bytes → Bits
unfolding branches has iota is_node filter
dense_has_child ls p = let xs : List ℕ = map (label p) (filter (is_node ls) (branches ls p)) in map (has xs) (iota 0 256)

-- S-Labels: a node's labels; a node that is an exact leaf starts with an extra FF
unfoldable pub sparse_labels : List Leaf → Bytes → Bytes
unfolding is_leaf branches
sparse_labels ls p = cond (is_leaf ls p) (255 ∷ []) [] ++ map (label p) (branches ls p)

-- S-HasChild: which of these entries continue; the extra FF does not
unfoldable pub sparse_has_child : List Leaf → Bytes → Bits
unfolding is_leaf branches is_node
sparse_has_child ls p = cond (is_leaf ls p) (false ∷ []) [] ++ map (is_node ls) (branches ls p)

-- S-LOUDS: set at a node's first entry
unfoldable pub louds : List Leaf → Bytes → Bits
unfolding sparse_labels
louds ls p = true ∷ replicate (length (sparse_labels ls p) - 1) false

-- a node's suffix slots, an exact leaf's before its branches'
unfoldable pub slots : List Leaf → Bytes → Bits
unfolding concat leaf_at branches filter is_node
slots ls p = concat (map (λ l. l.suffix) (leaf_at ls p ++ concat (map (leaf_at ls) (filter (λ q. not (is_node ls q)) (branches ls p)))))

-- ---- ranks and samples

-- entry b is a 32-bit count of ones before bit w b, one entry for each begun block of w bits
unfoldable pub ranks : ℕ → Bits → Bytes
unfolding concat iota ones le32
ranks w bs = concat (map (λ b. le32 (ones (take (w * b) bs))) (iota 0 (blocks w (length bs))))

-- the positions of the ones, the first bit at i
unfoldable pub positions : ℕ → Bits → List ℕ
positions i [] = []
positions i (true ∷ bs) = i ∷ positions (suc i) bs
positions i (false ∷ bs) = positions (suc i) bs

-- entry t is the position of one number 64t + 1, for each begun 64 ones
unfoldable pub samples : Bits → Bytes
unfolding concat iota positions le32
samples bs =
    let xs : List ℕ = positions 0 bs in
    concat (map (λ t. le32 (get_or xs (64 * t) 0)) (iota 0 (blocks 64 (length xs))))

-- ---- level starts

-- the first node number of each level, from the number i on, by how many nodes each level has
unfoldable pub first_nodes : ℕ → List ℕ → List ℕ
first_nodes i [] = []
first_nodes i (w ∷ ws) = i ∷ first_nodes (i + w) ws

-- "a 32-bit first node number for each level that has nodes", by how many nodes each level has
unfoldable pub level_starts : List ℕ → Bytes
unfolding concat filter first_nodes le32
level_starts ws = concat (map le32 (first_nodes 0 (filter (ltb 0) ws)))

-- how many nodes a leaf list has on each level
unfoldable pub level_widths : List Leaf → List ℕ
unfolding iota on_level
level_widths ls = map (λ d. length (on_level ls d)) (iota 0 64)

-- ---- the records

-- a record of an image: the two letters of its mark, and the length of its body by the settings and the counts
pub record Row : Type 0 where
  pub first : ℕ
  pub second : ℕ
  pub size : Settings → Counts → ℕ

-- a row of the table below
abbrev row : Char → Char → (Settings → Counts → ℕ) → Row
row a b size = record { first = letter a; second = letter b; size = size }

-- The twelve records behind the header of either version, in their order. The builder lays an image out by this table, and the check finds the bodies and their lengths by it.
unfoldable pub rows : List Row
rows =
    row "D" "L" (λ st c. 32 * c.dense_nodes)
    ∷ row "D" "C" (λ st c. 32 * c.dense_nodes)
    ∷ row "D" "P" (λ st c. blocks 8 c.dense_nodes)
    ∷ row "S" "L" (λ st c. c.sparse_entries)
    ∷ row "S" "C" (λ st c. blocks 8 c.sparse_entries)
    ∷ row "S" "B" (λ st c. blocks 8 c.sparse_entries)
    ∷ row "S" "V" (λ st c. blocks 8 (c.leaves * slot_width st))
    ∷ row "R" "L" (λ st c. 4 * blocks 64 (256 * c.dense_nodes))
    ∷ row "R" "C" (λ st c. 4 * blocks 64 (256 * c.dense_nodes))
    ∷ row "R" "P" (λ st c. 4 * blocks 64 c.dense_nodes)
    ∷ row "R" "S" (λ st c. 4 * blocks 512 c.sparse_entries)
    ∷ row "T" "S" (λ st c. 4 * blocks 64 c.sparse_nodes)
    ∷ []

-- Order 8: "Version 2 has a thirteenth record, "LV", behind "TS"". The counts do not give the length of its body, which is judged with the body: no test reads this size.
unfoldable pub level_row : Row
level_row = row "L" "V" (λ st c. 0)

-- the records behind the twelve, of a version
unfoldable pub level_rows : ℕ → List Row
unfolding level_row
level_rows v = cond (eqb v 2) (level_row ∷ []) []

-- the records of a version
unfoldable pub version_rows : ℕ → List Row
unfolding rows level_rows
version_rows v = rows ++ level_rows v

-- the lengths of the twelve bodies that the settings and the counts give
unfoldable pub sizes : Settings → Counts → List ℕ
unfolding rows
sizes st c = map (λ r. r.size st c) rows

-- the twelve bodies, under their marks
pub record Bodies : Type 0 where
  pub DL : Bytes
  pub DC : Bytes
  pub DP : Bytes
  pub SL : Bytes
  pub SC : Bytes
  pub SB : Bytes
  pub SV : Bytes
  pub RL : Bytes
  pub RC : Bytes
  pub RP : Bytes
  pub RS : Bytes
  pub TS : Bytes

-- the bodies in the order of their records
abbrev pub in_order : Bodies → List Bytes
in_order b = b.DL ∷ b.DC ∷ b.DP ∷ b.SL ∷ b.SC ∷ b.SB ∷ b.SV ∷ b.RL ∷ b.RC ∷ b.RP ∷ b.RS ∷ b.TS ∷ []

-- the bodies behind the twelve, of a version, by how many nodes each level has
unfoldable pub level_bodies : ℕ → List ℕ → List Bytes
unfolding level_starts
level_bodies v ws = cond (eqb v 2) (level_starts ws ∷ []) []

-- a record's bytes: a two-byte mark, a 32-bit body length and a body
unfoldable pub marked : ℕ → ℕ → Bytes → Bytes
unfolding le32
marked a b body = a ∷ b ∷ le32 (length body) ++ body

-- records one behind the other, each with its body
unfoldable pub write_records : List Row → List Bytes → Bytes
unfolding marked
write_records [] bs = []
write_records (r ∷ rs) [] = []
write_records (r ∷ rs) (b ∷ bs) = marked r.first r.second b ++ write_records rs bs

-- ---- the image

-- the bodies of a leaf list by the dense levels: nodes on levels below them are dense, the rest sparse
unfoldable pub bodies : ℕ → List Leaf → Bodies
unfolding concat nodes dense_labels dense_has_child is_leaf sparse_labels sparse_has_child louds slots pack ranks samples
bodies dense ls =
    let ds : List Bytes = nodes ls 0 dense in
    let ss : List Bytes = nodes ls dense 64 in
    let dl : Bits = concat (map (dense_labels ls) ds) in
    let dc : Bits = concat (map (dense_has_child ls) ds) in
    let dp : Bits = map (is_leaf ls) ds in
    let sc : Bits = concat (map (sparse_has_child ls) ss) in
    let sb : Bits = concat (map (louds ls) ss) in
    record {
      DL = pack dl;
      DC = pack dc;
      DP = pack dp;
      SL = concat (map (sparse_labels ls) ss);
      SC = pack sc;
      SB = pack sb;
      SV = pack (concat (map (slots ls) (ds ++ ss)));
      RL = ranks 64 dl;
      RC = ranks 64 dc;
      RP = ranks 64 dp;
      RS = ranks 512 sc;
      TS = samples sb;
    }

-- the counts of a leaf list by the dense levels
unfoldable pub counts : ℕ → List Leaf → Counts
unfolding nodes concat sparse_labels
counts dense ls = record {
  leaves = length ls;
  dense_nodes = length (nodes ls 0 dense);
  sparse_entries = length (concat (map (sparse_labels ls) (nodes ls dense 64)));
  sparse_nodes = length (nodes ls dense 64);
}

-- the header, 22 bytes: "HD", version, dense levels, n, h (order 4: "The header's zero byte becomes h"), then the counts of leaves, dense nodes, sparse entries and sparse nodes
unfoldable pub header : Settings → Counts → Bytes
unfolding le32
header st c =
    letter "H" ∷ letter "D" ∷ st.version ∷ st.dense_levels ∷ st.real_width ∷ st.hash_width
    ∷ le32 c.leaves ++ (le32 c.dense_nodes ++ (le32 c.sparse_entries ++ le32 c.sparse_nodes))

-- the image of a leaf list: the header and the records of its version
unfoldable pub image : Settings → List Leaf → Bytes
unfolding counts header bodies version_rows level_widths level_bodies write_records
image st ls = header st (counts st.dense_levels ls) ++ write_records (version_rows st.version) (in_order (bodies st.dense_levels ls) ++ level_bodies st.version (level_widths ls))
