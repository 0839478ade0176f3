-- Document 01, "Records of an image", read: the header's fields and the bodies of the records.
use Rattle.std.specs.Prelude.{ℕ, ◌+◌, ◌*◌, Bool, true, false, List, [], ◌∷◌, length, get_or, take, drop, leb, eqb}
use Rattle.std.proofs.Math.Option.{Option, none, some}
use Rattle.spec.specs.Bytes.{Bytes, Bits, every, letter, from32, unpack}
use Rattle.spec.specs.Image.{Settings, slot_width, Counts, Row, version_rows, Bodies}

-- 22 bytes, and "HD"
unfoldable pub has_header : Bytes → Bool
unfolding every
has_header s = every (leb 22 (length s) ∷ eqb (get_or s 0 0) (letter "H") ∷ eqb (get_or s 1 0) (letter "D") ∷ [])

-- a record at the front: its mark, and its body within the end
unfoldable pub is_record : ℕ → ℕ → Bytes → Bool
unfolding every from32
is_record a b s = every (leb 6 (length s) ∷ leb (from32 (drop 2 s) + 6) (length s) ∷ eqb (get_or s 0 0) a ∷ eqb (get_or s 1 0) b ∷ [])

-- the bodies of these records, where each stands and nothing is left over
unfoldable pub read_bodies : List Row → Bytes → Option (List Bytes)
unfolding from32 is_record
read_bodies [] [] = some []
read_bodies [] (x ∷ s) = none
read_bodies (r ∷ rs) s =
    let n : ℕ = from32 (drop 2 s) in
    let o : Option (List Bytes) = read_bodies rs (drop (n + 6) s) in
    elim (is_record r.first r.second s)
    [ true ↦ elim o [ none ↦ none | some bs ↦ some (take n (drop 6 s) ∷ bs) ] | false ↦ none ]

-- the first twelve bodies in the order of their records, under their marks
unfoldable pub named : List Bytes → Bodies
named bs = record {
  DL = get_or bs 0 [];
  DC = get_or bs 1 [];
  DP = get_or bs 2 [];
  SL = get_or bs 3 [];
  SC = get_or bs 4 [];
  SB = get_or bs 5 [];
  SV = get_or bs 6 [];
  RL = get_or bs 7 [];
  RC = get_or bs 8 [];
  RP = get_or bs 9 [];
  RS = get_or bs 10 [];
  TS = get_or bs 11 [];
}

-- Order 8: bytes whose version byte is 2 have the records of version 2, all others those of version 1.
abbrev pub rows_of : Bytes → List Row
rows_of s = version_rows (get_or s 2 0)

-- the settings in a header
unfoldable pub read_settings : Bytes → Settings
read_settings s = record { version = get_or s 2 0; dense_levels = get_or s 3 0; real_width = get_or s 4 0; hash_width = get_or s 5 0 }

-- the counts in a header
unfoldable pub read_counts : Bytes → Counts
read_counts s = record { leaves = from32 (drop 6 s); dense_nodes = from32 (drop 10 s); sparse_entries = from32 (drop 14 s); sparse_nodes = from32 (drop 18 s) }

-- a header's settings and counts, and the bits and labels that the bodies hold by these counts
pub record Parts : Type 0 where
  pub settings : Settings
  pub counts : Counts
  pub dl : Bits
  pub dc : Bits
  pub dp : Bits
  pub sl : Bytes
  pub sc : Bits
  pub sb : Bits
  pub sv : Bits

-- the parts of a byte string with a header, and of the bodies behind it
unfoldable pub parts : Bytes → Bodies → Parts
parts s b =
    let st : Settings = read_settings s in
    let c : Counts = read_counts s in
    record {
      settings = st;
      counts = c;
      dl = take (256 * c.dense_nodes) (unpack b.DL);
      dc = take (256 * c.dense_nodes) (unpack b.DC);
      dp = take c.dense_nodes (unpack b.DP);
      sl = b.SL;
      sc = take c.sparse_entries (unpack b.SC);
      sb = take c.sparse_entries (unpack b.SB);
      sv = take (c.leaves * slot_width st) (unpack b.SV);
    }
