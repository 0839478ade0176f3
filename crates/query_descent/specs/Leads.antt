-- Where the first bytes of a key lead from the root, one branch a byte: what the descent that all questions share promises. What a question says of this is said by its own laws, which go along the way.
use Rattle.std.specs.Prelude.{ℕ, zero, suc, ◌+◌, ◌<◌, ◌≡◌, refl, Bool, true, false, cond, [], ◌∷◌, length, get_or, eqb}
use Rattle.std.proofs.Common.{arith, eqb-true}
use Rattle.std.proofs.lemmas.Bool.{eqb-false}
use Rattle.spec.specs.Bytes.{Bytes, shared}
use Rattle.image.specs.declared.Frame.{Frame}
use Rattle.nav_nodes.specs.declared.BranchKind.TheVariants as Kind
use Rattle.nav_nodes.specs.declared.Found.{Found}
use Rattle.nav_nodes.specs.Positions.{child_at}
use Rattle.nav_nodes.specs.FoundBranch.{node_count, FoundBranch}
use Rattle.query_descent.specs.declared.KeyEnd.{KeyEnd}
use Rattle.query_descent.specs.declared.KeyEnd.TheVariants as End

-- What node m has at byte d of a key.
pub record AtByte (s : Bytes) (f : Frame) (key : Bytes) (d m : ℕ) (b : Found) : Type 0 where
  pub more : d < length key
  pub found : FoundBranch s f m (get_or key d 0) b

-- Byte d of a key leads from node m to node c.
pub record ByteLeads (s : Bytes) (f : Frame) (key : Bytes) (d m c : ℕ) : Type 0 where
  pub branch : Found
  pub here : AtByte s f key d m branch
  pub continues : branch.kind ≡ Kind.Child
  pub child_is : c ≡ child_at s f m branch.at.0

-- The first d bytes of a key lead from the root to node m.
pub data Leads (s : Bytes) (f : Frame) (key : Bytes) : ℕ → ℕ → Type 0 where
  root : 0 < node_count f → Leads s f key 0 0
  next : {d m c : ℕ} → Leads s f key d m → ByteLeads s f key d m c → Leads s f key (d + 1) c

-- What holds at the root and goes on from each node to the child behind the key's next byte holds where the key leads.
pub along : {s : Bytes} {f : Frame} {key : Bytes} {d m : ℕ} (P : ℕ → ℕ → Type 0) → (0 < node_count f → P 0 0) → ((d m c : ℕ) → P d m → ByteLeads s f key d m c → P (d + 1) c) → Leads s f key d m → P d m
along P z n (root h) = z h
along P z n (next {d} {m} {c} l b) = n d m c (along P z n l) b

-- The first bytes of a key lead to a node that has no branch with the next one, which is one of the first n.
pub record BranchMissing (s : Bytes) (f : Frame) (key : Bytes) (n : ℕ) : Type 0 where
  pub depth : ℕ
  pub node : ℕ
  pub leads : Leads s f key depth node
  pub inside : depth < n
  pub branch : Found
  pub here : AtByte s f key depth node branch
  pub absent : branch.kind ≡ Kind.Absent

-- The first bytes of a key lead to node m, whose branch with the next one, of the first n, stands at position p and ends at an open leaf; d bytes are passed with it.
pub record LeafBehind (s : Bytes) (f : Frame) (key : Bytes) (n m p d : ℕ) : Type 0 where
  pub depth : ℕ
  pub passed : d ≡ depth + 1
  pub leads : Leads s f key depth m
  pub inside : depth < n
  pub branch : Found
  pub here : AtByte s f key depth m branch
  pub ends : branch.kind ≡ Kind.Leaf
  pub at_is : p ≡ branch.at.0

-- The first n bytes of a key lead there.
abbrev pub LeadsTo : Bytes → Frame → Bytes → ℕ → KeyEnd → Type 0
LeadsTo s f key n End.NoNodes = node_count f ≡ 0
LeadsTo s f key n End.NoBranch = BranchMissing s f key n
LeadsTo s f key n (End.Node m) = Leads s f key n m.0
LeadsTo s f key n (End.Leaf m p d) = LeafBehind s f key n m.0 p.0 d

-- ---- two keys along the bytes that they share

-- a byte of the shared prefix stands in both keys
pub shared_byte : (p q : Bytes) (i : ℕ) → i < shared p q → (i < length p) × (i < length q) × (get_or p i 0 ≡ get_or q i 0)
unfolding shared
shared_byte [] q i h = absurd (omega arith)
shared_byte (x ∷ p) [] i h = absurd (omega arith)
shared_byte (x ∷ p) (y ∷ q) i h = go (eqb x y) refl (shared_byte p q) i h
  where
    go : (b : Bool) → eqb x y ≡ b → ((j : ℕ) → j < shared p q → (j < length p) × (j < length q) × (get_or p j 0 ≡ get_or q j 0))
        → (i : ℕ) → i < cond b (suc (shared p q)) 0 → (i < suc (length p)) × (i < suc (length q)) × (get_or (x ∷ p) i 0 ≡ get_or (y ∷ q) i 0)
    go true e r zero h = (omega arith, omega arith, eqb-true x y e)
    go true e r (suc i) h = let t = r i (omega arith) in (omega arith, omega arith, t.2)
    go false e r i h = absurd (omega arith)

-- where both keys go on behind the shared prefix, their next bytes differ
pub shared_parts : (p q : Bytes) (i : ℕ) → i ≡ shared p q → i < length p → i < length q → get_or p i 0 ≡ get_or q i 0 → ⊥
unfolding shared
shared_parts [] q i e h g same = omega arith
shared_parts (x ∷ p) [] i e h g same = omega arith
shared_parts (x ∷ p) (y ∷ q) i e h g same = go (eqb x y) refl (shared_parts p q) i e h g same
  where
    go : (b : Bool) → eqb x y ≡ b → ((j : ℕ) → j ≡ shared p q → j < length p → j < length q → get_or p j 0 ≡ get_or q j 0 → ⊥)
        → (i : ℕ) → i ≡ cond b (suc (shared p q)) 0 → i < suc (length p) → i < suc (length q) → get_or (x ∷ p) i 0 ≡ get_or (y ∷ q) i 0 → ⊥
    go true c r zero e h g same = omega arith
    go true c r (suc i) e h g same = r i (omega arith) (omega arith) (omega arith) same
    go false c r zero e h g same = eqb-false x y c same
    go false c r (suc i) e h g same = omega arith
