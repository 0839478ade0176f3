-- A chain of levels as the code gives it: what holds of every node on it.
use Rattle.std.specs.Prelude.{ℕ, zero, suc, ◌+◌, ◌-◌, ◌*◌, ◌<◌, ◌≤◌, ◌≡◌, []}
use Rattle.std.proofs.Common.{sym, ap, ap₂, ◌∙◌, arith, mul-le-mul_right, add-mul}
use Rattle.spec.specs.Bytes.{Bytes}
use Rattle.image.specs.declared.Frame.{Frame}
use Rattle.nav_nodes.specs.Accepted.{Accepted, nodes}
use Rattle.nav_nodes.specs.Slots.{leaves_before}
use Rattle.nav_nodes.specs.Descent.{children_before}
use Rattle.nav_nodes.specs.FoundBranch.{node_count}
use Rattle.query_descent.specs.LevelSums.{slots_below, slots_ended}
use Rattle.query_sums.specs.LevelTable.{level_count, level_at, level_inside, level_within, level_next, levels_few, entries_before, chain_leaves, chain_flat, chain_next}
use Rattle.query_sums.specs.declared.Chain.{Chain}

-- the nodes of a chain, and those of the level behind it
abbrev pub chain_end : Chain → ℕ
chain_end r = r.start + r.levels * r.width

-- every node up to the end has the same leaves before it, and leads to the node that many numbers on as a level has nodes
pub record Flat (s : Bytes) (f : Frame) (r : Chain) : Type 0 where
  pub inside : chain_end r ≤ node_count f
  pub leaves_are : (m : ℕ) → r.start ≤ m → m ≤ chain_end r → leaves_before (nodes s f) m ≡ r.leaves
  pub next_is : (m : ℕ) → r.start ≤ m → m ≤ chain_end r → children_before (nodes s f) m + 1 ≡ m + r.width

-- a chain from level t on
pub record ChainOf (s : Bytes) (f : Frame) (t : ℕ) (r : Chain) : Type 0 where
  pub deep : t + r.levels ≤ 64
  pub flat : Flat s f r

-- Level t and k levels behind it have w nodes each, the first of them from node n on.
pub record EqualLevels (s : Bytes) (f : Frame) (t n w k : ℕ) : Type 0 where
  pub inside : t + k < level_count s f
  pub last : level_at s f (t + k) ≡ n + k * w
  pub behind : level_at s f (suc (t + k)) ≡ n + k * w + w

-- such levels end within the nodes
pub levels_within : (s : Bytes) (f : Frame) → Accepted s f → (t n w k : ℕ) → EqualLevels s f t n w k → n + k * w + w ≤ node_count f
levels_within s f a t n w k q = omega (arith, level_within s f a (suc (t + k)), q.behind)

-- one more of them
pub levels_more : (s : Bytes) (f : Frame) (t n w k : ℕ) → EqualLevels s f t n w k → t + k + 1 < level_count s f → level_at s f (t + k + 2) ≡ n + k * w + w + w → EqualLevels s f t n w (k + 1)
levels_more s f t n w k q h e =
    let x : t + (k + 1) ≡ suc (t + k) = omega arith in
    let y : suc (t + (k + 1)) ≡ t + k + 2 = omega arith in
    let z : n + (k + 1) * w ≡ n + k * w + w = omega (arith, add-mul k 1 w) in
    record { inside = omega arith; last = ap (level_at s f) x ∙ q.behind ∙ sym z; behind = ap (level_at s f) y ∙ e ∙ ap (λ (i : ℕ). i + w) (sym z) }

-- a level by itself
pub levels_one : (s : Bytes) (f : Frame) (t n w : ℕ) → t < level_count s f → level_at s f t ≡ n → level_at s f (suc t) ≡ n + w → EqualLevels s f t n w 0
levels_one s f t n w h e g =
    let x : t + 0 ≡ t = omega arith in
    let y : suc (t + 0) ≡ suc t = omega arith in
    record { inside = omega arith; last = ap (level_at s f) x ∙ omega arith; behind = ap (level_at s f) y ∙ omega arith }

-- the level itself
pub equal_first : (s : Bytes) (f : Frame) (t n w : ℕ) → EqualLevels s f t n w 0 → level_at s f t ≡ n
equal_first s f t n w o = let e : t + 0 ≡ t = omega arith in let z : n + 0 * w ≡ n = omega arith in ap (level_at s f) (sym e) ∙ o.last ∙ z

pub equal_second : (s : Bytes) (f : Frame) (t n w : ℕ) → EqualLevels s f t n w 0 → level_at s f (suc t) ≡ n + w
equal_second s f t n w o = let e : suc (t + 0) ≡ suc t = omega arith in let z : n + 0 * w + w ≡ n + w = omega arith in ap (level_at s f) (sym e) ∙ o.behind ∙ z

-- one behind the branches that continue before it starts the next
pub equal_next : (s : Bytes) (f : Frame) → Accepted s f → (t n w : ℕ) → EqualLevels s f t n w 0 → children_before (nodes s f) n + 1 ≡ n + w
equal_next s f a t n w o =
    let h : t < level_count s f = omega (arith, o.inside) in
    ap (λ (m : ℕ). children_before (nodes s f) m + 1) (sym (equal_first s f t n w o)) ∙ sym (level_next s f a t h) ∙ equal_second s f t n w o

-- Levels with as many nodes each are a chain where these have an entry each.
pub chain_found : (s : Bytes) (f : Frame) (a : Accepted s f) (t n w k : ℕ) (r : Chain) → EqualLevels s f t n w 0 → EqualLevels s f t n w k → entries_before s f (n + k * w) ≡ entries_before s f n + k * w
    → r.start ≡ n → r.width ≡ w → r.levels ≡ k → r.leaves + (n + w) ≡ entries_before s f n + 1 → ChainOf s f t r
chain_found s f a t n w k r o q sole rs rw' rl rv =
    let first = equal_first s f t n w o in
    let second = equal_second s f t n w o in
    let e : chain_end r ≡ n + k * w = ap₂ ◌+◌ rs (ap₂ ◌*◌ rl rw') in
    let v = chain_leaves s f a t k n w q.inside first second q.last q.behind sole in
    record {
      deep = omega (arith, levels_few s f a, q.inside);
      flat = record {
        inside = omega (arith, level_inside s f a (t + k) q.inside, q.last, e);
        leaves_are = λ m low high. omega (arith, v, chain_flat s f a t k n w q.inside first second q.last q.behind sole m (omega arith) (omega (arith, e)));
        next_is = λ m low high. omega (arith, chain_next s f a t k n w q.inside first second q.last q.behind sole m (omega arith) (omega (arith, e)));
      };
    }

-- the sum over levels of a chain, from a node of its first level or the one behind it
module _ (s : Bytes) (f : Frame) (r : Chain) (q : Flat s f r) (n : ℕ) (low : r.start ≤ n) (high : n ≤ r.start + r.width) where
  node_within : (j : ℕ) → j < r.levels → n + j * r.width ≤ chain_end r
  node_within j h = omega (arith, mul-le-mul_right {m = j + 1} {n = r.levels} r.width (omega arith), add-mul j 1 r.width)

  pub chain_sum : (j l : ℕ) → j ≤ r.levels → j ≤ l → slots_below (nodes s f) l n [] ≡ j * r.leaves + slots_below (nodes s f) (l - j) (n + j * r.width) []
  chain_sum zero l h k =
      let e : l - 0 ≡ l = omega arith in
      let z : n + 0 * r.width ≡ n = omega arith in
      rw (e, z) (omega arith)
  chain_sum (suc j) l h k =
      let m : ℕ = n + j * r.width in
      let w = node_within j (omega arith) in
      let next : 1 + children_before (nodes s f) m ≡ n + suc j * r.width = omega (arith, q.next_is m (omega arith) w) in
      let levels : l - j - 1 ≡ l - suc j = omega arith in
      omega (
        arith,
        chain_sum j l (omega arith) (omega arith),
        slots_ended (nodes s f) (l - j) m (omega arith),
        q.leaves_are m (omega arith) w,
        ap₂ (λ (i c : ℕ). slots_below (nodes s f) i c []) levels next,
      )
