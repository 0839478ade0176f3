-- What an accepted image's nodes say of its leaf list, by where a key leads: the laws that join the questions' code to their definitions.
use Rattle.std.specs.Prelude.{ℕ, ◌+◌, ◌-◌, ◌<◌, ◌≤◌, ◌≡◌, Bool, true, false, [], length, get_or, drop}
use Rattle.std.proofs.Math.Path.{ap}
use Rattle.std.proofs.Common.{◌∙◌, arith}
use Rattle.spec.specs.Bytes.{Bytes, Bits, count, bit}
use Rattle.spec.specs.Nodes.{read_leaves}
use Rattle.spec.specs.Questions.{counted}
use Rattle.theory.specs.Terms.{IsBytes, Bound}
use Rattle.image.specs.declared.Frame.{Frame}
use Rattle.image.specs.declared.ValuePos.{ValuePos}
use Rattle.nav_branches.specs.declared.LeafStop.{LeafStop}
use Rattle.nav_branches.specs.declared.LeafStop.TheVariants.{Nowhere, Exact, Open}
use Rattle.nav_nodes.specs.Slots.{slot_of}
use Rattle.nav_nodes.specs.Descent.{descend, leaves_below, value}
use Rattle.query_descent.specs.Bounds.{slot_passed, slot_reached}
use Rattle.query_descent.specs.Ordered.{passed, reached, counted_is}
use Rattle.query_descent.specs.LevelSums.{slots_below, slots_nothing, below_sums}
use Rattle.query_descent.specs.Root.{leads_to_leaf, led_is, passed_is, reached_is}
use Rattle.query_descent.specs.Steps.{stop_of}
use Rattle.nav_nodes.specs.FromCheck.{all_bytes}
use Rattle.nav_nodes.specs.Accepted.{Accepted, nodes, real_leaves, real_realizable, real_sized}

-- bytes by position are bytes
pub all_small : (k : Bytes) → ((i : ℕ) → get_or k i 0 < 256) → IsBytes k
all_small = all_bytes

-- a key of at most 64 bytes
pub bound : (k : Bytes) → ((i : ℕ) → get_or k i 0 < 256) → length k ≤ 64 → Bound k
bound k h l = record { fits = l; bytes = all_small k h }

module _ (s : Bytes) (f : Frame) (a : Accepted s f) (k : Bytes) where
  -- The leaves to which a key leads: what counts there.
  pub led_stops : (ends : Bool) (q : Bits → Bytes → Bool) → count (leads_to_leaf ends q k) (read_leaves s) ≡ value ends q f.width (nodes s f) (descend (nodes s f) 0 k)
  led_stops ends q = led_is f.width f.width (read_leaves s) (nodes s f) a.realizable a.well_sized a.trie_is a.writable.wide ends q k

  passed_stops : passed (real_leaves s f) k ≡ leaves_below (nodes s f) 64 0 0 k + value false (slot_passed f.hash_width (length k)) f.width (nodes s f) (descend (nodes s f) 0 k)
  passed_stops = passed_is f.width f.width (read_leaves s) (nodes s f) a.realizable a.well_sized a.trie_is a.writable.wide f.hash_width k

  reached_stops : reached (real_leaves s f) k ≡ leaves_below (nodes s f) 64 0 0 k + value true (slot_reached f.hash_width (length k)) f.width (nodes s f) (descend (nodes s f) 0 k)
  reached_stops = reached_is f.width f.width (read_leaves s) (nodes s f) a.realizable a.well_sized a.trie_is a.writable.wide f.hash_width k

  module _ (stop : LeafStop) (d : ℕ) (e : descend (nodes s f) 0 k ≡ stop_of stop (drop d k)) where
    -- What counts where the key leads: nothing; an exact leaf; an open one that passes the test.
    module _ (ends : Bool) (q : Bits → Bytes → Bool) where
      pub value_none : stop ≡ Nowhere → value ends q f.width (nodes s f) (descend (nodes s f) 0 k) ≡ 0
      unfolding value
      value_none h = ap (value ends q f.width (nodes s f)) e ∙ rw h

      pub value_exact : stop ≡ Exact → value ends q f.width (nodes s f) (descend (nodes s f) 0 k) ≡ bit ends
      unfolding value
      value_exact h = ap (value ends q f.width (nodes s f)) e ∙ rw h

      pub value_open : (v : ValuePos) → stop ≡ Open v → value ends q f.width (nodes s f) (descend (nodes s f) 0 k) ≡ bit (q (slot_of f.width (nodes s f) v.0) (drop d k))
      unfolding value
      value_open v h = ap (value ends q f.width (nodes s f)) e ∙ rw h

-- Count: the leaves that the upper bound has reached, less those that the lower one has passed.
pub count_is : (s : Bytes) (f : Frame) → Accepted s f → (lo hi : Bytes) → counted (real_leaves s f) lo hi ≡ reached (real_leaves s f) hi - passed (real_leaves s f) lo
count_is s f a lo hi = counted_is f.real_width (real_leaves s f) lo hi (real_realizable s f a).ordered (real_sized s f a)

-- By the bounds of both keys: the sums of their slot numbers, and what counts where each key leads.
pub count_bounds : (s : Bytes) (f : Frame) → Accepted s f → (lo hi : Bytes) → length lo ≤ 64 → length hi ≤ 64 → (a b u v : ℕ) → a ≡ slots_below (nodes s f) 64 0 lo → b ≡ slots_below (nodes s f) 64 0 hi
    → u ≡ value false (slot_passed f.hash_width (length lo)) f.width (nodes s f) (descend (nodes s f) 0 lo) → v ≡ value true (slot_reached f.hash_width (length hi)) f.width (nodes s f) (descend (nodes s f) 0 hi)
    → counted (real_leaves s f) lo hi ≡ (b + v) - (a + u)
count_bounds s f z lo hi g h a b u v d e p q =
    count_is s f z lo hi ∙ omega (arith, passed_stops s f z lo, reached_stops s f z hi, below_sums (nodes s f) 64 0 0 lo (omega arith) g, below_sums (nodes s f) 64 0 0 hi (omega arith) h)

-- The leaves that a key has passed: the sum of the slot numbers of its bound, with what counts where it leads, less that of the empty key's.
pub passed_sums : (s : Bytes) (f : Frame) → Accepted s f → (k : Bytes) (base sum : ℕ) → length k ≤ 64 → base ≡ slots_below (nodes s f) 64 0 []
    → slots_below (nodes s f) 64 0 k + value false (slot_passed f.hash_width (length k)) f.width (nodes s f) (descend (nodes s f) 0 k) ≡ sum → (base ≤ sum) × (sum - base ≡ passed (real_leaves s f) k)
passed_sums s f a k base sum h p q =
    let n = slots_nothing (nodes s f) 64 0 in
    let w = below_sums (nodes s f) 64 0 0 k (omega arith) h in
    (omega arith, omega (arith, passed_stops s f a k))
