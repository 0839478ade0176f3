-- The counting pass key by key: it counts where the keys start and where their leaves are, and the entries and nodes that belong to them are known throughout. Used by the counting pass.
use Rattle.std.specs.Prelude.{ℕ, zero, suc, ◌+◌, ◌≤◌, ◌<◌, min, ◌≡◌, refl, List, length, get_or, replicate}
use Rattle.std.proofs.Common.{sym, ap, subst, ◌∙◌, arith}
use Rattle.spec.specs.Bytes.{Bytes}
use Rattle.spec.specs.Keys.{keys_of}
use Rattle.build_laws.specs.LevelEntries.{pred}
use Rattle.build_laws.specs.Cursors.{counts}
use Rattle.build_laws.specs.BytePass.{one_step}
use Rattle.build_laws.specs.KeyRecords.{key_at, AcceptedList, WholeRecords}
use Rattle.build_laws.specs.Passes.{ListedKey}
use Rattle.build_keys.specs.CounterRoom.{CountersRoom, room_within}
use Rattle.build_keys.specs.CountPass.{starts_of, leaf_level_of, raised, level_counts, no_counts, list_counts, count_key}
use Rattle.build_keys.specs.declared.LevelCounts.{LevelCounts}
use Rattle.build_passes.specs.LevelSums.{Balanced, balanced_none, balanced_key, key_start, root_started, starts_few, Summable, balanced_fits}
use Rattle.build_passes.specs.ListPass.{Counting, counted_key, count_reads, count_done, count_start}
use Rattle.build_laws.specs.declared.Key.{Key}
use Rattle.build_laws.specs.Limits.{counters, counter_max}

-- what holds between two keys, m where keys start so far and l where their leaves are
pub record CountingStarts (s : Bytes) (at first : ℕ) (m l : List ℕ) (final : LevelCounts) : Type 0 where
  pub entries : List ℕ
  pub nodes : List ℕ
  pub counting : Counting s at first (level_counts entries nodes l) final
  pub balanced : Balanced m (level_counts entries nodes l)
  pub few : (d : ℕ) → get_or entries d 0 ≤ counter_max
  pub begun : min 1 first ≡ min 1 (get_or m 0 0)  -- a key before this one starts on the root

-- the same with counters that are equal
pub starts_same : (s : Bytes) (at first : ℕ) (m m' l l' : List ℕ) (final : LevelCounts) → m ≡ m' → l ≡ l' → CountingStarts s at first m' l' final → CountingStarts s at first m l final
starts_same s at first m m' l l' final e g f = subst (λ (x : List ℕ). CountingStarts s at first x l final) (sym e) (subst (λ (x : List ℕ). CountingStarts s at first m' x final) (sym g) f)

-- one key: it is a key of the list, there is room for it, and what holds behind it
pub record StartsKey (s : Bytes) (at : ℕ) (m l : List ℕ) (final : LevelCounts) (k : Key) : Type 0 where
  pub listed : ListedKey s k
  pub after : at < k.at
  pub start_room : get_or m (pred k.first) 0 + 1 ≤ counter_max
  pub leaf_room : get_or l (leaf_level_of k) 0 + 1 ≤ counter_max
  pub behind : CountingStarts s (k.at + k.len) (k.next + 1) (raised m (pred k.first)) (raised l (leaf_level_of k)) final

module _ (s : Bytes) (at first : ℕ) (m l : List ℕ) (final : LevelCounts) (f : CountingStarts s at first m l final) where
  -- the key at `at`
  pub starts_key : (k : Key) → k ≡ key_at s at first → at < length s → StartsKey s at m l final k
  starts_key k is h =
      let c : LevelCounts = level_counts f.entries f.nodes l in
      let t = counted_key s at first c final k is h f.counting in
      let u = t.listed.numbers in
      let few : (d : ℕ) → get_or (counts one_step (starts_of k) f.entries) d 0 ≤ counter_max = room_within one_step counter_max (starts_of k) f.entries t.entry_room f.few in
      let p : ℕ = pred k.first in
      let g : min 1 k.first ≡ min 1 (get_or m 0 0) = ap (λ (x : Key). min 1 x.first) is ∙ f.begun in
      let w : p < counters = omega (arith, u.before, u.size) in
      record {
        listed = t.listed;
        after = t.after;
        start_room = omega (arith, few p, key_start k f.entries u f.balanced.entries_width, starts_few m c f.balanced p w);
        leaf_room = t.leaf_room;
        behind = record {
          entries = (count_key k c).entries;
          nodes = (count_key k c).nodes;
          counting = t.behind;
          balanced = balanced_key k m c u g f.balanced;
          few = few;
          begun = omega (arith, root_started k.first m (omega (arith, f.balanced.starts_width)) g);
        };
      }

  -- what the next key's reader asks
  pub starts_reads : at < length s → WholeRecords s at
  starts_reads h = count_reads s at first (level_counts f.entries f.nodes l) final h f.counting

  -- the end of the list
  pub starts_done : length s ≤ at → (l ≡ final.leaves) × Balanced m final × Summable m l
  starts_done h =
      let c : LevelCounts = level_counts f.entries f.nodes l in
      let e : c ≡ final = count_done s at first c final h f.counting in
      (ap (λ (x : LevelCounts). x.leaves) e, subst (Balanced m) e f.balanced, balanced_fits m c f.balanced (λ d g. f.few d))

no_count : (n d : ℕ) → ◌≡◌ {A = ℕ} (get_or (replicate n 0) d 0) 0
no_count zero d = refl
no_count (suc n) zero = refl
no_count (suc n) (suc d) = no_count n d

-- the start of the pass
pub starts_begin : (s : Bytes) (m l : List ℕ) → AcceptedList s → CountersRoom counter_max (keys_of s) → m ≡ replicate counters 0 → l ≡ replicate counters 0 → CountingStarts s 0 0 m l (list_counts (keys_of s))
starts_begin s m l a r e g = starts_same s 0 0 m (replicate counters 0) l (replicate counters 0) (list_counts (keys_of s)) e g (record {
  entries = replicate counters 0;
  nodes = replicate counters 0;
  counting = count_start s no_counts a r refl;
  balanced = balanced_none (replicate counters 0) refl;
  few = λ d. omega (arith, no_count counters d);
  begun = refl;
})
