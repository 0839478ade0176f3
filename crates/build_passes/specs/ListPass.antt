-- A pass over an accepted key list, key by key. Used by the passes.
use Prim.Native.Nat.{ℕ, suc, ◌+◌, ◌≤◌, ◌<◌}
use Rattle.std.specs.Prelude.{◌≡◌, refl, get_or}
use Rattle.std.proofs.Math.Path.{sym, ap, ap₂, subst}
use Rattle.std.proofs.Common.{◌∙◌, arith, add-one, length-set, lt-ltb}
use mathlib.Core.List.{List, [], ◌∷◌, ◌++◌}
use Rattle.std.proofs.Math.ListN.{length}
use Rattle.spec.specs.Bytes.{Bytes, bit, shared}
use Rattle.spec.specs.Keys.{keys_of}
use Rattle.theory.specs.Terms.{Keys, Ascending}
use Rattle.bits.specs.Bits.{key}
use Rattle.build_laws.specs.SlotWidths.{no_bits}
use Rattle.build_laws.specs.KeyRecords.{Records}
use Rattle.build_laws.specs.LevelEntries.{pred}
use Rattle.theory.proofs.Neighbours.{next_shared}
use Rattle.build_laws.specs.Emissions.{Emission, emission, emissions}
use Rattle.build_laws.specs.Cursors.{counts, counts_append, length_counts}
use Rattle.build_laws.specs.BitPass.{Room, room_append}
use Rattle.build_laws.specs.BytePass.{ByteState, one_step}
use Rattle.build_laws.specs.PassEmissions.{leaf_level, key_slot, start_emissions, slot_emissions, KeyNumbers, NextLonger, key_numbers, first_longer}
use Rattle.build_laws.specs.Counters.{entry_counts, node_counts, leaf_counts}
use Rattle.build_laws.specs.declared.Entry.{Entry}
use Rattle.build_laws.specs.declared.Kind.{Kind}
use Rattle.build_laws.specs.declared.Key.{Key}
use Rattle.build_laws.specs.declared.Pass.{Pass}
use Rattle.build_laws.specs.declared.SlotBits.{SlotBits}
use Rattle.build_laws.specs.declared.Body.{Body}
use Rattle.build_laws.specs.declared.Body.TheVariants.{Entries, Slots}
use Rattle.build_laws.specs.KeyRecords.{key_size, key_at, shared_behind, AcceptedList, WholeRecords}
use Rattle.build_laws.specs.Passes.{key_bytes, ListedKey, key_entries, all_entries, kind_step, kind_ones, capacity, write_entry, write_entries, set_all, write_key, write_keys, KeyRoom, KeysRoom, pass_key, pass_keys, KeyRoomOf, PassRoom}
use Rattle.build_keys.specs.CounterRoom.{no_ones, CountersRoom}
use Rattle.build_keys.specs.CountPass.{key_starts, starts_of, leaf_level_of, CounterRoom, no_counts, list_counts, count_key, counts_same}
use Rattle.build_keys.specs.declared.LevelCounts.{LevelCounts}
use Rattle.build_laws.specs.KeyLaws.{behind_none, key_length}
use Rattle.build_keys.specs.EntryLaws.{write_none, entry_cursors}
use Rattle.build_laws.specs.Limits.{counters, counter_max}

-- the keys ks are left from `at` on, the first of which starts nodes from the level `first` on
pub record KeysLeft (s : Bytes) (at first : ℕ) (ks : List Bytes) : Type 0 where
  pub records : Records s at ks
  pub each : Keys ks
  pub up : Ascending ks
  pub longer : NextLonger (pred first) ks

-- the key of the record at `at`, and the keys left behind it
pub record NextKey (s : Bytes) (at first n q : ℕ) (left : List Bytes) : Type 0 where
  pub ks : List Bytes
  pub is : left ≡ key s (at + 3) n ∷ ks
  pub fits : at + 3 + n ≤ length s
  pub next_fits : at + 3 + n < length s → at + 3 + n + 3 + get_or s (at + 3 + n + 2) 0 ≤ length s
  pub shares : next_shared (key s (at + 3) n) ks ≡ q
  pub numbers : KeyNumbers (pred first) q n
  pub behind : KeysLeft s (at + 3 + n) (q + 1) ks

shared_next : (s : Bytes) (a n : ℕ) (ks : List Bytes) → Records s (a + n) ks → next_shared (key s a n) ks ≡ shared_behind s a n
unfolding next_shared shared_behind
shared_next s a n [] r = behind_none s a n r
shared_next s a n (m ∷ ms) r = rw (lt-ltb (a + n) (length s) (omega (arith, r.0))) (ap (shared (key s a n)) r.3)

next_record : (s : Bytes) (at : ℕ) (ks : List Bytes) → Records s at ks → at < length s → at + 3 + get_or s (at + 2) 0 ≤ length s
next_record s at [] r h = absurd (omega arith)
next_record s at (k ∷ ks) r h = r.0

-- a record stands at `at`
pub next_key : (s : Bytes) (at first : ℕ) (left : List Bytes) → at < length s → KeysLeft s at first left → NextKey s at first (get_or s (at + 2) 0) (shared_behind s (at + 3) (get_or s (at + 2) 0)) left
next_key s at first [] h w = absurd (omega (arith, w.records))
next_key s at first (k ∷ ks) h w =
    let n : ℕ = get_or s (at + 2) 0 in
    let q : ℕ = shared_behind s (at + 3) n in
    let r = w.records in
    let is : k ≡ key s (at + 3) n = r.3 in
    let size : length k ≡ n = ap length is ∙ key_length s (at + 3) n r.0 in
    let e : next_shared k ks ≡ q = ap (λ (z : Bytes). next_shared z ks) is ∙ shared_next s (at + 3) n ks r.4 in
    let t = key_numbers (pred first) k ks w.longer w.each w.up in
    record {
      ks = ks;
      is = ap (λ (z : Bytes). z ∷ ks) is;
      fits = r.0;
      next_fits = λ g. next_record s (at + 3 + n) ks r.4 g;
      shares = ap (λ (z : Bytes). next_shared z ks) (sym is) ∙ e;
      numbers = subst (λ (i : ℕ). KeyNumbers (pred first) q i) size (subst (λ (i : ℕ). KeyNumbers (pred first) i (length k)) e t.0);
      behind = record { records = r.4; each = w.each.1; up = w.up.1; longer = rw (add-one q) (rw e at t.1) };
    }

-- nothing is left at the list's end
pub at_end : (s : Bytes) (at first : ℕ) (ks : List Bytes) → length s ≤ at → KeysLeft s at first ks → ks ≡ []
at_end s at first [] h w = refl
at_end s at first (k ∷ ks) h w = absurd (omega (arith, w.records.0))

-- the whole list is left at the start
pub at_start : (s : Bytes) → AcceptedList s → KeysLeft s 0 0 (keys_of s)
at_start s a = record { records = a.records; each = a.each; up = a.up; longer = first_longer (keys_of s) a.each }

-- ---- filling

write_append : (kind : Kind) (a b : List (Emission Entry)) (s : ByteState) → write_entries kind (a ++ b) s ≡ write_entries kind b (write_entries kind a s)
unfolding write_entries
write_append kind [] b s = refl
write_append kind (e ∷ a) b s = write_append kind a b (write_entry kind e s)

write_cursors : (kind : Kind) (es : List (Emission Entry)) (s : ByteState) → (write_entries kind es s).cursors ≡ counts (kind_step kind) es s.cursors
unfolding write_entries counts
write_cursors kind [] s = refl
write_cursors kind (emission d e ∷ es) s = write_cursors kind es (write_entry kind (emission d e) s) ∙ ap (counts (kind_step kind) es) (entry_cursors kind d e s)

keys_next : (body : Body) (lo hi : ℕ) (w : SlotBits) (p : ℕ) (k : Bytes) (ks : List Bytes) (s : ByteState)
    → write_keys body lo hi w p (k ∷ ks) s ≡ write_keys body lo hi w (suc (next_shared k ks)) ks (write_key body lo hi w p (next_shared k ks) k s)
unfolding emissions slot_emissions set_all
keys_next (Entries kind) lo hi w p k ks s = write_append kind (key_entries lo hi p (next_shared k ks) k) (all_entries lo hi (suc (next_shared k ks)) ks) s
keys_next Slots lo hi w p k ks s = refl

rooms_next : (body : Body) (lo hi : ℕ) (w : SlotBits) (p : ℕ) (k : Bytes) (ks : List Bytes) (size : ℕ) (s : ByteState) → KeysRoom body lo hi w p (k ∷ ks) size s.cursors
    → KeyRoom body lo hi w p (next_shared k ks) k size s.cursors × KeysRoom body lo hi w (suc (next_shared k ks)) ks size (write_key body lo hi w p (next_shared k ks) k s).cursors
unfolding emissions slot_emissions
rooms_next (Entries kind) lo hi w p k ks size s r =
    let t = room_append (kind_step kind) (kind_ones kind) (capacity kind size) counter_max (key_entries lo hi p (next_shared k ks) k) (all_entries lo hi (suc (next_shared k ks)) ks) s.cursors r in
    (t.0, subst (λ (c : List ℕ). Room (kind_step kind) (kind_ones kind) (capacity kind size) counter_max (all_entries lo hi (suc (next_shared k ks)) ks) c) (sym (write_cursors kind (key_entries lo hi p (next_shared k ks) k) s)) t.1)
rooms_next Slots lo hi w p k ks size s r = ((r.0, r.1, r.2, tt), r.3)

cursors_width : (body : Body) (lo hi : ℕ) (w : SlotBits) (p q : ℕ) (k : Bytes) (s : ByteState) → length (write_key body lo hi w p q k s).cursors ≡ length s.cursors
cursors_width (Entries kind) lo hi w p q k s = ap length (write_cursors kind (key_entries lo hi p q k) s) ∙ length_counts (kind_step kind) (key_entries lo hi p q k) s.cursors
cursors_width Slots lo hi w p q k s = length-set s.cursors _ _

no_keys : (body : Body) (lo hi : ℕ) (w : SlotBits) (p : ℕ) (s : ByteState) → write_keys body lo hi w p [] s ≡ s
unfolding emissions slot_emissions set_all
no_keys (Entries kind) lo hi w p s = write_none kind s
no_keys Slots lo hi w p s = refl

-- what holds between two keys of a pass: what the keys left do gives what all keys do, and there is room for it
pub record Filling (p : Pass) (s : Bytes) (size at first : ℕ) (z final : ByteState) : Type 0 where
  pub ks : List Bytes
  pub left : KeysLeft s at first ks  -- these keys are left
  pub final_is : pass_keys p first ks z ≡ final  -- what they do
  pub room : PassRoom p first ks size z.cursors  -- there is room for it
  pub width : length z.cursors ≡ counters  -- a cursor for each level

-- one key of a pass: it is a key of the list, there is room for it, and what holds behind it
pub record FillKey (p : Pass) (s : Bytes) (size at : ℕ) (z final : ByteState) (k : Key) : Type 0 where
  pub listed : ListedKey s k
  pub after : at < k.at
  pub room : KeyRoomOf p k (key_bytes s k) size z.cursors
  pub behind : Filling p s size (k.at + k.len) (k.next + 1) (pass_key p k (key_bytes s k) z) final

module _ (p : Pass) (s : Bytes) (size at first : ℕ) (z final : ByteState) where
  -- the key at `at`
  pub fill_key : (k : Key) → k ≡ key_at s at first → at < length s → Filling p s size at first z final → FillKey p s size at z final k
  fill_key k is h f = subst (FillKey p s size at z final) (sym is) here
    where
      here : FillKey p s size at z final (key_at s at first)
      here =
          let m : ℕ = key_size s at in
          let q : ℕ = shared_behind s (at + 3) m in
          let t = next_key s at first f.ks h f.left in
          let b : Bytes = key s (at + 3) m in
          let e : next_shared b t.ks ≡ q = t.shares in
          let r = rooms_next p.body p.levels.lo p.levels.hi p.slot first b t.ks size z (subst (λ (l : List Bytes). PassRoom p first l size z.cursors) t.is f.room) in
          let w : suc q ≡ q + 1 = sym (add-one q) in
          let o : ByteState = pass_key p (key_at s at first) b z in
          record {
            listed = record { within = t.fits; numbers = t.numbers };
            after = omega arith;
            room = subst (λ (i : ℕ). KeyRoom p.body p.levels.lo p.levels.hi p.slot first i b size z.cursors) e r.0;
            behind = record {
              ks = t.ks;
              left = t.behind;
              final_is = ap (λ (i : ℕ). pass_keys p i t.ks o) (sym w)
                  ∙ sym (ap (λ (i : ℕ). pass_keys p (suc i) t.ks (write_key p.body p.levels.lo p.levels.hi p.slot first i b z)) e)
                  ∙ sym (keys_next p.body p.levels.lo p.levels.hi p.slot first b t.ks z) ∙ sym (ap (λ (l : List Bytes). pass_keys p first l z) t.is) ∙ f.final_is;
              room = subst (λ (i : ℕ). PassRoom p i t.ks size o.cursors) w
                  (subst (λ (i : ℕ). PassRoom p (suc i) t.ks size (write_key p.body p.levels.lo p.levels.hi p.slot first i b z).cursors) e r.1);
              width = cursors_width p.body p.levels.lo p.levels.hi p.slot first q b z ∙ f.width;
            };
          }

  -- what the next key's reader asks
  pub fill_reads : at < length s → Filling p s size at first z final → WholeRecords s at
  fill_reads h f = let t = next_key s at first f.ks h f.left in record { here = t.fits; next = t.next_fits }

  -- the end of the list
  pub fill_done : length s ≤ at → Filling p s size at first z final → z ≡ final
  fill_done h f = sym (no_keys p.body p.levels.lo p.levels.hi p.slot first z) ∙ sym (ap (λ (l : List Bytes). pass_keys p first l z) (at_end s at first f.ks h f.left)) ∙ f.final_is

-- the start of a pass
pub fill_start : (p : Pass) (s : Bytes) (size : ℕ) (z : ByteState) → AcceptedList s → length z.cursors ≡ counters → PassRoom p 0 (keys_of s) size z.cursors → Filling p s size 0 0 z (pass_keys p 0 (keys_of s) z)
fill_start p s size z a w r = record { ks = keys_of s; left = at_start s a; final_is = refl; room = r; width = w }

-- ---- counting

-- what holds between two keys of the counting pass: what the keys left count gives what all keys count, and there is room for it
pub record Counting (s : Bytes) (at first : ℕ) (c final : LevelCounts) : Type 0 where
  pub ks : List Bytes
  pub left : KeysLeft s at first ks  -- these keys are left
  pub entries : counts one_step (start_emissions 0 first ks) c.entries ≡ final.entries
  pub nodes : counts bit (start_emissions 0 first ks) c.nodes ≡ final.nodes
  pub leaves : counts one_step (slot_emissions no_bits first ks) c.leaves ≡ final.leaves
  pub entry_room : CounterRoom one_step (start_emissions 0 first ks) c.entries
  pub leaf_room : CounterRoom one_step (slot_emissions no_bits first ks) c.leaves

-- one key of the counting pass: it is a key of the list, there is room for it, and what holds behind it
pub record CountedKey (s : Bytes) (at : ℕ) (c final : LevelCounts) (k : Key) : Type 0 where
  pub listed : ListedKey s k
  pub after : at < k.at
  pub entry_room : CounterRoom one_step (starts_of k) c.entries
  pub leaf_room : get_or c.leaves (leaf_level_of k) 0 + 1 ≤ counter_max
  pub behind : Counting s (k.at + k.len) (k.next + 1) (count_key k c) final

starts_cons : (p : ℕ) (k : Bytes) (ks : List Bytes) → start_emissions 0 p (k ∷ ks) ≡ key_starts p (next_shared k ks) (length k) ++ start_emissions 0 (suc (next_shared k ks)) ks
unfolding start_emissions emissions
starts_cons p k ks = refl

slots_cons : (p : ℕ) (k : Bytes) (ks : List Bytes) → slot_emissions no_bits p (k ∷ ks) ≡ emission (leaf_level (pred p) (next_shared k ks) (length k)) (key_slot no_bits (pred p) (next_shared k ks) k) ∷ slot_emissions no_bits (suc (next_shared k ks)) ks
unfolding slot_emissions
slots_cons p k ks = refl

module _ (s : Bytes) (at first : ℕ) (c final : LevelCounts) where
  -- the key at `at`
  pub counted_key : (k : Key) → k ≡ key_at s at first → at < length s → Counting s at first c final → CountedKey s at c final k
  unfolding counts
  counted_key k is h f = subst (CountedKey s at c final) (sym is) here
    where
      here : CountedKey s at c final (key_at s at first)
      here =
          let m : ℕ = key_size s at in
          let q : ℕ = shared_behind s (at + 3) m in
          let t = next_key s at first f.ks h f.left in
          let b : Bytes = key s (at + 3) m in
          let size : length b ≡ m = key_length s (at + 3) m t.fits in
          let starts : start_emissions 0 first f.ks ≡ key_starts first q m ++ start_emissions 0 (q + 1) t.ks =
          ap (start_emissions 0 first) t.is ∙ starts_cons first b t.ks ∙ ap₂ (λ (i j : ℕ). key_starts first i j ++ start_emissions 0 (suc i) t.ks) t.shares size
          ∙ ap (λ (i : ℕ). key_starts first q m ++ start_emissions 0 i t.ks) (sym (add-one q)) in
          let slots : slot_emissions no_bits first f.ks ≡ emission (leaf_level (pred first) q m) (key_slot no_bits (pred first) q b) ∷ slot_emissions no_bits (q + 1) t.ks =
          ap (slot_emissions no_bits first) t.is ∙ slots_cons first b t.ks
          ∙ ap₂ (λ (i j : ℕ). emission (leaf_level (pred first) i j) (key_slot no_bits (pred first) i b) ∷ slot_emissions no_bits (suc i) t.ks) t.shares size
          ∙ ap (λ (i : ℕ). emission (leaf_level (pred first) q m) (key_slot no_bits (pred first) q b) ∷ slot_emissions no_bits i t.ks) (sym (add-one q)) in
          let re = room_append one_step no_ones 0 counter_max (key_starts first q m) (start_emissions 0 (q + 1) t.ks) c.entries (rw starts at f.entry_room) in
          let rl : CounterRoom one_step (emission (leaf_level (pred first) q m) (key_slot no_bits (pred first) q b) ∷ slot_emissions no_bits (q + 1) t.ks) c.leaves = rw slots at f.leaf_room in
          record {
            listed = record { within = t.fits; numbers = t.numbers };
            after = omega arith;
            entry_room = re.0;
            leaf_room = rl.1;
            behind = record {
              ks = t.ks;
              left = t.behind;
              entries = sym (counts_append one_step (key_starts first q m) (start_emissions 0 (q + 1) t.ks) c.entries) ∙ ap (λ es. counts one_step es c.entries) (sym starts) ∙ f.entries;
              nodes = sym (counts_append bit (key_starts first q m) (start_emissions 0 (q + 1) t.ks) c.nodes) ∙ ap (λ es. counts bit es c.nodes) (sym starts) ∙ f.nodes;
              leaves = ap (λ es. counts one_step es c.leaves) (sym slots) ∙ f.leaves;
              entry_room = re.1;
              leaf_room = rl.3;
            };
          }

  -- what the next key's reader asks
  pub count_reads : at < length s → Counting s at first c final → WholeRecords s at
  count_reads h f = let t = next_key s at first f.ks h f.left in record { here = t.fits; next = t.next_fits }

  -- the end of the list
  pub count_done : length s ≤ at → Counting s at first c final → c ≡ final
  unfolding counts start_emissions emissions slot_emissions
  count_done h f =
      let z = at_end s at first f.ks h f.left in
      let e : c.entries ≡ final.entries = sym (ap (λ (ks : List Bytes). counts one_step (start_emissions 0 first ks) c.entries) z) ∙ f.entries in
      let n : c.nodes ≡ final.nodes = sym (ap (λ (ks : List Bytes). counts bit (start_emissions 0 first ks) c.nodes) z) ∙ f.nodes in
      let l : c.leaves ≡ final.leaves = sym (ap (λ (ks : List Bytes). counts one_step (slot_emissions no_bits first ks) c.leaves) z) ∙ f.leaves in
      counts_same e n l

-- the start of the counting pass
pub count_start : (s : Bytes) (c : LevelCounts) → AcceptedList s → CountersRoom counter_max (keys_of s) → c ≡ no_counts → Counting s 0 0 c (list_counts (keys_of s))
unfolding entry_counts node_counts leaf_counts
count_start s c a r e = subst (λ (x : LevelCounts). Counting s 0 0 x (list_counts (keys_of s))) (sym e) (record {
  ks = keys_of s;
  left = at_start s a;
  entries = refl;
  nodes = refl;
  leaves = refl;
  entry_room = r.entries;
  leaf_room = r.leaves;
})
