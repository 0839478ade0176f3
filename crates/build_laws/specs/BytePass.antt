-- A pass over the keys that writes bytes at one cursor a level: each emission writes its value at its level's cursor, which goes on by one.
-- However the levels are mixed, the bytes are the values level by level. Used by the body SL.
use Rattle.std.specs.Prelude.{ℕ, zero, suc, ◌+◌, ◌-◌, ◌*◌, ◌<◌, ◌≤◌, ◌≡◌, refl, Bool, true, false, List, [], ◌∷◌, ◌++◌, map, length, get_or, drop, set, ltb, eqb}
use Rattle.std.proofs.Common.{sym, ap, ◌∙◌, append-nil, append_assoc, inr, arith, add-zero, add-suc, length-append, length-set, length-drop, get_or-set_same, get_or-set_other, get_or-append-add, ext_get_or, get_or-drop, ltb-true, ltb-false, eqb-true}
use Rattle.std.proofs.Math.ListN.{get_or-append}
use Rattle.std.proofs.Math.Seq.{get_or-append_seam}
use Rattle.std.proofs.lemmas.Bool.{eqb-false}
use Rattle.spec.specs.Bytes.{concat}
use Rattle.spec.specs.Image.{has, positions}
use Rattle.build_laws.specs.Emissions.{Emission, emission, level_values, values_below, LevelsBelow, level_append, level_none, level_here, level_else}
use Rattle.build_laws.specs.Cursors.{sum_of, level_offset, offset_sum, offset_grows}
use Rattle.build_laws.specs.SetBits.{positions_below}
use Rattle.build_laws.specs.BitPass.{Room, room_of, ones_by_level, ones_of_bits, every, cursor_ones}
use Rattle.build_laws.specs.Limits.{counters}

-- the bytes of the output, and a cursor for each level
pub record ByteState : Type 0 where
  pub bytes : List ℕ
  pub cursors : List ℕ

-- such a state
abbrev pub byte_state : List ℕ → List ℕ → ByteState
byte_state o c = record { bytes = o; cursors = c }

-- an emission writes its value at its level's cursor, which goes on by one
abbrev pub put_byte : Emission ℕ → ByteState → ByteState
put_byte (emission d x) s = record { bytes = set s.bytes (get_or s.cursors d 0) x; cursors = set s.cursors d (get_or s.cursors d 0 + 1) }

-- emissions one after the other
unfoldable pub put_bytes : List (Emission ℕ) → ByteState → ByteState
put_bytes [] s = s
put_bytes (e ∷ es) s = put_bytes es (put_byte e s)

-- ---- what was written so far

below_next : (es : List (Emission ℕ)) (d k : ℕ) → length (values_below es d) + length (level_values d es) ≤ length (values_below es (suc d + k))
unfolding values_below
below_next es d zero = rw (add-zero (suc d)) (omega (arith, length-append (values_below es d) (level_values d es)))
below_next es d (suc k) = rw (add-suc (suc d) k) (omega (arith, below_next es d k, length-append (values_below es (suc d + k)) (level_values (suc d + k) es)))

below_grows : (es : List (Emission ℕ)) (d e : ℕ) → d < e → length (values_below es d) + length (level_values d es) ≤ length (values_below es e)
below_grows es d e h =
    let w : suc d + (e - suc d) ≡ e = omega arith in
    rw w at (below_next es d (e - suc d))

-- Of all emissions some are done: the cursors stand behind them on their levels, their values stand where they belong, and what lies behind all is as it was.
record Put (all done : List (Emission ℕ)) (was : List ℕ) (s : ByteState) : Type 0 where
  width : length s.cursors ≡ counters
  same : length s.bytes ≡ length was
  cursor : (d : ℕ) → d < 64 → get_or s.cursors d 0 ≡ length (values_below all d) + length (level_values d done)
  overlaid : (d j : ℕ) → d < 64 → j < length (level_values d done) → get_or s.bytes (length (values_below all d) + j) 0 ≡ get_or (level_values d done) j 0
  kept : (i : ℕ) → length (values_below all 64) ≤ i → get_or s.bytes i 0 ≡ get_or was i 0

level_split : (all done todo : List (Emission ℕ)) (d : ℕ) → done ++ todo ≡ all → length (level_values d all) ≡ length (level_values d done) + length (level_values d todo)
level_split all done todo d e = sym (ap (λ (z : List (Emission ℕ)). length (level_values d z)) e) ∙ ap length (level_append d done todo) ∙ length-append (level_values d done) (level_values d todo)

module _ (all done todo : List (Emission ℕ)) (was : List ℕ) (s : ByteState) (d x : ℕ) (e : done ++ (emission d x ∷ todo) ≡ all) (h : d < 64) (fits : length (values_below all 64) ≤ length was) (w : Put all done was s) where
  here_at : level_values d (done ++ (emission d x ∷ [])) ≡ level_values d done ++ (x ∷ [])
  here_at = level_append d done (emission d x ∷ []) ∙ ap (λ (z : List ℕ). level_values d done ++ z) (level_here d x [] ∙ ap (λ (z : List ℕ). x ∷ z) (level_none d))

  else_at : (i : ℕ) → (i ≡ d → ⊥) → level_values i (done ++ (emission d x ∷ [])) ≡ level_values i done
  else_at i n = level_append i done (emission d x ∷ []) ∙ ap (λ (z : List ℕ). level_values i done ++ z) (level_else i d x [] n ∙ level_none i) ∙ append-nil (level_values i done)

  more_at : length (level_values d all) ≡ length (level_values d done) + suc (length (level_values d todo))
  more_at = level_split all done (emission d x ∷ todo) d e ∙ ap (λ (z : List ℕ). length (level_values d done) + length z) (level_here d x todo)

  step_cursor : (i : ℕ) → i < 64 → get_or (set s.cursors d (get_or s.cursors d 0 + 1)) i 0 ≡ length (values_below all i) + length (level_values i (done ++ (emission d x ∷ [])))
  step_cursor i l = go (eqb i d) refl
    where
      go : (b : Bool) → eqb i d ≡ b → get_or (set s.cursors d (get_or s.cursors d 0 + 1)) i 0 ≡ length (values_below all i) + length (level_values i (done ++ (emission d x ∷ [])))
      go true q =
          let r : i ≡ d = eqb-true i d q in
          rw r (omega (arith, get_or-set_same s.cursors d (get_or s.cursors d 0 + 1) 0 (omega (arith, w.width)), w.cursor d h, ap length here_at, length-append (level_values d done) (x ∷ [])))
      go false q =
          let n : i ≡ d → ⊥ = eqb-false i d q in
          omega (arith, get_or-set_other s.cursors d i (get_or s.cursors d 0 + 1) 0 n, w.cursor i l, ap length (else_at i n))

  spot : get_or s.cursors d 0 < length (values_below all 64)
  spot = omega (arith, w.cursor d h, more_at, below_grows all d 64 h)

  step_put : (i j : ℕ) → i < 64 → j < length (level_values i (done ++ (emission d x ∷ []))) → get_or (set s.bytes (get_or s.cursors d 0) x) (length (values_below all i) + j) 0 ≡ get_or (level_values i (done ++ (emission d x ∷ []))) j 0
  step_put i j l k = go (eqb i d) refl
    where
      old : (i : ℕ) → i < 64 → j < length (level_values i done) → (length (values_below all i) + j ≡ get_or s.cursors d 0 → ⊥) → get_or (set s.bytes (get_or s.cursors d 0) x) (length (values_below all i) + j) 0 ≡ get_or (level_values i done) j 0
      old i l k n = get_or-set_other s.bytes (get_or s.cursors d 0) (length (values_below all i) + j) x 0 n ∙ w.overlaid i j l k

      inside : j < length (level_values d (done ++ (emission d x ∷ []))) → (b : Bool) → ltb j (length (level_values d done)) ≡ b → get_or (set s.bytes (get_or s.cursors d 0) x) (length (values_below all d) + j) 0 ≡ get_or (level_values d done ++ (x ∷ [])) j 0
      inside k true q =
          let m : j < length (level_values d done) = ltb-true j (length (level_values d done)) q in
          old d h m (λ z. omega (arith, w.cursor d h)) ∙ sym (get_or-append (level_values d done) (x ∷ []) 0 j m)
      inside k false q =
          let m : j ≡ length (level_values d done) = omega (arith, ltb-false j (length (level_values d done)) q, ap length here_at, length-append (level_values d done) (x ∷ [])) in
          let p : length (values_below all d) + j ≡ get_or s.cursors d 0 = omega (arith, w.cursor d h) in
          ap (λ (z : ℕ). get_or (set s.bytes (get_or s.cursors d 0) x) z 0) p ∙ get_or-set_same s.bytes (get_or s.cursors d 0) x 0 (omega (arith, spot, w.same))
          ∙ sym (ap (λ (z : ℕ). get_or (level_values d done ++ (x ∷ [])) z 0) m ∙ get_or-append_seam (level_values d done) x [] 0)

      go : (b : Bool) → eqb i d ≡ b → get_or (set s.bytes (get_or s.cursors d 0) x) (length (values_below all i) + j) 0 ≡ get_or (level_values i (done ++ (emission d x ∷ []))) j 0
      go true q =
          let r : i ≡ d = eqb-true i d q in
          rw (r, here_at) (inside (rw r at k) (ltb j (length (level_values d done))) refl)
      go false q =
          let n : i ≡ d → ⊥ = eqb-false i d q in
          let m : j < length (level_values i done) = omega (arith, ap length (else_at i n)) in
          rw (else_at i n) (old i l m (λ z. apart i m n z (ltb i d) refl))
        where
          apart : (i : ℕ) → j < length (level_values i done) → (i ≡ d → ⊥) → length (values_below all i) + j ≡ get_or s.cursors d 0 → (b : Bool) → ltb i d ≡ b → ⊥
          apart i m n z true f = omega (arith, w.cursor d h, below_grows all i d (ltb-true i d f), level_split all done (emission d x ∷ todo) i e)
          apart i m n z false f = far (ltb-false i d f) n
            where
              far : d ≤ i → (i ≡ d → ⊥) → ⊥
              far f n = let g : d < i = omega arith in omega (arith, w.cursor d h, below_grows all d i g, more_at)

  put_step : Put all (done ++ (emission d x ∷ [])) was (put_byte (emission d x) s)
  put_step = record {
    width = length-set s.cursors d (get_or s.cursors d 0 + 1) ∙ w.width;
    same = length-set s.bytes (get_or s.cursors d 0) x ∙ w.same;
    cursor = step_cursor;
    overlaid = step_put;
    kept = λ i l. get_or-set_other s.bytes (get_or s.cursors d 0) i x 0 (λ z. omega (arith, spot)) ∙ w.kept i l;
  }

put_all : (all done es rest : List (Emission ℕ)) (was : List ℕ) (s : ByteState) → done ++ (es ++ rest) ≡ all → LevelsBelow 64 es → length (values_below all 64) ≤ length was → Put all done was s → Put all (done ++ es) was (put_bytes es s)
unfolding put_bytes
put_all all done [] rest was s e l f w = rw (append-nil done) w
put_all all done (emission d x ∷ es) rest was s e l f w =
    rw (← append_assoc done (emission d x ∷ []) es)
    (put_all all (done ++ (emission d x ∷ [])) es rest was (put_byte (emission d x) s) (append_assoc done (emission d x ∷ []) (es ++ rest) ∙ e) l.1 f (put_step all done (es ++ rest) was s d x e l.0 f w))

-- ---- the end

put_values : (all : List (Emission ℕ)) (was : List ℕ) (s : ByteState) → Put all all was s → (m i : ℕ) → m ≤ 64 → i < length (values_below all m) → get_or s.bytes i 0 ≡ get_or (values_below all m) i 0
unfolding values_below
put_values all was s w zero i h l = absurd (omega arith)
put_values all was s w (suc m) i h l = go (ltb i (length (values_below all m))) refl (λ k. put_values all was s w m i (omega arith) k)
  where
    go : (b : Bool) → ltb i (length (values_below all m)) ≡ b → (i < length (values_below all m) → get_or s.bytes i 0 ≡ get_or (values_below all m) i 0) → get_or s.bytes i 0 ≡ get_or (values_below all m ++ level_values m all) i 0
    go true q ih = let k = ltb-true i (length (values_below all m)) q in ih k ∙ sym (get_or-append (values_below all m) (level_values m all) 0 i k)
    go false q ih =
        let k = ltb-false i (length (values_below all m)) q in
        let j : ℕ = i - length (values_below all m) in
        let e : i ≡ length (values_below all m) + j = omega arith in
        let u : get_or s.bytes (length (values_below all m) + j) 0 ≡ get_or (level_values m all) j 0 = w.overlaid m j (omega arith) (omega (arith, length-append (values_below all m) (level_values m all))) in
        ap (λ (z : ℕ). get_or s.bytes z 0) e ∙ u ∙ sym (ap (λ (z : ℕ). get_or (values_below all m ++ level_values m all) z 0) e ∙ get_or-append-add (values_below all m) (level_values m all) j 0)

put_done : (all : List (Emission ℕ)) (was : List ℕ) (s : ByteState) → length (values_below all 64) ≤ length was → Put all all was s → s.bytes ≡ values_below all 64 ++ drop (length (values_below all 64)) was
put_done all was s f w =
    ext_get_or 0 s.bytes (values_below all 64 ++ drop (length (values_below all 64)) was) (omega (arith, w.same, length-append (values_below all 64) (drop (length (values_below all 64)) was), length-drop (length (values_below all 64)) was)) (λ i l. go i (ltb i (length (values_below all 64))) refl)
  where
    go : (i : ℕ) → (b : Bool) → ltb i (length (values_below all 64)) ≡ b → get_or s.bytes i 0 ≡ get_or (values_below all 64 ++ drop (length (values_below all 64)) was) i 0
    go i true q = let k = ltb-true i (length (values_below all 64)) q in put_values all was s w 64 i (omega arith) k ∙ sym (get_or-append (values_below all 64) (drop (length (values_below all 64)) was) 0 i k)
    go i false q =
        let k = ltb-false i (length (values_below all 64)) q in
        let e : i ≡ length (values_below all 64) + (i - length (values_below all 64)) = omega arith in
        w.kept i k ∙ ap (λ (z : ℕ). get_or was z 0) e ∙ sym (get_or-drop (length (values_below all 64)) was (i - length (values_below all 64)) 0)
        ∙ sym (ap (λ (z : ℕ). get_or (values_below all 64 ++ drop (length (values_below all 64)) was) z 0) e ∙ get_or-append-add (values_below all 64) (drop (length (values_below all 64)) was) (i - length (values_below all 64)) 0)

put_start : (all : List (Emission ℕ)) (out cur : List ℕ) → length cur ≡ counters → ((d : ℕ) → d < 64 → get_or cur d 0 ≡ length (values_below all d)) → Put all [] out (byte_state out cur)
put_start all out cur l c = record {
  width = l;
  same = refl;
  cursor = λ d h. c d h ∙ omega (arith, ap length (level_none {A = ℕ} d));
  overlaid = λ d j h k. absurd (omega (arith, ap length (level_none {A = ℕ} d)));
  kept = λ i h. refl;
}

-- ---- all emissions

-- one step of a cursor for each value
abbrev pub one_step : {A : Type 0} → A → ℕ
one_step x = 1

-- a byte is written at the cursor
abbrev pub at_cursor : ℕ → ℕ → List ℕ
at_cursor c x = c ∷ []

-- as many steps as values
pub sum_length : {A : Type 0} (xs : List A) → sum_of one_step xs ≡ length xs
unfolding sum_of
sum_length [] = refl
sum_length (x ∷ xs) = omega (arith, sum_length xs)

-- as many values on the levels below d as the position at which d starts
pub offset_length : {A : Type 0} (es : List (Emission A)) (d : ℕ) → level_offset one_step es d ≡ length (values_below es d)
offset_length es d = sym (offset_sum one_step es d) ∙ sum_length (values_below es d)

-- Bytes written by emissions of levels below 64, from cursors at the levels' starts: the values level by level, and then what was there.
pub put_bytes_is : (es : List (Emission ℕ)) (out cur : List ℕ) → length cur ≡ counters → LevelsBelow 64 es → ((d : ℕ) → d < 64 → get_or cur d 0 ≡ level_offset one_step es d) → length (values_below es 64) ≤ length out
    → (put_bytes es (byte_state out cur)).bytes ≡ values_below es 64 ++ drop (length (values_below es 64)) out
put_bytes_is es out cur w l c f =
    put_done es out (put_bytes es (byte_state out cur)) f
    (put_all es [] es [] out (byte_state out cur) (append-nil es) l f (put_start es out cur w (λ d h. c d h ∙ offset_length es d)))

single : (k : ℕ) → positions k (true ∷ []) ≡ k ∷ []
unfolding positions
single k = refl

ones_true : (xs : List ℕ) (c : ℕ) → cursor_ones one_step at_cursor c xs ≡ positions (1 * c) (concat (map (λ (x : ℕ). true ∷ []) xs))
ones_true xs c = ones_of_bits one_step at_cursor 1 (λ x. true ∷ []) (λ c x. one c) (λ x. Unit) (λ x u. refl) xs (every xs) c
  where
    one : (c : ℕ) → c ∷ [] ≡ positions (1 * c) (true ∷ [])
    one c = let w : c ≡ 1 * c = omega arith in ap (λ (k : ℕ). k ∷ []) w ∙ sym (single (1 * c))

length_true : (xs : List ℕ) → length (concat (map (λ (x : ℕ). true ∷ []) xs)) ≡ length xs
unfolding concat
length_true [] = refl
length_true (x ∷ xs) = ap suc (length_true xs)

-- There is room for all of them in n bytes, if there are no more values than that.
pub byte_room : (es : List (Emission ℕ)) (cur : List ℕ) (n : ℕ) → length cur ≡ counters → LevelsBelow 64 es → ((d : ℕ) → d < 64 → get_or cur d 0 ≡ level_offset one_step es d) → length (values_below es 64) ≤ n
    → Room one_step at_cursor n n es cur
byte_room es cur n w l c f =
    room_of one_step at_cursor n n es cur (omega arith) l (λ d h. inr (omega (arith, c d h, offset_grows one_step es d 64 h, offset_length es 64)))
    (λ j q. bound j (sym (ones_by_level one_step at_cursor es cur (omega arith) l (λ d h. inr (c d h)) j ∙ ap (λ (is : List ℕ). has is j) (ones_true (values_below es 64) 0)) ∙ q))
  where
    bound : (j : ℕ) → has (positions 0 (concat (map (λ (x : ℕ). true ∷ []) (values_below es 64)))) j ≡ true → j < n
    bound j q = let h = positions_below (concat (map (λ (x : ℕ). true ∷ []) (values_below es 64))) j q in omega (arith, length_true (values_below es 64), h)
