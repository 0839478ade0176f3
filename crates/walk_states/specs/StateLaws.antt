-- What a walker says and where it goes, by the tests of its code.
use Rattle.std.specs.Prelude.{ℕ, zero, suc, ◌+◌, ◌/◌, ◌≤◌, ◌<◌, ◌≡◌, refl, List, [], ◌∷◌, ◌++◌, length, Some, None, Result, Ok, Err, IfOk}
use Rattle.std.proofs.Math.Path.{sym, ap, ap₂}
use Rattle.std.proofs.Common.{Bor, ◌∙◌, arith, length-drop}
use Rattle.std.proofs.Math.Option.{Option, none, some}
use Rattle.std.proofs.Math.ListN.{get_elem?, drop}
use Rattle.spec.specs.Bytes.{Bytes}
use Rattle.spec.specs.Check.{verdict}
use Rattle.spec.specs.Leaves as Leaves
use Rattle.spec.specs.Nodes.{read_leaves}
use Rattle.spec.specs.Walk.{Stand, refused, leaf, done, stand_at, open_walk}
use Rattle.theory.proofs.Lists.{le_or_lt, all_at}
use Rattle.theory.proofs.AskLaws.{walk_correct}
use Rattle.theory.proofs.LeafLists.{WellSized}
use Rattle.image.specs.declared.AcceptedImage.{AcceptedImage}
use Rattle.image.specs.FrameOf.{FrameOf}
use Rattle.image.specs.declared.Frame.{Frame}
use Rattle.image.specs.declared.Leaf.{Leaf as Value}
use Rattle.image.specs.declared.refusals.Refusal.{Refusal}
use Rattle.image.specs.declared.refusals.Refusal.TheVariants.{PlaceOutOfRange}
use Rattle.image.specs.Refusals.{number_of, number_positive}
use Rattle.image.specs.Value.{leaf_of, Sized, value_of}
use Rattle.nav_nodes.specs.Accepted.{Accepted}
use Rattle.nav_nodes.specs.FromCheck.{accepted}
use Rattle.spec.specs.WalkRecords.{record_size, leaf_record, records_from, walk_records}
use Rattle.spec.specs.Answer.{Outcome, written, refuse, success}
use Rattle.theory.proofs.WalkRecordLaws.{records_refused, records_written}
use Rattle.image.specs.Outcomes.{outcome}
use Rattle.walk_states.specs.Filling.{Fills}
use Rattle.walk_cursor.specs.LeafValues.{leaf_of_value, value_record, value_record_is}
use Rattle.walk_states.specs.Opening.{check_refuses, place_refused, at_leaf, at_done, next_leaf, next_stays, next_at}
use Rattle.walk_cursor.specs.declared.Cursor.{Cursor}
use Rattle.walk_cursor.specs.Stands.{AtLeaf, StandsAt}
use Rattle.walk_cursor.specs.Places.{leaf_total, found_at}
use Rattle.walk_states.specs.declared.Walker.{Walker}
use Rattle.walk_states.specs.Records.{Room}
use Rattle.walk_states.specs.Walks.{Gives, Walks, Opens, Moved}

-- ---- a leaf of an accepted image

module _ (s : Bytes) (f : Frame) (a : Accepted s f) (place : ℕ) (l : Leaves.Leaf) (there : get_elem? (read_leaves s) place ≡ some l) (v : Value) (is : v ≡ value_of l) where
  -- its key and suffix are in range
  pub leaf_sized : Sized v
  leaf_sized =
      let z = all_at (WellSized f.width) (read_leaves s) place l a.well_sized there in
      rw is (z.key.fits, omega (arith, z.slot, a.writable.width_range))

  -- its record fits where there is room for a record
  pub record_room : (out : Bytes) (at : ℕ) → at + record_size ≤ length out → Room out at v
  record_room out at h = record { within = h; key = leaf_sized.0 }

  -- and is the one of document 01
  pub record_is : value_record v ≡ leaf_record l
  record_is = ap value_record is ∙ value_record_is l

-- ---- a walk is opened

-- An image that the check refuses.
pub opened_unchecked : (s : Bytes) (place : ℕ) (r : Refusal) → verdict s ≡ number_of r → Opens s place (Err r)
opened_unchecked s place r v = check_refuses s place (number_of r) v (number_positive r)

-- 17: the place is past done
pub opened_past : (s : Bytes) (f : Frame) → Accepted s f → verdict s ≡ 0 → (place : ℕ) → f.leaves < place → Opens s place (Err PlaceOutOfRange)
opened_past s f a v place h = place_refused s v place (omega (arith, leaf_total s f a))

-- A walker over an image holds the slice that the image does.
pub same_slice : (r : Result Walker Refusal) (v : AcceptedImage) → IfOk r (λ w. w.image ≡ v) → (s : Bor Bytes) → v.bytes ≡ s → IfOk r (λ w. w.image.bytes ≡ s)
same_slice (Ok w) v h s e = ap (λ (i : AcceptedImage). i.bytes) h ∙ e
same_slice (Err r) v h s e = tt

-- So it holds the frame of the slice, where the image does.
pub same_image : (r : Result Walker Refusal) (v : AcceptedImage) → IfOk r (λ w. w.image ≡ v) → (s : Bor Bytes) → v.bytes ≡ s → FrameOf s.now v.frame → IfOk r (λ w. (w.image.bytes ≡ s) × FrameOf s.now w.image.frame)
same_image (Ok w) v h s e o = (same_slice (Ok w) v h s e, rw h o)
same_image (Err r) v h s e o = tt

-- What a refused walk says.
pub says_refused : (said : Stand) (r : Refusal) → said ≡ refused (number_of r) → Gives said (Err r)
says_refused said r e = record {
  says = sym e;
  settled = λ v q. let z : ◌≡◌ {A = ℕ} 0 1 = cc in absurd (omega arith);
  sized = λ v q. let z : ◌≡◌ {A = ℕ} 0 1 = cc in absurd (omega arith);
}

-- ---- a walker

module _ (w : Walker) (walks : Walks w) where
  abbrev image : Bytes
  image = w.image.bytes.now

  total : length (read_leaves image) ≡ w.image.frame.leaves
  total = leaf_total image w.image.frame (accepted w.image)

  -- its place is a leaf's, or done
  pub place_within : w.cursor.place ≤ length (read_leaves image)
  place_within = omega (arith, total, walks.stands.within)

  -- and small
  pub place_small : w.cursor.place ≤ 65535
  place_small = omega (arith, walks.stands.within, (accepted w.image).writable.few)

  -- done stays
  pub stays_done : w.cursor.place ≡ w.image.frame.leaves → Moved w w
  stays_done e =
      let n = next_stays image w.cursor.place (omega (arith, total)) in
      record { walks = walks; image_is = refl; stands = next_at image w.cursor.place w.cursor.place n; place_is = sym n }

  -- it says done
  pub says_done : w.image.frame.leaves ≤ w.cursor.place → Gives (open_walk image w.cursor.place) (Ok None)
  says_done h = record {
    says = sym (at_done image walks.checked w.cursor.place (omega (arith, total, walks.stands.within)));
    settled = λ v e. let z : ◌≡◌ {A = ℕ} 0 1 = cc in absurd (omega arith);
    sized = λ v e. let z : ◌≡◌ {A = ℕ} 0 1 = cc in absurd (omega arith);
  }

  -- it stands at a leaf
  module _ (h : w.cursor.place < w.image.frame.leaves) where
    pub can_step : AtLeaf image w.image.frame w.cursor
    can_step = record { accepted = accepted w.image; stands = walks.stands; inside = h }

    -- the walker r stands behind it
    pub steps : (c : Cursor) → StandsAt image w.image.frame (w.cursor.place + 1) c → Moved w (record { image = w.image; cursor = c })
    steps c h =
        let n = next_leaf image w.cursor.place (omega (arith, total)) in
        record { walks = record { checked = walks.checked; stands = h.stands }; image_is = refl; stands = next_at image w.cursor.place c.place (n ∙ sym h.place_is); place_is = h.place_is ∙ sym n }

    -- it says the leaf
    pub says_leaf : (l : Leaves.Leaf) → get_elem? (read_leaves image) w.cursor.place ≡ some l → (v : Value) → v ≡ value_of l → Gives (open_walk image w.cursor.place) (Ok (Some v))
    says_leaf l e v f =
        let z : Sized v = leaf_sized image w.image.frame (accepted w.image) w.cursor.place l e v f in
        let same : leaf_of v ≡ l = ap leaf_of f ∙ leaf_of_value l (omega (arith, z, ap (λ (x : Value). x.len) f)) in
        record {
          says = ap leaf same ∙ sym (at_leaf image walks.checked w.cursor.place l (omega (arith, h, total)) e);
          settled = λ x q. let g : v ≡ x = cc in rw (← g) (f ∙ sym (ap value_of same));
          sized = λ x q. let g : v ≡ x = cc in rw (← g) z;
        }

-- ---- what a walk says

-- a leaf that is said stands at the place
leaf_there : (ls : List Leaves.Leaf) (place : ℕ) (l : Leaves.Leaf) → stand_at ls place ≡ leaf l → get_elem? ls place ≡ some l
unfolding stand_at
leaf_there ls place l e = by_leaf (get_elem? ls place) e
  where
    by_leaf : (o : Option Leaves.Leaf) → elim o [ none ↦ done | some m ↦ leaf m ] ≡ leaf l → o ≡ some l
    by_leaf none e = let z : ◌≡◌ {A = ℕ} 0 1 = cc in absurd (omega arith)
    by_leaf (some m) e = let same : m ≡ l = cc in ap some same

-- the place of a leaf is below their number
leaf_within : (ls : List Leaves.Leaf) (place : ℕ) (l : Leaves.Leaf) → get_elem? ls place ≡ some l → place < length ls
leaf_within [] place l e = let z : ◌≡◌ {A = ℕ} 0 1 = cc in absurd (omega arith)
leaf_within (x ∷ ls) zero l e = omega arith
leaf_within (x ∷ ls) (suc place) l e = omega (arith, leaf_within ls place l e)

module _ (w : Walker) (walks : Walks w) where
  abbrev bytes : Bytes
  bytes = w.image.bytes.now

  stands_there : open_walk bytes w.cursor.place ≡ stand_at (read_leaves bytes) w.cursor.place
  stands_there = (walk_correct bytes (read_leaves bytes) walks.checked refl).stands w.cursor.place (place_within w walks)

  -- it says a leaf: the one at its place
  pub found_leaf : (v : Value) → Gives (open_walk bytes w.cursor.place) (Ok (Some v)) → get_elem? (read_leaves bytes) w.cursor.place ≡ some (leaf_of v)
  found_leaf v g = leaf_there (read_leaves bytes) w.cursor.place (leaf_of v) (sym stands_there ∙ sym g.says)

  -- it says none: the walk is done
  pub found_none : Gives (open_walk bytes w.cursor.place) (Ok None) → length (read_leaves bytes) ≤ w.cursor.place
  found_none g = le_or_lt (length (read_leaves bytes)) w.cursor.place (λ l. l) (λ l. absurd (none_said (drop w.cursor.place (read_leaves bytes)) refl l))
    where
      none_said : (ls : List Leaves.Leaf) → drop w.cursor.place (read_leaves bytes) ≡ ls → w.cursor.place < length (read_leaves bytes) → ⊥
      none_said [] e l = omega (arith, length-drop w.cursor.place (read_leaves bytes), ap length e)
      none_said (x ∷ rest) e l =
          let f : done ≡ leaf x = g.says ∙ at_leaf bytes walks.checked w.cursor.place x (omega arith) (found_at (read_leaves bytes) w.cursor.place x rest e) in
          let z : ◌≡◌ {A = ℕ} 0 1 = cc in omega arith

  -- behind a leaf the next place is one on
  pub moved_on : (v : Value) → Gives (open_walk bytes w.cursor.place) (Ok (Some v)) → (n : Walker) → Moved w n → n.cursor.place ≡ w.cursor.place + 1
  moved_on v g n m = m.place_is ∙ next_leaf bytes w.cursor.place (leaf_within (read_leaves bytes) w.cursor.place (leaf_of v) (found_leaf v g))

-- ---- what a walk writes

-- A walk that is refused.
pub writes_refused : (s : Bytes) (place : ℕ) (out : Bytes) (r : Refusal) → open_walk s place ≡ refused (number_of r) → outcome (Err r) out ≡ walk_records s place out
unfolding refuse
writes_refused s place out r e = sym (records_refused s place out (number_of r) e)

-- One that is not: the records of the leaves from its place on.
pub writes_records : (w : Walker) → Walks w → (out : Bytes) (n : ℕ) (buffer : Bytes) → Fills (read_leaves w.image.bytes.now) w.cursor.place out buffer n → outcome (Ok n) buffer ≡ walk_records w.image.bytes.now w.cursor.place out
unfolding success
writes_records w walks out n buffer f =
    let bs : Bytes = records_from (read_leaves w.image.bytes.now) w.cursor.place (length out / record_size) in
    ap₂ {C = Outcome} (λ (k : ℕ) (z : Bytes). record { answer = written k; final = z }) f.size (f.bytes ∙ ap (λ (k : ℕ). bs ++ drop k out) f.size)
    ∙ sym (records_written w.image.bytes.now w.cursor.place out walks.checked (place_within w walks))
