-- Laws of the printer: how a text opens, how a page grows, and that the pages written in turn are the text.
use Rattle.std.specs.Prelude.{ℕ, zero, suc, ◌+◌, ◌-◌, ◌*◌, ◌≤◌, ◌<◌, ◌≡◌, refl, List, [], ◌++◌, length, take, drop, Some, None, Ok}
use Rattle.std.proofs.Common.{sym, ap, ap₂, ◌∙◌, append_assoc, append-nil, arith, drop_of_length-le, length-append, length-take-le}
use Rattle.std.proofs.Math.Option.{some}
use Rattle.std.proofs.Math.ListN.{get_elem?}
use Rattle.spec.specs.Bytes.{Bytes}
use Rattle.spec.specs.Leaves.{Leaf}
use Rattle.spec.specs.Nodes.{read_leaves}
use Rattle.spec.specs.Print.{longest_input, line, lines, print}
use Rattle.spec.specs.Walk.{open_walk, refused}
use Rattle.image.specs.declared.AcceptedImage.{AcceptedImage}
use Rattle.image.specs.declared.Leaf.{Leaf as Value}
use Rattle.image.specs.Value.{leaf_of}
use Rattle.nav_nodes.specs.FromCheck.{accepted}
use Rattle.walk_states.specs.Opening.{refused_first}
use Rattle.walk_cursor.specs.Places.{leaf_total}
use Rattle.walk_states.specs.declared.Walker.{Walker}
use Rattle.walk_states.specs.Walks.{Gives, Walks, StandsIn, Moved}
use Rattle.walk_states.specs.StateLaws.{place_within, place_small, found_leaf, found_none, moved_on}
use Rattle.print_text.specs.Texts.{longest_line, head_text, refused_text, too_long_text, listing_is, length_head, length_pieces, length_line, lines_none, print_too_long, print_refused, print_accepted}
use Rattle.print_pages.specs.Parts.{leaf_found, lines_between, between_none, between_more, between_rest}
use Rattle.print_text.specs.Writing.{Written, written_none, written_append, written_as, written_front}
use Rattle.print_pages.specs.declared.pages.Page.{Page}
use Rattle.print_pages.specs.Printing.{lines_left, Progress, Opened, Paged}

-- ---- the opening

module _ (s out page : Bytes) (len : ℕ) where
  -- no lines follow
  nothing_follows : len ≤ length page → print s ≡ take len page → Opened s page (record { len = len; lines = None })
  nothing_follows h e = record { within = h; whole = λ _. e; listing = λ w q. let z : ◌≡◌ {A = ℕ} 0 1 = cc in absurd (omega arith) }

  -- an input that is longer than any image
  pub opened_too_long : longest_input < length s → Written out 0 too_long_text page len → Opened s page (record { len = len; lines = None })
  opened_too_long h x = nothing_follows x.within (print_too_long s h ∙ sym (written_front x))

  module _ (short : length s ≤ longest_input) where
    -- an image that is refused
    pub opened_refused : (n : ℕ) → open_walk s 0 ≡ refused n → Written out 0 (refused_text n) page len → Opened s page (record { len = len; lines = None })
    opened_refused n e x =
        let v = refused_first s n e in
        nothing_follows x.within (print_refused s short (λ z. omega (arith, v)) ∙ ap refused_text v.0 ∙ sym (written_front x))

    -- an image that is accepted
    pub opened_listing : (w : Walker) → StandsIn s 0 w → Written out 0 (head_text w.image.frame.leaves) page len → Opened s page (record { len = len; lines = Some w })
    opened_listing w o x =
        let b = w.image.bytes.now in
        let n : length (read_leaves b) ≡ w.image.frame.leaves = leaf_total b w.image.frame (accepted w.image) in
        let size : length (take len page) ≡ len = length-take-le len page x.within in
        let text : print b ≡ take len page ++ lines_left w =
        print_accepted b (rw o.image_is short) o.walks.checked ∙ listing_is (read_leaves b)
        ∙ ap₂ ◌++◌ (ap head_text n ∙ sym (written_front x)) (ap (λ (k : ℕ). lines k (drop k (read_leaves b))) (sym o.place_is)) in
        let progress : Progress s w len = record {
          walks = o.walks;
          image_is = o.image_is;
          pages = take len page;
          size = size;
          text = ap print (sym o.image_is) ∙ text;
          short = omega (arith, length_head w.image.frame.leaves (omega (arith, (accepted w.image).writable.few)), x.next);
        } in
        record {
          within = x.within;
          whole = λ q. let z : ◌≡◌ {A = ℕ} 0 1 = cc in absurd (omega arith);
          listing = λ v q. let same : w ≡ v = cc in rw (← same) progress;
        }

-- ---- a page

-- The page begins with the lines of the leaves from the place of `from` up to that of `at`.
pub record Filled (from : Walker) (page₀ : Bytes) (at : Walker) (page : Bytes) (len : ℕ) : Type 0 where
  pub walks : Walks at
  pub image_is : at.image ≡ from.image
  pub onward : from.cursor.place ≤ at.cursor.place
  pub same_size : length page ≡ length page₀
  pub text : Written page₀ 0 (lines_between (read_leaves from.image.bytes.now) from.cursor.place at.cursor.place) page len
  -- each line has a byte at least
  pub least : at.cursor.place - from.cursor.place ≤ len
  pub most : len ≤ longest_line * (at.cursor.place - from.cursor.place)

-- an empty page
pub filled_none : (from : Walker) (page : Bytes) → Walks from → Filled from page from page 0
filled_none from page w = record {
  walks = w;
  image_is = refl;
  onward = omega arith;
  same_size = refl;
  text = written_as (written_none page 0 (omega arith)) (sym (between_none (read_leaves from.image.bytes.now) from.cursor.place));
  least = omega arith;
  most = omega arith;
}

module _ (from : Walker) (page₀ : Bytes) (at : Walker) (page : Bytes) (len : ℕ) (f : Filled from page₀ at page len) where
  abbrev leaves : List Leaf
  leaves = read_leaves from.image.bytes.now

  same_leaves : read_leaves at.image.bytes.now ≡ leaves
  same_leaves = ap (λ (i : AcceptedImage). read_leaves i.bytes.now) f.image_is

  place_inside : at.cursor.place ≤ length leaves
  place_inside = omega (arith, place_within at f.walks, ap length same_leaves)

  -- a page that is finished: with its lines stand those that are left
  finished : (len ≡ 0 → length leaves ≤ at.cursor.place) → Paged from page (record { len = len; next = at })
  finished h = record {
    within = f.text.within;
    walks = f.walks;
    image_is = f.image_is;
    text = sym (ap (λ (ls : List Leaf). take len page ++ lines at.cursor.place (drop at.cursor.place ls)) same_leaves
        ∙ ap (λ (z : Bytes). z ++ lines at.cursor.place (drop at.cursor.place leaves)) (written_front f.text) ∙ between_rest leaves from.cursor.place at.cursor.place f.onward place_inside);
    some = λ n. omega (arith, f.onward, nonzero len n, f.most);
    none = λ e. omega (arith, h e, f.least);
    onward = f.onward;
    short = f.most;
  }
    where
      nonzero : (k : ℕ) → (k ≡ 0 → ⊥) → 0 < k
      nonzero zero n = absurd (n refl)
      nonzero (suc k) n = omega arith

  -- the page has no room for another line
  pub finished_full : longest_line ≤ length page₀ → length page - len < longest_line → Paged from page (record { len = len; next = at })
  finished_full h l = finished (λ e. absurd (omega (arith, f.same_size)))

  -- no leaf is left
  pub finished_done : Gives (open_walk at.image.bytes.now at.cursor.place) (Ok None) → Paged from page (record { len = len; next = at })
  finished_done g = finished (λ _. omega (arith, found_none at f.walks g, ap length same_leaves))

  -- a leaf's line is written
  module _ (v : Value) (g : Gives (open_walk at.image.bytes.now at.cursor.place) (Ok (Some v))) where
    found : get_elem? leaves at.cursor.place ≡ some (leaf_of v)
    found = ap (λ (ls : List Leaf). get_elem? ls at.cursor.place) (sym same_leaves) ∙ found_leaf at f.walks v g

    -- there is one more
    pub leaf_left : at.cursor.place < length leaves
    leaf_left = (leaf_found leaves at.cursor.place (leaf_of v) found).0

    pub filled_more : (next : Walker) → Moved at next → (after : Bytes) (end : ℕ) → length after ≡ length page → len + longest_line ≤ length page → Written page len (line at.cursor.place (leaf_of v)) after end → Filled from page₀ next after end
    filled_more next m after end same room y =
        let p : next.cursor.place ≡ at.cursor.place + 1 = moved_on at f.walks v g next m in
        let l : Leaf = leaf_of v in
        let s = g.settled v refl in
        let k : length l.cut ≤ 64 = omega (arith, g.sized v refl, ap (λ (x : Value). x.len) s) in
        let n : length l.suffix ≤ 32 = omega (arith, g.sized v refl, ap (λ (x : Value). x.width) s) in
        let size : length (line at.cursor.place l) ≤ longest_line = length_line at.cursor.place l (omega (arith, place_small at f.walks)) k n in
        let one : 1 ≤ length (line at.cursor.place l) = omega (arith, length_pieces at.cursor.place l) in
        record {
          walks = m.walks;
          image_is = m.image_is ∙ f.image_is;
          onward = omega (arith, f.onward);
          same_size = same ∙ f.same_size;
          text = written_as (written_append (omega (arith, f.text.next, f.text.within, f.same_size)) f.text y) (sym (ap (lines_between leaves from.cursor.place) p ∙ between_more leaves from.cursor.place at.cursor.place l f.onward found));
          least = omega (arith, f.least, f.onward, y.next);
          most = omega (arith, f.most, f.onward, y.next);
        }

-- ---- page after page

module _ (s : Bytes) (at : Walker) (n : ℕ) (p : Progress s at n) (page : Bytes) (r : Page) (g : Paged at page r) where
  -- the page is written behind those before it
  pub page_sent : Progress s r.next (n + r.len)
  page_sent = record {
    walks = g.walks;
    image_is = ap (λ (i : AcceptedImage). i.bytes.now) g.image_is ∙ p.image_is;
    pages = p.pages ++ take r.len page;
    size = length-append p.pages (take r.len page) ∙ ap₂ ◌+◌ p.size (length-take-le r.len page g.within);
    text = p.text ∙ ap (λ (z : Bytes). p.pages ++ z) g.text ∙ sym (append_assoc p.pages (take r.len page) (lines_left r.next));
    short = omega (arith, p.short, g.short, g.onward);
  }

  -- no line is left: all of the text is written
  pub all_sent : r.len ≡ 0 → n ≡ length (print s)
  all_sent e =
      let left : lines_left at ≡ [] = ap (lines at.cursor.place) (drop_of_length-le (read_leaves at.image.bytes.now) {i = at.cursor.place} (g.none e)) ∙ lines_none at.cursor.place in
      sym p.size ∙ ap length (sym (p.text ∙ ap (λ (z : Bytes). p.pages ++ z) left ∙ append-nil p.pages))

  -- and fewer leaves are left
  pub fewer_left : (r.len ≡ 0 → ⊥) → length (read_leaves s) - r.next.cursor.place < length (read_leaves s) - at.cursor.place
  fewer_left h = omega (arith, g.some h, place_within r.next g.walks, ap (λ (b : Bytes). length (read_leaves b)) page_sent.image_is)

-- what has been written is within the text
pub sent_within : (s : Bytes) (at : Walker) (n : ℕ) → Progress s at n → n ≤ length (print s)
sent_within s at n p = omega (arith, p.size, ap length p.text, length-append p.pages (lines_left at))
