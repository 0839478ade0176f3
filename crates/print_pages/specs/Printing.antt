-- What the functions of the printer ask and give: where in the text of an input each page stands.
use Rattle.std.specs.Prelude.{ℕ, ◌+◌, ◌-◌, ◌*◌, ◌≤◌, ◌<◌, ◌≡◌, ◌++◌, length, take, drop, Some, None}
use Rattle.spec.specs.Bytes.{Bytes}
use Rattle.spec.specs.Nodes.{read_leaves}
use Rattle.spec.specs.Print.{lines, print}
use Rattle.walk_states.specs.declared.Walker.{Walker}
use Rattle.walk_states.specs.Walks.{Walks}
use Rattle.print_text.specs.Texts.{longest_line}
use Rattle.print_pages.specs.declared.opening.Opening.{Opening}
use Rattle.print_pages.specs.declared.pages.Page.{Page}

-- the lines of the leaves from a walker's place on
abbrev pub lines_left : Walker → Bytes
lines_left at = lines at.cursor.place (drop at.cursor.place (read_leaves at.image.bytes.now))

-- The first n bytes of the text of s have been written, and the lines of the leaves from the walker's place on are left.
pub record Progress (s : Bytes) (at : Walker) (n : ℕ) : Type 0 where
  pub walks : Walks at
  pub image_is : at.image.bytes.now ≡ s
  -- the opening and the pages that have been written, one behind the other
  pub pages : Bytes
  pub size : length pages ≡ n
  pub text : print s ≡ pages ++ lines_left at
  -- there is a line for each leaf before the place, and one more
  pub short : n ≤ longest_line * (at.cursor.place + 1)

-- The page begins with the opening of the input's text.
pub record Opened (s page : Bytes) (r : Opening) : Type 0 where
  pub within : r.len ≤ length page
  -- which is all of it
  pub whole : r.lines ≡ None → print s ≡ take r.len page
  -- or the leaves' lines follow
  pub listing : (at : Walker) → r.lines ≡ Some at → Progress s at r.len

-- The page begins with the lines of the leaves from a walker's place up to the next page's.
pub record Paged (from : Walker) (page : Bytes) (r : Page) : Type 0 where
  pub within : r.len ≤ length page
  pub walks : Walks r.next
  pub image_is : r.next.image ≡ from.image
  -- where the page stands in the lines that are left
  pub text : lines_left from ≡ take r.len page ++ lines_left r.next
  -- it has a line, unless none is left
  pub some : (r.len ≡ 0 → ⊥) → from.cursor.place < r.next.cursor.place
  pub none : r.len ≡ 0 → length (read_leaves from.image.bytes.now) ≤ from.cursor.place
  pub onward : from.cursor.place ≤ r.next.cursor.place
  pub short : r.len ≤ longest_line * (r.next.cursor.place - from.cursor.place)
