-- What a walk says, by value, and what is said of a walker that is opened or moved.
use Rattle.std.specs.Prelude.{ℕ, ◌≡◌, Option, Some, None, Result, Ok, Err}
use Rattle.spec.specs.Bytes.{Bytes}
use Rattle.spec.specs.Check.{verdict}
use Rattle.spec.specs.Walk as Walk
use Rattle.spec.specs.Walk.{open_walk, next_place, next}
use Rattle.image.specs.declared.Leaf.{Leaf as Value}
use Rattle.image.specs.declared.refusals.Refusal.{Refusal}
use Rattle.image.specs.Refusals.{number_of}
use Rattle.image.specs.Value.{leaf_of, Sized, value_of}
use Rattle.walk_cursor.specs.Stands.{Stands}
use Rattle.walk_states.specs.declared.Walker.{Walker}

-- ---- what a walk says

-- each case of what a walk says: a refusal by its number, done, or a leaf
abbrev pub standing_of : Result (Option Value) Refusal → Walk.Stand
standing_of (Err r) = Walk.refused (number_of r)
standing_of (Ok None) = Walk.done
standing_of (Ok (Some v)) = Walk.leaf (leaf_of v)

-- A walk gives what document 01's walk says.
pub record Gives (said : Walk.Stand) (r : Result (Option Value) Refusal) : Type 0 where
  pub says : standing_of r ≡ said
  -- all of a leaf is settled: zeros stand behind its cut key and above its suffix bits
  pub settled : (v : Value) → r ≡ Ok (Some v) → v ≡ value_of (leaf_of v)
  -- the leaf's key has at most 64 bytes, and its suffix at most 32 bits
  pub sized : (v : Value) → r ≡ Ok (Some v) → Sized v

-- ---- a walker

-- The check takes the walker's image, and the cursor stands in it.
pub record Walks (w : Walker) : Type 0 where
  pub checked : verdict w.image.bytes.now ≡ 0
  pub stands : Stands w.image.bytes.now w.image.frame w.cursor

-- The walker stands at this place of the image s.
pub record StandsIn (s : Bytes) (place : ℕ) (w : Walker) : Type 0 where
  pub walks : Walks w
  pub image_is : w.image.bytes.now ≡ s
  pub place_is : w.cursor.place ≡ place

-- A walk over the image s is opened at the place: a walker stands there, or the walk is refused.
abbrev pub Opens : Bytes → ℕ → Result Walker Refusal → Type 0
Opens s place (Ok w) = StandsIn s place w
Opens s place (Err r) = open_walk s place ≡ Walk.refused (number_of r)

-- The walker r is behind the walker w: it says what document 01's next says, and stands at the next place.
pub record Moved (w r : Walker) : Type 0 where
  pub walks : Walks r
  pub image_is : r.image ≡ w.image
  pub stands : open_walk w.image.bytes.now r.cursor.place ≡ next w.image.bytes.now w.cursor.place
  pub place_is : r.cursor.place ≡ next_place w.image.bytes.now w.cursor.place
