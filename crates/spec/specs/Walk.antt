-- Document 01, "Questions and replies" and "Turning a file down": the walk over the leaves of an accepted image, in key order.
use Rattle.std.specs.Prelude.{ℕ, suc, true, false, List, length, ltb, eqb}
use Rattle.std.proofs.Math.Option.{none, some}
use Rattle.std.proofs.Math.ListN.{get_elem?}
use Rattle.spec.specs.Bytes.{Bytes}
use Rattle.spec.specs.Leaves.{Leaf}
use Rattle.spec.specs.Nodes.{read_leaves}
use Rattle.spec.specs.Check.{verdict}

-- What a walk says at a place (document 01's word for a leaf's number in key order, or the leaf count for done):
-- a refusal's number; or a leaf's cut key, kind and suffix by value; or done, behind the last leaf.
pub data Stand : Type 0 where
  refused : ℕ → Stand
  leaf : Leaf → Stand
  done : Stand

-- the leaf whose number in key order is the place, or done behind the last
unfoldable pub stand_at : List Leaf → ℕ → Stand
stand_at ls place = elim (get_elem? ls place) [ none ↦ done | some l ↦ leaf l ]

-- A walk is opened at a place: the check's numbers; 17, the place is neither a leaf of this image nor done.
unfoldable pub open_walk : Bytes → ℕ → Stand
unfolding verdict read_leaves stand_at
open_walk b place =
    let v : ℕ = verdict b in
    let ls : List Leaf = read_leaves b in
    elim (eqb v 0) [
      | false ↦ refused v
      | true ↦
          elim (ltb (length ls) place) [ true ↦ refused 17 | false ↦ stand_at ls place ]
    ]

-- It goes to the next place; behind the last leaf it stays.
unfoldable pub next_place : Bytes → ℕ → ℕ
unfolding read_leaves
next_place b place = elim (ltb place (length (read_leaves b))) [ true ↦ suc place | false ↦ place ]

-- where the walk stands after its next move from a place
unfoldable pub next : Bytes → ℕ → Stand
unfolding open_walk next_place
next b place = open_walk b (next_place b place)
