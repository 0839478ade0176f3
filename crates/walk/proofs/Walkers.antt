-- What the contracts of a walker's functions say: `open` of a slice and a place, and the methods `next` and `stand` of a walker.
use Prim.Native.Nat.{ℕ}
use mathlib.Core.Path.{◌≡◌}
use mathlib.Core.List.{List}
use seplogic.Ra.Ura.{Ura}
use mir.Val.{Val}
use base.Logic.{SProp, ent, snd∗, ex_e}
use base.Fml.{Lft, Share}
use prog.Memory.{Memory}
use prog.Routine.{Routine}
use types.Logic.{Logic, sem}
use contract.Monad.{Fun, fact}
use denote.Ref.{Bor}
use denote.Triple.Statement.{Contract}
use denote.Triple.Spec.{triple_of}
use denote.Triple.Clauses.{ensured, lasts}
use Rattle.std.specs.Prelude.{Option, Result, Ok, IfOk}
use Rattle.spec.specs.Walk.{open_walk}
use Rattle.walk_states.specs.Walks.{Gives, Opens, Moved}
use Rattle.image.specs.FrameOf.{FrameOf}
use Rattle.image.specs.declared.Leaf.{Leaf}
use Rattle.image.specs.declared.refusals.Refusal.{Refusal}
use Rattle.walk_states.specs.declared.Walker.{Walker}
use Rattle.walk_states.specs.contracts.open as opening
use Rattle.walk_states.specs.contracts.Walker.next as move-on
use Rattle.walk_states.specs.contracts.Walker.stand as stand

module _ {M : Type 1} {𝓤 : Ura M} (𝓛 : Logic 𝓤) (mem : Memory → SProp 𝓤) (run : Routine → Fun 𝓤) where
  abbrev pub Open : Contract 𝓤
  Open = triple_of 𝓛 opening.signature (opening.spec 𝓛 mem run)

  abbrev pub Next : Contract 𝓤
  Next = triple_of 𝓛 move-on.signature (move-on.spec 𝓛 mem run)

  abbrev pub Stand : Contract 𝓤
  Stand = triple_of 𝓛 stand.signature (stand.spec 𝓛 mem run)

-- ---- `open`, of the slice s and the place n

abbrev pub Opened : Bor (List ℕ) → ℕ → Result Walker Refusal → Type 0
Opened s n r = IfOk r (λ w. (w.image.bytes ≡ s) × FrameOf s.now w.image.frame) × Opens s.now n r

module _ {M : Type 1} {𝓤 : Ura M} (𝓛 : Logic 𝓤) (mem : Memory → SProp 𝓤) (run : Routine → Fun 𝓤) (κ : Lft) (q : Share) (s : Bor (List ℕ)) (n : ℕ) where
  -- of what is ensured, the clause alone: no function here has a `&mut`, so what is said of last values is dropped
  pub open_said : (r : Result Walker Refusal) → ent 𝓤 (ensured 𝓛 opening.ended (opening.clauses 𝓛 mem run) (κ, tt) (s, (n, tt)) tt r) (fact 𝓤 (Opened s n r))
  open_said r = ex_e 𝓤 _ (λ ws. snd∗ 𝓤 (sem 𝓛 (lasts opening.ended (κ, tt) (s, (n, tt)) ws)) (fact 𝓤 (Opened s n r)))

-- ---- the methods: `next` of the walker w, and `stand` of a walker that is lent

module _ {M : Type 1} {𝓤 : Ura M} (𝓛 : Logic 𝓤) (mem : Memory → SProp 𝓤) (run : Routine → Fun 𝓤) (κ : Lft) (q : Share) (w : Walker) (u : Val) where
  pub next_said : (r : Walker) → ent 𝓤 (ensured 𝓛 move-on.ended (move-on.clauses 𝓛 mem run) (κ, tt) (w, tt) tt r) (fact 𝓤 (Moved w r))
  next_said r = ex_e 𝓤 _ (λ ws. snd∗ 𝓤 (sem 𝓛 (lasts move-on.ended (κ, tt) (w, tt) ws)) (fact 𝓤 (Moved w r)))

abbrev pub Says : Bor Walker → Option Leaf → Type 0
Says w r = Gives (open_walk w.now.image.bytes.now w.now.cursor.place) (Ok r)

module _ {M : Type 1} {𝓤 : Ura M} (𝓛 : Logic 𝓤) (mem : Memory → SProp 𝓤) (run : Routine → Fun 𝓤) (κ ι : Lft) (q : Share) (w : Bor Walker) (u : Val) where
  pub stand_said : (r : Option Leaf) → ent 𝓤 (ensured 𝓛 stand.ended (stand.clauses 𝓛 mem run) (κ, (ι, tt)) (w, tt) tt r) (fact 𝓤 (Says w r))
  stand_said r = ex_e 𝓤 _ (λ ws. snd∗ 𝓤 (sem 𝓛 (lasts stand.ended (κ, (ι, tt)) (w, tt) ws)) (fact 𝓤 (Says w r)))
