use Rattle.query_range.specs.RangeWays.{key_node, met_crossed}
use Rattle.query_range.proofs.ApartLaws.{apart_lower, apart_inside, apart_own, apart_left, apart_upper}
use mathlib.Core.Logic.{⊎_elim, inl, inr}
use mathlib.Core.Path.{sym, ◌∙◌}
use native.Mathlib.Omega.{arith}
use Rattle.query_range.proofs.together.apart.Goals as goal

pub returns-then-b-a : goal.returns-then-b-a
returns-then-b-a c =
    let p = c.requires in
    sym (met_crossed p.lower p.upper p.lo_more p.hi_more (omega (arith, c.if-b-a.true, c.from-a.ensures, c.from-b.ensures)))

pub find-found-requires : goal.find-found-requires
find-found-requires c =
    (key_node c.requires.lower, omega arith)

pub next_higher-next-requires : goal.next_higher-next-requires
next_higher-next-requires c =
    (key_node c.requires.lower, omega arith, c.find-found.ensures)

pub returns-then-not-is_there : goal.returns-then-not-is_there
returns-then-not-is_there c =
    let next = rw c.from-a.ensures at c.next_higher-next.ensures in
    c.left_behind.ensures
    ∙ sym (apart_lower c.requires (omega (arith, c.if-b-a.false, c.from-a.ensures, c.from-b.ensures)) next (⊎_elim (λ h. inl (sym c.is_there.ensures ∙ h)) (λ h. inr (omega (arith, h, c.from-b.ensures))) c.then-not-is_there.either))

pub returns-then-next-b : goal.returns-then-next-b
returns-then-next-b c =
    let next = rw c.from-a.ensures at c.next_higher-next.ensures in
    sym (apart_inside c.requires (omega (arith, c.if-b-a.false, c.from-a.ensures, c.from-b.ensures)) next (sym c.is_there.ensures ∙ c.if-not-is_there.false) (omega (arith, c.if-next-b.true, c.from-b.ensures)))

pub reached_behind-requires : goal.reached_behind-requires
reached_behind-requires c =
    let next = rw c.from-a.ensures at c.next_higher-next.ensures in
    apart_own c.requires (omega (arith, c.if-b-a.false, c.from-a.ensures, c.from-b.ensures)) next (sym c.is_there.ensures ∙ c.if-not-is_there.false) (omega (arith, c.if-b-next.false, c.if-next-b.false, c.from-b.ensures))

pub returns-then-left_behind : goal.returns-then-left_behind
returns-then-left_behind c =
    let next = rw c.from-a.ensures at c.next_higher-next.ensures in
    let t = c.if-left_behind.true in
    t
    ∙ sym (apart_left c.requires (omega (arith, c.if-b-a.false, c.from-a.ensures, c.from-b.ensures)) next (sym c.is_there.ensures ∙ c.if-not-is_there.false) (omega (arith, c.if-next-b.false, c.from-b.ensures)) (sym c.left_behind-2.ensures ∙ t))

pub returns-else-left_behind : goal.returns-else-left_behind
returns-else-left_behind c =
    let next = rw c.from-a.ensures at c.next_higher-next.ensures in
    c.reached_behind.ensures
    ∙ sym (apart_upper c.requires (omega (arith, c.if-b-a.false, c.from-a.ensures, c.from-b.ensures)) next (sym c.is_there.ensures ∙ c.if-not-is_there.false) (omega (arith, c.if-next-b.false, c.from-b.ensures)) (sym c.left_behind-2.ensures ∙ c.if-left_behind.false))
