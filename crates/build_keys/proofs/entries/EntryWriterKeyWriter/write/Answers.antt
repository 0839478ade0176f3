-- What is left of the key's entries stands from level d on; an exact leaf comes last.
use Prim.Native.Nat.{ℕ}
use mathlib.Core.Path.{subst, refl, sym, ap, ◌∙◌}
use mathlib.Core.List.{[], ◌∷◌}
use lib.ListN.{length}
use Rattle.build_laws.specs.declared.Entry.{Entry}
use Rattle.build_laws.specs.Emissions.{emission}
use Rattle.build_laws.specs.BytePass.{byte_state}
use Rattle.build_laws.specs.Passes.{EntriesRoom, write_entry}
use Rattle.build_keys.specs.EntryLaws.{Left, left_all, branch_is, branch_room, branch_written, exact_room, exact_written, all_written}
use Rattle.build_keys.proofs.entries.EntryWriterKeyWriter.write.Goals as goal

pub loop-d-init : goal.loop-d-init
loop-d-init g c =
    let a = c.args in
    let b = c.branch_levels-b in
    subst (λ (i : ℕ). Left g.B.EntryBody.kind a.s.now a.k a.self.now.levels (record { lo = i; hi = b.result.hi }) a.out.now a.cur.now a.out.now a.cur.now b.result.lo) b.ensures.lo_is (left_all c.requires.0 b.ensures c.requires.1)

pub put-requires : goal.put-requires
put-requires g c =
    let l = c.loop-d in
    let q = branch_is l.d _ _ l.invariant.listed l.invariant.levels c.loop-d-test.true c.leaf_level-leaf.ensures.0 refl in
    subst (λ (e : Entry). EntriesRoom g.B.EntryBody.kind (emission l.d e ∷ []) (length l.out) l.cur) (sym q) (branch_room l.invariant c.loop-d-test.true)

pub loop-d-preserved : goal.loop-d-preserved
loop-d-preserved g c =
    let l = c.loop-d in
    let q = branch_is l.d _ _ l.invariant.listed l.invariant.levels c.loop-d-test.true c.leaf_level-leaf.ensures.0 refl in
    branch_written l.invariant c.loop-d-test.true c.put.auto.out (c.put.ensures ∙ ap (λ (e : Entry). write_entry g.B.EntryBody.kind (emission l.d e) (byte_state l.out l.cur)) q)

pub put-requires-then-has_exact : goal.put-requires-then-has_exact
put-requires-then-has_exact g c =
    exact_room c.loop-d.invariant c.loop-d-test.false (sym c.has_exact.ensures ∙ c.if-has_exact.true)

pub returns-then-has_exact : goal.returns-then-has_exact
returns-then-has_exact g c =
    exact_written c.loop-d.invariant c.loop-d-test.false (sym c.has_exact.ensures ∙ c.if-has_exact.true) c.put-then-has_exact.ensures

pub returns-else-has_exact : goal.returns-else-has_exact
returns-else-has_exact g c =
    all_written c.loop-d.invariant c.loop-d-test.false (sym c.has_exact.ensures ∙ c.if-has_exact.false)
