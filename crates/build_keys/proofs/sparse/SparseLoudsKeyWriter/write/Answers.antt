-- A listed key's bits are those of its entries.
use mathlib.Core.Path.{◌∙◌}
use lib.ListN.{length}
use Rattle.build_laws.specs.KeyLaws.{key_length}
use Rattle.build_laws.specs.Passes.{key_bytes}
use Rattle.build_keys.specs.KeySparseBits.{later_ask, later_written}
use Rattle.build_keys.proofs.sparse.SparseLoudsKeyWriter.write.Goals as goal

pub write_later-requires : goal.write_later-requires
write_later-requires c =
    let a = c.args in
    let i = c.requires.0 in
    (i.numbers, later_ask a.self.now.levels a.k (key_bytes a.s.now a.k) (key_length a.s.now a.k.at a.k.len i.within) (length a.out.now) a.cur.now c.requires.1)

pub returns : goal.returns
returns c =
    let a = c.args in
    c.write_later.ensures ∙ later_written a.self.now.levels a.k (key_bytes a.s.now a.k) (key_length a.s.now a.k.at a.k.len c.requires.0.within) _
