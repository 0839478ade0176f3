-- An entry is judged by whether the next one begins a node, and by whether it may be the extra FF.
use Rattle.check_levels.specs.EntryPositions.{entry_last, entry_extra, entry_label}
use Rattle.check_trie.proofs.sparse.entry_valid.Goals as goal

pub returns-then-begins : goal.returns-then-begins
returns-then-begins c =
    let a = c.args in
    let b = c.bit_at-continues in
    entry_last a.bodies.now.labels.now a.bodies.now.children.now a.at.0 b.result b.ensures a.root a.start a.begins c.if-begins.true

pub returns-then-start-bodies : goal.returns-then-start-bodies
returns-then-start-bodies c =
    let a = c.args in
    let b = c.bit_at-continues in
    entry_extra a.bodies.now.labels.now a.bodies.now.children.now a.at.0 b.result b.ensures a.root a.start a.begins c.if-begins.false c.if-start-bodies.true

pub returns : goal.returns
returns c =
    let a = c.args in
    let b = c.bit_at-continues in
    entry_label a.bodies.now.labels.now a.bodies.now.children.now a.at.0 b.result b.ensures a.root a.start a.begins c.if-begins.false c.if-start-bodies.false
