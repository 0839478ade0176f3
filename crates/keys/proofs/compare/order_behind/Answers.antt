use Rattle.std.proofs.Common.{sym, arith}
use Rattle.keys.proofs.OrderLaws.{order_equal, order_above, order_below, order_byte_below, order_byte_above}
use Rattle.keys.proofs.compare.order_behind.Goals as goal

pub returns-then-p-i : goal.returns-then-p-i
returns-then-p-i c =
    let a = c.args in sym (order_equal a.p.now a.q.now a.i c.requires (omega arith) (omega arith))

pub returns-then-q-i : goal.returns-then-q-i
returns-then-q-i c =
    let a = c.args in sym (order_above a.p.now a.q.now a.i c.requires (omega arith) (omega arith))

pub returns-then-p-i-2 : goal.returns-then-p-i-2
returns-then-p-i-2 c =
    let a = c.args in sym (order_below a.p.now a.q.now a.i c.requires (omega arith) (omega arith))

pub returns-then-p-i-3 : goal.returns-then-p-i-3
returns-then-p-i-3 c =
    let a = c.args in sym (order_byte_below a.p.now a.q.now a.i c.requires (omega arith) (omega arith) (omega arith))

pub returns : goal.returns
returns c =
    let a = c.args in sym (order_byte_above a.p.now a.q.now a.i c.requires (omega arith) (omega arith) (omega arith))
