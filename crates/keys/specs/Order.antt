-- How a key stands to another, in document 01's order.
use Rattle.std.specs.Prelude.{cond}
use Rattle.spec.specs.Bytes.{Bytes, equal}
use Rattle.spec.specs.Keys.{below}
use Rattle.std.specs.declared.cmp.Ordering.{Ordering}
use Rattle.std.specs.declared.cmp.Ordering.TheVariants.{Less, Equal, Greater}

-- how p stands to q in document 01's order
unfoldable pub order : Bytes → Bytes → Ordering
unfolding below equal
order p q = cond (below p q) Less (cond (equal p q) Equal Greater)
