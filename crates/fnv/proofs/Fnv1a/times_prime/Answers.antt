use Rattle.std.proofs.Common.{refl}
use Rattle.spec.specs.Fnv.{prime}
use Rattle.fnv.specs.ProductLaws.{product_of_halves}
use Rattle.fnv.proofs.Fnv1a.times_prime.Goals as goal

pub returns : goal.returns
returns c =
    product_of_halves c.args.x prime _ _ _ _ c.wrapping_add_u64.ensures.value c.wrapping_add_u64-2.ensures.value refl
