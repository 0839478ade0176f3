use Rattle.std.proofs.Common.{ℕ, ◌*◌, ◌%◌, ◌^◌, bit_xor, ap, ◌∙◌}
use Rattle.spec.specs.Fnv.{prime, hash_step}
use Rattle.fnv.proofs.Fnv1a.step.Goals as goal

pub returns : goal.returns
unfolding hash_step
returns c =
    c.times_prime.ensures ∙ ap (λ (b : ℕ). bit_xor b c.args.self.state * prime % 2 ^ 64) c.from.ensures
