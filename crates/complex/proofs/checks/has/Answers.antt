-- `complex::checks::has` meets its contract. Assumes nothing.
use Rattle.std.proofs.Common.{refl, rules, eqb}
use Rattle.std.proofs.lemmas.List.Recursion.{or_is}
use Rattle.lists.specs.Lists.{among}
use Rattle.complex.proofs.checks.has.Goals as goal

pub returns : goal.returns
unfolding among
returns c = or_is (among c.args.v) (eqb c.args.v) refl (λ _ _. refl) c.args.pent.now 0 _ (search rules) (search rules)
