-- `complex::checks::too_large` meets its contract. Assumes nothing.
use Rattle.std.proofs.Common.{refl, rules}
use Rattle.std.proofs.lemmas.List.Recursion.{or_is}
use lib.Dec.{leb}
use Rattle.complex.specs.Builder.{too_large}
use Rattle.complex.proofs.checks.too_large.Goals as goal

pub returns : goal.returns
unfolding too_large
returns c = or_is (too_large c.args.n) (leb c.args.n) refl (λ _ _. refl) c.args.numbers.now 0 _ (search rules) (search rules)
