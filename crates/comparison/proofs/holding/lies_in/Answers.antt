-- `comparison::holding::lies_in` meets its contract. Assumes nothing.
use Rattle.std.proofs.Common.{refl, rules}
use Rattle.std.proofs.lemmas.List.Recursion.{and_is}
use Rattle.lists.specs.Lists.{among, within}
use Rattle.comparison.proofs.holding.lies_in.Goals as goal

pub returns : goal.returns
unfolding within
returns c = let a = c.args in and_is (λ s. within s a.row.now) (λ v. among v a.row.now) refl (λ _ _. refl) a.simplex.now 0 _ (search rules) (search rules)
