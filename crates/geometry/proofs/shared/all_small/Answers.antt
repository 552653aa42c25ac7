-- `geometry::shared::all_small` meets its contract. Assumes nothing.
use lib.Ieee.{Float, nan, lt}
use Rattle.std.proofs.Common.{refl, rules}
use Rattle.std.proofs.lemmas.List.Recursion.{and_is}
use Rattle.floats.specs.Methods.{abs_of}
use Rattle.geometry.specs.declared.shared.TheConstants.{SMALL}
use Rattle.geometry.specs.Minors.{all_small}
use Rattle.geometry.proofs.shared.all_small.Goals as goal

pub returns : goal.returns
unfolding all_small
returns c = and_is all_small (λ (x : Float). lt (abs_of x) SMALL) refl (λ _ _. refl) c.args.s.now nan _ (search rules) (search rules)
