-- `second_derivatives::grad_opposite` meets its contract. Assumes nothing.
use mathlib.Core.List.{[]}
use mathlib.Core.Path.{sym, ap, ◌∙◌}
use Rattle.std.specs.Result.{is_ok}
use Rattle.refusals.specs.Refusals.{value_or}
use Rattle.second_derivatives.proofs.Opposites.{gradient-is}
use Rattle.second_derivatives.proofs.grad_opposite.Goals as goal

pub unwrap-requires : goal.unwrap-requires
unwrap-requires c = ap is_ok (c.tri_area_sq_grad_in_pent.ensures ∙ gradient-is c.args.pair.now.k c.args.pair.now.below c.args.s.now)

pub returns : goal.returns
returns c = ap (λ r. value_or r []) (sym c.unwrap.ensures ∙ (c.tri_area_sq_grad_in_pent.ensures ∙ gradient-is c.args.pair.now.k c.args.pair.now.below c.args.s.now))
