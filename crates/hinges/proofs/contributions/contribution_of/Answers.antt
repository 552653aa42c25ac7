-- `hinges::contributions::contribution_of` meets its contract. Assumes nothing.
use Rattle.std.proofs.Common.{◌∙◌, rules}
use lib.Ieee.{nan}
use Rattle.floats.specs.Ops.{◌⊗◌}
use Rattle.geometry.proofs.Maps.{map-calls}
use Rattle.lorentzian.specs.Triangle.{area_sq_grad}
use Rattle.hinges.specs.Action.{contribution_of}
use Rattle.hinges.proofs.contributions.contribution_of.Goals as goal

pub returns : goal.returns
unfolding contribution_of area_sq_grad
returns c =
    map-calls _ _ (λ g. c.factor_of-factor.result ⊗ g ⊗ c.args.deficit) (λ x y t k. search rules) 3 nan nan c.triangle_area_sq_grad.result _ (search rules) c.map.ensures.items
    ∙ rw (c.triangle_area_sq_grad.ensures, c.factor_of-factor.ensures, c.triangle_area_sq_lorentzian.ensures)
