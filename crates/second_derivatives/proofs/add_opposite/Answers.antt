-- `second_derivatives::add_opposite` meets its contract. Assumes nothing.
use Rattle.floats.specs.Ops.{◌⊕◌}
use Rattle.lists.specs.Lists.{gather}
use Rattle.second_derivatives.specs.Parts.{placed}
use Rattle.second_derivatives.proofs.Opposites.{area-skipped, area-kept}
use Rattle.second_derivatives.proofs.Scattering.{scattered-none}
use Rattle.second_derivatives.proofs.add_opposite.Goals as goal

pub returns-then-area : goal.returns-then-area
unfolding placed gather
returns-then-area c =
    let a = c.args in
    rw (area-skipped a.s.now a.pair.now.jacobian.now a.pair.now.k c.lengths_opposite-own.result c.abs_area-area.result c.lengths_opposite-own.ensures c.abs_area-area.ensures c.if-area.true) (scattered-none ◌⊕◌ a.matrix.now)

pub returns : goal.returns
returns c =
    let a = c.args in
    let o = c.lengths_opposite-own in
    let r = c.abs_area-area in
    let q = c.triangle_area_sq_lorentzian in
    let f = c.factor_of-factor in
    let g = c.grad_opposite-grad in
    rw (← area-kept a.s.now a.pair.now.jacobian.now a.pair.now.k o.result r.result o.ensures r.ensures c.if-area.false q.result f.result g.result q.ensures f.ensures g.ensures) c.add_slopes.ensures
