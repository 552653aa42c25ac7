-- `second_derivatives::add_diagonal` meets its contract. Assumes nothing.
use mathlib.Core.Path.{◌≡◌, refl, ap, ◌∙◌}
use native.Mathlib.Omega.{arith}
use lib.Ieee.{nan}
use lib.ListN.{length-set}
use Rattle.floats.specs.Ops.{◌⊕◌}
use Rattle.lists.specs.Lists.{keep, gather, upto}
use Rattle.lists.specs.Loops.{scatter}
use Rattle.lists.proofs.Loops.{scatter-turn}
use Rattle.incidence.specs.Incidence.{edge_list}
use Rattle.second_derivatives.specs.SecondDerivatives.{nine_adds}
use Rattle.second_derivatives.specs.Parts.{on_diagonal}
use Rattle.second_derivatives.proofs.add_diagonal.Invariants.{event}
use Rattle.second_derivatives.proofs.add_diagonal.Goals as goal

pub loop-i-init : goal.loop-i-init
unfolding upto gather scatter
loop-i-init c = (refl, refl)

pub loop-i-preserved : goal.loop-i-preserved
unfolding scatter
loop-i-preserved c =
    let a = c.args in
    let l = c.loop-i in (
      length-set l.diagonal _ _ ∙ l.invariant.0,
      scatter-turn nan ◌⊕◌ (event (edge_list a.edges) a.s a.area a.deficit) l.i _ a.diagonal.now l.diagonal _ (ap (λ es. event es a.s a.area a.deficit l.i) c.numbers-own.ensures) l.invariant.1 (rw c.area_second.ensures refl),
    )

pub returns : goal.returns
unfolding on_diagonal nine_adds keep upto gather
returns c =
    let l = c.loop-i in
    let e : l.i ≡ 3 = omega arith in
    rw e at l.invariant.1
