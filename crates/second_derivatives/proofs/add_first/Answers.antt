-- `second_derivatives::add_first` meets its contract. Assumes nothing.
use mathlib.Core.Path.{refl}
use Rattle.lists.specs.Lists.{keep, gather}
use Rattle.lists.specs.Loops.{scatter}
use Rattle.second_derivatives.specs.SecondDerivatives.{first_adds}
use Rattle.second_derivatives.specs.Parts.{on_diagonal, off_diagonal, placed, before}
use Rattle.second_derivatives.proofs.Scattering.{scattered-none}
use Rattle.second_derivatives.proofs.add_first.Goals as goal

pub returns-then-area : goal.returns-then-area
unfolding first_adds on_diagonal off_diagonal placed keep gather scatter
returns-then-area c = rw (← c.abs_area-area.ensures, c.if-area.true) (record { diagonal = refl; others = scattered-none before c.args.matrix.now })

pub returns : goal.returns
unfolding first_adds
returns c = rw (← c.abs_area-area.ensures, c.if-area.false) (record { diagonal = c.add_diagonal.ensures; others = c.put_others.ensures })
