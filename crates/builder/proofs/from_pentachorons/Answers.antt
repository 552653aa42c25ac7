-- `builder::from_pentachorons` meets its contract. Assumes nothing.
use mathlib.Core.Path.{sym, ◌∙◌}
use Rattle.complex.specs.Lent.{lists_in}
use Rattle.complex.proofs.Offences.{passed}
use Rattle.builder.proofs.from_pentachorons.Goals as goal

pub build-requires : goal.build-requires
build-requires c = let a = c.args in passed a.n_vertices a.given.now (lists_in a.lists.now) (rw c.rooms.ensures at (sym c.check.ensures ∙ c.in_ok-check.was))
