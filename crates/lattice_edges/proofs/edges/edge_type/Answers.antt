-- `lattice_edges::edges::edge_type` meets its contract. Assumes nothing.
use mathlib.Core.Path.{refl}
use native.Mathlib.Omega.{arith}
use borrow.Author.Tests.{eq-eqb, ne_eqb}
use Rattle.lists.proofs.Tests.{passes, fails}
use Rattle.foliation.proofs.Sizes.{sizes}
use Rattle.lattice_edges.specs.Edges.{edge_type_of}
use Rattle.lattice_edges.proofs.Images.{time-says}
use Rattle.lattice_edges.proofs.edges.edge_type.Goals as goal

pub nonzero_rem-p : goal.nonzero_rem-p
nonzero_rem-p c = omega (arith, (sizes c.args.lawful).t_least)

pub nonzero_rem-q : goal.nonzero_rem-q
nonzero_rem-q c = omega (arith, (sizes c.args.lawful).t_least)

pub returns-then-p-n_t : goal.returns-then-p-n_t
unfolding edge_type_of
returns-then-p-n_t c = let a = c.args in rw (passes (time-says a.lawful a.a a.b) c.if-p-n_t.true) refl

pub nonzero_div-p : goal.nonzero_div-p
nonzero_div-p c = omega (arith, (sizes c.args.lawful).t_least)

pub nonzero_div-q : goal.nonzero_div-q
nonzero_div-q c = omega (arith, (sizes c.args.lawful).t_least)

pub returns-then-p-n_t-2 : goal.returns-then-p-n_t-2
unfolding edge_type_of
returns-then-p-n_t-2 c = let a = c.args in rw (fails (time-says a.lawful a.a a.b) c.if-p-n_t.false, eq-eqb _ _ c.if-p-n_t-2.true) refl

pub returns : goal.returns
unfolding edge_type_of
returns c = let a = c.args in rw (fails (time-says a.lawful a.a a.b) c.if-p-n_t.false, ne_eqb _ _ c.if-p-n_t-2.false) refl
