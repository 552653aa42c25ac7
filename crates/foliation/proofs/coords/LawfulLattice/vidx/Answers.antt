-- `foliation::coords::LawfulLattice::vidx` meets its contract. Assumes nothing.
use mathlib.Core.Path.{refl}
use native.Mathlib.Omega.{arith}
use Rattle.foliation.specs.Lattice.{vertex}
use Rattle.foliation.proofs.Coordinates.{plane-below, space-below, vertex-below}
use Rattle.foliation.proofs.Sizes.{sizes, cube-most, square-most}
use Rattle.foliation.proofs.coords.LawfulLattice.vidx.Goals as goal

pub nonzero_rem-space : goal.nonzero_rem-space
nonzero_rem-space c = let l = c.args.self.lattice in let ok = sizes c.args.self in omega (arith, ok.s_least)

pub nonzero_rem-space-2 : goal.nonzero_rem-space-2
nonzero_rem-space-2 c = let l = c.args.self.lattice in let ok = sizes c.args.self in omega (arith, ok.s_least)

pub nonzero_rem-space-3 : goal.nonzero_rem-space-3
nonzero_rem-space-3 c = let l = c.args.self.lattice in let ok = sizes c.args.self in omega (arith, ok.s_least)

pub overflow_mul-space : goal.overflow_mul-space
overflow_mul-space c = let l = c.args.self.lattice in let ok = sizes c.args.self in let v = c.args.at in omega (arith, plane-below l ok v, square-most l.n_s ok.s_most)

pub overflow_add-space : goal.overflow_add-space
overflow_add-space c = let l = c.args.self.lattice in let ok = sizes c.args.self in let v = c.args.at in omega (arith, plane-below l ok v, square-most l.n_s ok.s_most)

pub overflow_mul-space-2 : goal.overflow_mul-space-2
overflow_mul-space-2 c = let l = c.args.self.lattice in let ok = sizes c.args.self in let v = c.args.at in omega (arith, space-below l ok v, cube-most l.n_s ok.s_most)

pub overflow_add-space-2 : goal.overflow_add-space-2
overflow_add-space-2 c = let l = c.args.self.lattice in let ok = sizes c.args.self in let v = c.args.at in omega (arith, space-below l ok v, cube-most l.n_s ok.s_most)

pub nonzero_rem-result : goal.nonzero_rem-result
nonzero_rem-result c = let l = c.args.self.lattice in let ok = sizes c.args.self in omega (arith, ok.t_least)

pub overflow_mul-result : goal.overflow_mul-result
unfolding vertex
overflow_mul-result c = let l = c.args.self.lattice in let ok = sizes c.args.self in let v = c.args.at in omega (arith, vertex-below l ok v, ok.cells)

pub overflow_add-result : goal.overflow_add-result
unfolding vertex
overflow_add-result c = let l = c.args.self.lattice in let ok = sizes c.args.self in let v = c.args.at in omega (arith, vertex-below l ok v, ok.cells)

pub overflow_cast-result : goal.overflow_cast-result
unfolding vertex
overflow_cast-result c = let l = c.args.self.lattice in let ok = sizes c.args.self in let v = c.args.at in omega (arith, vertex-below l ok v, ok.cells)

pub returns : goal.returns
unfolding vertex
returns c = refl
