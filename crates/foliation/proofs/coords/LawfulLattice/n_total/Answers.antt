-- `foliation::coords::LawfulLattice::n_total` meets its contract. Assumes nothing.
use native.Mathlib.Omega.{arith}
use Rattle.foliation.proofs.Sizes.{sizes, square-most, cube-most}
use Rattle.foliation.proofs.coords.LawfulLattice.n_total.Goals as goal

pub overflow_mul-result : goal.overflow_mul-result
overflow_mul-result c = let l = c.args.self.lattice in let ok = sizes c.args.self in omega (arith, square-most l.n_s ok.s_most)

pub overflow_mul-result-2 : goal.overflow_mul-result-2
overflow_mul-result-2 c = let l = c.args.self.lattice in let ok = sizes c.args.self in omega (arith, cube-most l.n_s ok.s_most)

pub overflow_mul-result-3 : goal.overflow_mul-result-3
overflow_mul-result-3 c = let l = c.args.self.lattice in let ok = sizes c.args.self in omega (arith, ok.cells)
