-- `foliation::coords::LawfulLattice::vertex_coords_4d` meets its contract. Assumes nothing.
use Prim.Native.Nat.{◌*◌, ◌≤◌}
use mathlib.Core.Path.{refl}
use native.Mathlib.Nat.{mul-le-mul}
use native.Mathlib.Omega.{arith}
use Rattle.foliation.specs.Lattice.{coords_of}
use Rattle.foliation.proofs.Sizes.{sizes, square-most}
use Rattle.foliation.proofs.coords.LawfulLattice.vertex_coords_4d.Goals as goal

pub nonzero_div-rest : goal.nonzero_div-rest
nonzero_div-rest c = let l = c.args.self.lattice in let ok = sizes c.args.self in omega (arith, ok.t_least)

pub nonzero_rem-result : goal.nonzero_rem-result
nonzero_rem-result c = let l = c.args.self.lattice in let ok = sizes c.args.self in omega (arith, ok.t_least)

pub nonzero_rem-result-2 : goal.nonzero_rem-result-2
nonzero_rem-result-2 c = let l = c.args.self.lattice in let ok = sizes c.args.self in omega (arith, ok.s_least)

pub nonzero_div-result : goal.nonzero_div-result
nonzero_div-result c = let l = c.args.self.lattice in let ok = sizes c.args.self in omega (arith, ok.s_least)

pub nonzero_rem-result-3 : goal.nonzero_rem-result-3
nonzero_rem-result-3 c = let l = c.args.self.lattice in let ok = sizes c.args.self in omega (arith, ok.s_least)

pub overflow_mul-result : goal.overflow_mul-result
overflow_mul-result c = let l = c.args.self.lattice in let ok = sizes c.args.self in omega (arith, square-most l.n_s ok.s_most)

pub nonzero_div-result-2 : goal.nonzero_div-result-2
nonzero_div-result-2 c = let l = c.args.self.lattice in let ok = sizes c.args.self in let p : 4 ≤ l.n_s * l.n_s = mul-le-mul ok.s_least ok.s_least in omega arith

pub returns : goal.returns
unfolding coords_of
returns c = refl
