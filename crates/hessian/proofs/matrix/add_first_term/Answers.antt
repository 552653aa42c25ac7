-- `hessian::matrix::add_first_term` meets its contract. Assumes nothing.
use native.Mathlib.Omega.{arith}
use Rattle.hessian.proofs.Again.{measured-of}
use Rattle.hessian.proofs.matrix.add_first_term.Goals as goal

pub add_first_term_in-requires-2 : goal.add_first_term_in-requires-2
add_first_term_in-requires-2 c = let r = c.requires in (r.0, r.1, (measured-of c.args.built.now).few, omega arith, r.2, omega arith, r.3)
