-- `hessian::matrix::add_pent` meets its contract. Assumes nothing.
use native.Mathlib.Omega.{arith}
use Rattle.hinges.specs.Hinges.{faces_of}
use Rattle.hinges.proofs.PentachoronSteps.{own-edges}
use Rattle.hessian.proofs.Again.{measured-of}
use Rattle.hessian.proofs.HessianLoops.{second-event}
use Rattle.hessian.proofs.matrix.add_pent.Goals as goal

pub pent_edge_indices-own-requires : goal.pent_edge_indices-own-requires
pent_edge_indices-own-requires c = ((measured-of c.args.built.now).passable.edge_numbers, c.requires.0)

pub pent_sq_lengths-s-requires : goal.pent_sq_lengths-s-requires
pent_sq_lengths-s-requires c =
    let a = c.args in
    own-edges (measured-of a.built.now).passable a.pent.0 c.requires.0 c.pent_edge_indices-own.result.now c.pent_edge_indices-own.ensures

pub places_in-at-requires : goal.places_in-at-requires
places_in-at-requires c =
    let a = c.args in
    (omega arith, (own-edges (measured-of a.built.now).passable a.pent.0 c.requires.0 c.pent_edge_indices-own.result.now c.pent_edge_indices-own.ensures).0)

pub returns : goal.returns
returns c =
    let a = c.args in
    let o = c.pent_edge_indices-own in
    let s = c.pent_sq_lengths-s in
    let p = c.places_in-at in
    rw (← second-event (faces_of a.built.now.complex) a.built.now.sq_lengths.now a.free_edges.now o.result.now p.result a.matrix.now.n c.requires.1 s.result a.pent.0 p.ensures s.ensures a.fd_eps o.ensures) c.add_second.ensures
