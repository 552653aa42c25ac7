-- `hessian::matrix::write_hessian` meets its contract. Assumes nothing.
use Rattle.std.proofs.Common.{rules}
use mathlib.Core.Path.{◌≡◌, sym, ◌∙◌}
use Prim.Native.Nat.{◌*◌}
use lib.ListN.{length, take, replicate}
use Rattle.floats.specs.Ops.{zero}
use Rattle.lists.specs.Rows.{over}
use Rattle.hinges.specs.Hinges.{faces_of}
use Rattle.hessian.specs.Hessian.{local_hessian}
use Rattle.hessian.proofs.HessianTerms.{hessian-whole, zeros-first}
use Rattle.hessian.proofs.matrix.write_hessian.Goals as goal

pub returns : goal.returns
returns c =
    let a = c.args in
    let r = c.requires in
    let s = c.add_second_term in
    let f = c.add_first_term in
    let filled : c.fill.new.self ≡ replicate (length (take (length a.free_edges.now * length a.free_edges.now) a.matrix.now)) zero = search rules in
    let whole : f.new.matrix.entries.now ≡ over (local_hessian (faces_of a.complex.now) a.sq_lengths.now a.free_edges.now a.fd_eps) a.matrix.now =
    hessian-whole a.complex.now a.incidence.now (length a.sq_lengths.now) r.0 a.sq_lengths.now a.free_edges.now a.fd_eps r.4 r.3 r.5
    a.matrix.now _ s.new.matrix.entries.now f.new.matrix.entries.now (zeros-first (length a.free_edges.now * length a.free_edges.now) a.matrix.now c.fill.new.self r.7 filled) s.ensures.entries f.ensures.entries in
    let lent = sym (f.ensures.lent ∙ s.ensures.lent) in
    search rules
