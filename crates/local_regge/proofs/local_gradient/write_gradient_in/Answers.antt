-- `local_regge::local_gradient::write_gradient_in` meets its contract. Assumes nothing.
use native.Mathlib.Omega.{arith}
use Rattle.local_regge.proofs.LocalSteps.{on-triangles, entries-written}
use Rattle.local_regge.proofs.local_gradient.write_gradient_in.Goals as goal

pub mark_tris-requires : goal.mark_tris-requires
mark_tris-requires g c = let r = c.requires in (on-triangles c.args.built.now, r.1, omega (arith, r.2))

pub add_marked_contributions-requires : goal.add_marked_contributions-requires
add_marked_contributions-requires g c = let r = c.requires in (r.0, omega (arith, r.2, c.mark_tris.auto.marks), omega (arith, r.4))

pub write_entries-requires : goal.write_entries-requires
write_entries-requires g c = let r = c.requires in ((λ k h. omega (arith, r.1 k h, r.4, c.add_marked_contributions.auto.entries)), r.6)

pub returns : goal.returns
returns g c =
    let a = c.args in
    let r = c.requires in
    entries-written a.built.now a.sq_lengths.now r.0 a.free_edges.now r.1 _ _ r.2 r.4 c.mark_tris.new.marks c.mark_tris.ensures c.add_marked_contributions.new.entries c.add_marked_contributions.ensures a.grad.now c.write_entries.new.grad c.write_entries.ensures
