-- `retouch::rework_in` meets its contract. Assumes nothing.
use mathlib.Core.Path.{refl, ap, ◌∙◌}
use native.Mathlib.Omega.{arith}
use lib.ListN.{length, length-set}
use Rattle.lists.specs.Writes.{writes}
use Rattle.lorentzian.specs.Dihedral.{kind_number}
use Rattle.hinges.specs.Hinges.{faces_of}
use Rattle.calls.proofs.BuiltCalls.{measured}
use Rattle.retouch.specs.Retouch.{anew}
use Rattle.retouch.proofs.TouchedSteps.{touched-most, Listed, on-pents, listed-touched}
use Rattle.retouch.proofs.rework_in.Given.{Over}
use Rattle.retouch.proofs.rework_in.Goals as goal
use Rattle.retouch.proofs.rework_in.Goals.{After-list_touched-count}

-- the triangles that were listed
listed : (g : Over) (c : After-list_touched-count g) → Listed c.args.built.now.complex c.args.edge.0 c.list_touched-count.result c.list_touched-count.new.tris
listed g c =
    let f = c.list_touched-count in
    listed-touched c.args.built.now.complex c.args.edge.0 f.result _ f.new.tris (omega (arith, c.requires.2)) f.auto.tris f.ensures.0 f.ensures.1

pub list_touched-count-requires : goal.list_touched-count-requires
list_touched-count-requires g c =
    let r = c.requires in
    let m = measured c.args.built.now (length c.args.sq_lengths.now) r.0 in
    (on-pents c.args.built.now, m.passable.tri_numbers, m.passable.triangles_found, r.1, m.few, omega (arith, r.2))

pub bounds-sq_lengths-edge : goal.bounds-sq_lengths-edge
bounds-sq_lengths-edge g c = omega (arith, c.requires.0, c.requires.1)

pub slice_bounds-write_records-end : goal.slice_bounds-write_records-end
slice_bounds-write_records-end g c = omega (arith, (listed g (goal.at.slice_bounds-write_records-end g c).After-list_touched-count).room)

pub shared_whole_as_front-write_records : goal.shared_whole_as_front-write_records
shared_whole_as_front-write_records g c =
    let r = c.requires in
    (omega (arith, c.list_touched-count.ensures.0, touched-most c.args.built.now.complex c.args.edge.0, r.2), omega (arith, r.3))

pub write_records-requires : goal.write_records-requires
write_records-requires g c =
    let r = c.requires in
    (length-set c.args.sq_lengths.now _ _ ∙ r.0, (listed g (goal.at.write_records-requires g c).After-list_touched-count).below _ (omega arith), r.4, r.5)

pub returns : goal.returns
returns g c =
    let a = c.args in
    let F = faces_of a.built.now.complex in
    let own = (listed g (goal.at.returns g c).After-list_touched-count).own in (
      refl,
      c.write_records.ensures.0 ∙ ap (λ ts. writes (λ t. (anew F a.sq_lengths.now a.edge.0 a.sq_length t).deficit) ts a.deficits.now) own,
      c.write_records.ensures.1 ∙ ap (λ ts. writes (λ t. kind_number (anew F a.sq_lengths.now a.edge.0 a.sq_length t).kind) ts a.kinds.now) own,
    )
