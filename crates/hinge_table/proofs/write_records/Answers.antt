-- `hinge_table::write_records` meets its contract. Assumes nothing.
use mathlib.Core.Path.{refl, sym, ap, ◌∙◌}
use native.Mathlib.Omega.{arith}
use lib.ListN.{length, get_or, set, length-set}
use lib.Seq.{take_all}
use Rattle.lists.specs.Writes.{writes}
use Rattle.lists.proofs.Writes.{writes-next}
use Rattle.hinges.specs.Hinges.{hinges, hinge_in, faces_of}
use Rattle.calls.proofs.BuiltCalls.{measured}
use Rattle.hinge_table.proofs.write_records.Goals as goal

pub loop-tri-init : goal.loop-tri-init
unfolding writes
loop-tri-init c = (refl, refl)

pub hinge_at-requires : goal.hinge_at-requires
hinge_at-requires c = (measured c.args.built.now (length c.args.sq_lengths.now) c.requires.0, omega (arith, c.requires.1 c.loop-tri.tri-index c.loop-tri-test.true))

pub bounds-table-tri : goal.bounds-table-tri
bounds-table-tri c = omega (arith, c.requires.1 c.loop-tri.tri-index c.loop-tri-test.true, c.requires.2, c.loop-tri.invariant.0)

pub loop-tri-preserved : goal.loop-tri-preserved
loop-tri-preserved c =
    let a = c.args in
    let l = c.loop-tri in
    let T = hinges (faces_of a.built.now.complex) a.sq_lengths.now in
    let t = get_or a.tris.now l.tri-index 0 in (
      length-set l.table _ _ ∙ l.invariant.0,
      ap (set l.table t) c.hinge_at.ensures
          ∙ ap (λ xs. set xs t (hinge_in T t)) l.invariant.1
          ∙ sym (writes-next (hinge_in T) a.tris.now a.table.now l.tri-index c.loop-tri-test.true),
    )

pub returns : goal.returns
returns c =
    let a = c.args in
    let l = c.loop-tri in
    l.invariant.1 ∙ ap (λ ts. writes (hinge_in (hinges (faces_of a.built.now.complex) a.sq_lengths.now)) ts a.table.now) (take_all l.tri-index a.tris.now (omega (arith, c.loop-tri-test.false)))
