-- `retouch::records::write_records` meets its contract. Assumes nothing.
use mathlib.Core.Path.{refl, sym, ap, ◌∙◌}
use native.Mathlib.Omega.{arith}
use lib.ListN.{length, get_or, set, length-set}
use lib.Seq.{take_all}
use Rattle.lists.specs.Writes.{writes}
use Rattle.lists.proofs.Writes.{writes-next}
use Rattle.lorentzian.specs.Dihedral.{kind_number}
use Rattle.hinges.specs.declared.hinge.Hinge.{Hinge}
use Rattle.hinges.specs.Hinges.{hinges, hinge_in, faces_of}
use Rattle.calls.proofs.BuiltCalls.{measured}
use Rattle.retouch.proofs.records.write_records.Goals as goal

pub loop-tri-init : goal.loop-tri-init
unfolding writes
loop-tri-init c = (refl, refl, refl, refl)

pub hinge_at-hinge-requires : goal.hinge_at-hinge-requires
hinge_at-hinge-requires c = (measured c.args.built.now (length c.args.sq_lengths.now) c.requires.0, omega (arith, c.requires.1 c.loop-tri.tri-index c.loop-tri-test.true))

pub bounds-deficits-tri : goal.bounds-deficits-tri
bounds-deficits-tri c = omega (arith, c.requires.1 c.loop-tri.tri-index c.loop-tri-test.true, c.requires.2, c.loop-tri.invariant.0)

pub bounds-kinds-tri : goal.bounds-kinds-tri
bounds-kinds-tri c = omega (arith, c.requires.1 c.loop-tri.tri-index c.loop-tri-test.true, c.requires.3, c.loop-tri.invariant.1)

pub loop-tri-preserved : goal.loop-tri-preserved
loop-tri-preserved c =
    let a = c.args in
    let l = c.loop-tri in
    let h = c.hinge_at-hinge.ensures in
    let t = get_or a.tris.now l.tri-index 0 in
    let T = hinges (faces_of a.built.now.complex) a.sq_lengths.now in (
      length-set l.deficits _ _ ∙ l.invariant.0,
      length-set l.kinds _ _ ∙ l.invariant.1,
      ap (λ (u : Hinge). set l.deficits t u.deficit) h
          ∙ ap (λ xs. set xs t (hinge_in T t).deficit) l.invariant.2
          ∙ sym (writes-next (λ t. (hinge_in T t).deficit) a.tris.now a.deficits.now l.tri-index c.loop-tri-test.true),
      ap (set l.kinds t) (c.byte_of.ensures ∙ ap (λ (u : Hinge). kind_number u.kind) h)
          ∙ ap (λ xs. set xs t (kind_number (hinge_in T t).kind)) l.invariant.3
          ∙ sym (writes-next (λ t. kind_number (hinge_in T t).kind) a.tris.now a.kinds.now l.tri-index c.loop-tri-test.true),
    )

pub returns : goal.returns
returns c =
    let a = c.args in
    let l = c.loop-tri in
    let T = hinges (faces_of a.built.now.complex) a.sq_lengths.now in
    let e = take_all l.tri-index a.tris.now (omega (arith, c.loop-tri-test.false)) in (
      l.invariant.2 ∙ ap (λ ts. writes (λ t. (hinge_in T t).deficit) ts a.deficits.now) e,
      l.invariant.3 ∙ ap (λ ts. writes (λ t. kind_number (hinge_in T t).kind) ts a.kinds.now) e,
    )
