-- `hinge_table::write_all` meets its contract. Assumes nothing.
use mathlib.Core.List.{[], ◌∷◌, ◌++◌}
use mathlib.Core.Path.{◌≡◌, refl, sym, ap, ◌∙◌}
use native.Mathlib.Numerals.{add-one}
use native.Mathlib.Omega.{arith}
use lib.ListN.{length, set, take, drop}
use Rattle.std.proofs.lemmas.List.{length-take-le}
use Rattle.lists.specs.Lists.{upto}
use Rattle.lists.specs.Writes.{writes}
use Rattle.lists.proofs.Rows.{length-rows}
use Rattle.lists.proofs.Writes.{writes-append}
use Rattle.hinges.specs.Hinges.{hinges, hinge_in, faces_of}
use Rattle.calls.proofs.BuiltCalls.{measured}
use Rattle.hinge_table.proofs.TableSteps.{front-written}
use Rattle.hinge_table.proofs.write_all.Goals as goal

pub loop-t-init : goal.loop-t-init
unfolding writes upto
loop-t-init c = refl

pub overflow_cast-tri : goal.overflow_cast-tri
overflow_cast-tri c =
    omega (arith, (measured c.args.built.now (length c.args.sq_lengths.now) c.requires.0).few, c.loop-t-test.true, c.loop-t.auto.t-end, length-take-le c.args.built.now.complex.counts.triangles c.args.table.now c.requires.1)

pub hinge_at-requires : goal.hinge_at-requires
hinge_at-requires c =
    (measured c.args.built.now (length c.args.sq_lengths.now) c.requires.0, omega (arith, c.loop-t-test.true, c.loop-t.auto.t-end, length-take-le c.args.built.now.complex.counts.triangles c.args.table.now c.requires.1))

pub loop-t-preserved : goal.loop-t-preserved
unfolding writes upto
loop-t-preserved c =
    let a = c.args in
    let l = c.loop-t in
    let n = a.built.now.complex.counts.triangles in
    let T = hinges (faces_of a.built.now.complex) a.sq_lengths.now in
    ap (set l.record-items l.t) c.hinge_at.ensures
    ∙ ap (λ xs. set xs l.t (hinge_in T l.t)) l.invariant
    ∙ sym (ap (λ k. writes (hinge_in T) (upto k) (take n a.table.now)) (add-one l.t) ∙ writes-append (hinge_in T) (upto l.t) (l.t ∷ []) (take n a.table.now))

pub returns : goal.returns
returns c =
    let a = c.args in
    let l = c.loop-t in
    let n = a.built.now.complex.counts.triangles in
    let T = hinges (faces_of a.built.now.complex) a.sq_lengths.now in
    let e : l.t ≡ n = omega (arith, c.loop-t-test.false, l.auto.t-end, length-take-le n a.table.now c.requires.1) in
    ap (λ xs. xs ++ drop n a.table.now) (l.invariant ∙ ap (λ k. writes (hinge_in T) (upto k) (take n a.table.now)) e)
    ∙ front-written (faces_of a.built.now.complex) a.sq_lengths.now n a.table.now (sym (length-rows 3 n a.built.now.complex.triangles.now)) c.requires.1
