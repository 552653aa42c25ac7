-- `lorentzian_regge::deficits::lorentzian_deficit_angle_built` meets its contract. Assumes nothing.
use Rattle.refusals.specs.Refusals.{Done, answer_by}
use Rattle.std.specs.Prelude.{Ok}
use mathlib.Core.Path.{sym, ap, ◌∙◌}
use native.Mathlib.Omega.{arith}
use lib.ListN.{length}
use Rattle.hinges.specs.Hinges.{hinges, hinge_in, faces_of}
use Rattle.calls.proofs.BuiltCalls.{measured, returned, lengths-passed, lengths-refused, lengths-decided, triangle-passed}
use Rattle.lorentzian_regge.proofs.deficits.lorentzian_deficit_angle_built.Goals as goal

pub returns-in_err-check_lengths : goal.returns-in_err-check_lengths
returns-in_err-check_lengths c =
    let a = c.args in
    returned _ _ c.from_residual.ensures.1
    ∙ ap (λ o. answer_by o (hinge_in (hinges (faces_of a.built.now.complex) a.sq_lengths.now) a.tri.0)) (sym (lengths-refused _ _ _ (sym c.in_err-check_lengths.ensures)))

pub returns-in_err-check_triangle : goal.returns-in_err-check_triangle
returns-in_err-check_triangle c =
    let a = c.args in
    returned _ _ c.from_residual-in_err-check_triangle.ensures.1
    ∙ ap (λ o. answer_by o (hinge_in (hinges (faces_of a.built.now.complex) a.sq_lengths.now) a.tri.0)) (c.in_err-check_triangle.ensures ∙ sym (lengths-decided _ _ _ (sym c.in_ok-check_lengths.ensures)))

pub hinge_at-requires : goal.hinge_at-requires
hinge_at-requires c =
    let a = c.args in
    (measured a.built.now (length a.sq_lengths.now) (lengths-passed _ _ Done (sym c.in_ok-check_lengths.ensures)).0, omega (arith, triangle-passed a.built.now.complex.counts a.tri.0 (sym c.in_ok-check_triangle.ensures)))

pub returns : goal.returns
returns c =
    let a = c.args in
    ap Ok c.hinge_at.ensures
    ∙ ap (λ o. answer_by o (hinge_in (hinges (faces_of a.built.now.complex) a.sq_lengths.now) a.tri.0)) (c.in_ok-check_triangle.ensures ∙ sym (lengths-decided _ _ _ (sym c.in_ok-check_lengths.ensures)))
