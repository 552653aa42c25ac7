-- `report::evaluate` meets its contract. Assumes nothing.
use Rattle.std.specs.Prelude.{Err}
use mathlib.Core.Path.{sym, subst, ◌∙◌}
use native.Mathlib.Omega.{arith}
use lib.ListN.{length, replicate, take}
use Rattle.floats.specs.Ops.{zero}
use Rattle.length_signs.specs.declared.LengthSigns.{LengthSigns}
use Rattle.complex.specs.declared.Counts.{Counts}
use Rattle.complex.specs.Builder.{Lists}
use Rattle.hinges.specs.Hinges.{faces_in}
use Rattle.packed_input.proofs.DecodedComplex.{decoded-few, decoded-built, length_decoded}
use Rattle.report.specs.Report.{Evaluable, Evaluates, Reports}
use Rattle.report.proofs.Reporting.{refused_reports, decodes-to, done_reports}
use Rattle.report.proofs.evaluate.Goals as goal

pub shared_ref_as_front-evaluate_built : goal.shared_ref_as_front-evaluate_built
shared_ref_as_front-evaluate_built c = omega (arith, decoded-few c.args.input.now _ (sym c.in-Ok.is ∙ c.decode-decoded.ensures.answered))

pub evaluate_built-report-requires : goal.evaluate_built-report-requires
evaluate_built-report-requires c =
    let f = c.decode-decoded in
    let k = c.complex-complex.ensures in
    let d = decodes-to c.args.input.now _ _ _ _ c.in-Ok.is f.ensures in
    let few = decoded-few c.args.input.now _ d.answered in
    subst (λ (p : Counts × Lists). Evaluable p.0 p.1 (length (take c.in-Ok.counts.edges f.result.sq_lengths)) 640 640 640) (λ i. (sym k.counts i, sym k.lists i))
    (record { built = decoded-built _ _ _ _ d; counted = length_decoded _ _ _ _ d; deficits_room = few.1; kinds_room = few.1; grad_room = few.0 })

pub returns-in-Err : goal.returns-in-Err
returns-in-Err c =
    let e = c.default.ensures in
    rw c.in-Err.is
    (subst
    (λ (s : LengthSigns). Reports c.args.input.now (Err c.in-Err.field-0) s (replicate 640 zero) (replicate 640 0) (replicate 640 zero))
    (λ i. record { timelike = sym e.0 i; null = sym e.1.0 i; spacelike = sym e.1.1 i })
    (refused_reports c.args.input.now _ (sym c.in-Err.is ∙ c.decode-decoded.ensures.answered)))

pub returns-in-Ok : goal.returns-in-Ok
returns-in-Ok c =
    let f = c.decode-decoded in
    let k = c.complex-complex.ensures in
    let v = c.evaluate_built-report in
    let d = decodes-to c.args.input.now _ _ _ _ c.in-Ok.is f.ensures in
    rw c.in-Ok.is
    (done_reports _ _ _ _ d _ _ _ _
    (subst
    (λ (p : Counts × Lists). Evaluates (faces_in p.0 p.1.pents p.1.edges p.1.triangles) (take c.in-Ok.counts.edges f.result.sq_lengths) (replicate 640 zero) (replicate 640 0) (replicate 640 zero) v.result v.new.deficits v.new.kinds v.new.grad)
    (λ i. (k.counts i, k.lists i))
    v.ensures))
