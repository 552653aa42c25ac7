-- `report::evaluate_built` meets its contract. Assumes nothing.
use Rattle.refusals.specs.Refusals.{Outcome}
use mathlib.Core.Path.{ap, ◌∙◌}
use Rattle.complex.specs.Check.{written_after}
use Rattle.hinges.specs.Hinges.{hinges, deficits_of, kinds_of, faces_of}
use Rattle.hinges.specs.Action.{gradient}
use Rattle.report.proofs.Passing.{table-passes, gradient-passes}
use Rattle.report.proofs.evaluate_built.Goals as goal

pub returns : goal.returns
returns c =
    let a = c.args in
    let ok = c.requires in
    let t = c.lorentzian_deficit_angles-deficits.ensures in
    let g = c.lorentzian_regge_action_grad-gradient.ensures in
    let F = faces_of a.complex.now in
    let ls = a.sq_lengths.now in
    let tabled = t.answered ∙ table-passes a.complex.now.counts _ _ _ _ _ ok in
    let graded = g.answered ∙ gradient-passes a.complex.now.counts _ _ _ _ _ ok in
    record {
      signs = c.length_signs.ensures;
      deficits = t.deficits ∙ ap (λ (o : Outcome). written_after o (deficits_of (hinges F ls)) a.deficits.now) tabled;
      kinds = t.kinds ∙ ap (λ (o : Outcome). written_after o (kinds_of (hinges F ls)) a.kinds.now) tabled;
      gradient = g.entries ∙ ap (λ (o : Outcome). written_after o (gradient F ls) a.grad.now) graded;
    }
