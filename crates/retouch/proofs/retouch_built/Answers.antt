-- `retouch::retouch_built` meets its contract. Assumes nothing.
use mathlib.Core.Path.{sym, ◌∙◌}
use lib.ListN.{length}
use Rattle.calls.proofs.BuiltCalls.{returned, lengths-refused}
use Rattle.retouch.proofs.TouchedSteps.{edge-second, others-third, table-room, Passed, retouch-passed, retouched-refused}
use Rattle.retouch.proofs.retouch_built.Goals as goal
use Rattle.retouch.proofs.retouch_built.Goals.{In_ok-check_edge}

-- what the complex has where the checks of lengths and edge let the call pass
passed : (c : In_ok-check_edge) → Passed c.args.built.now (length c.args.sq_lengths.now) c.args.edge.0
passed c = retouch-passed c.args.built.now _ _ (sym c.in_ok-check_lengths.ensures) (sym c.in_ok-check_edge.ensures)

pub returns-in_err-check_lengths : goal.returns-in_err-check_lengths
returns-in_err-check_lengths c = retouched-refused (lengths-refused _ _ _ (sym c.in_err-check_lengths.ensures)) (returned _ _ c.from_residual.ensures.1)

pub returns-in_err-check_edge : goal.returns-in_err-check_edge
returns-in_err-check_edge c =
    retouched-refused (edge-second _ _ _ _ (sym c.in_ok-check_lengths.ensures) (sym c.in_err-check_edge.ensures)) (returned _ _ c.from_residual-in_err-check_edge.ensures.1)

pub returns-in_err-check_table : goal.returns-in_err-check_table
returns-in_err-check_table c =
    retouched-refused (others-third _ _ _ _ (sym c.in_ok-check_lengths.ensures) (sym c.in_ok-check_edge.ensures) ∙ sym c.in_err-check_table.ensures) (returned _ _ c.from_residual-in_err-check_table.ensures.1)

pub rework-requires : goal.rework-requires
rework-requires c =
    let p = passed (goal.at.rework-requires c).In_ok-check_edge in
    let t = table-room c.args.built.now.complex.counts (length c.args.deficits.now) (length c.args.kinds.now) (sym c.in_ok-check_table.ensures) in
    (p.counted, p.inside, t.0, t.1)

pub returns : goal.returns
returns c =
    let r = c.rework.ensures in
    record {
      answered = c.in_ok-check_table.ensures ∙ sym (others-third _ _ _ _ (sym c.in_ok-check_lengths.ensures) (sym c.in_ok-check_edge.ensures));
      lengths = r.0;
      deficits = r.1;
      kinds = r.2;
    }
