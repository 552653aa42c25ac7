-- `local_regge::local_deficits::local_deficit_angles_built` meets its contract. Assumes nothing.
use mathlib.Core.Path.{sym}
use lib.ListN.{length}
use Rattle.calls.proofs.BuiltCalls.{returned, few-edges}
use Rattle.local_regge.proofs.LocalSteps.{Passed, local-passed, first-refused, second-refused, others-left, table-refused, table_same}
use Rattle.local_regge.proofs.local_deficits.local_deficit_angles_built.Goals as goal
use Rattle.local_regge.proofs.local_deficits.local_deficit_angles_built.Goals.{In_ok-check_free}

-- what the complex has where the checks of lengths and free edges let the call pass
passed : (c : In_ok-check_free) → Passed c.args.built.now c.args.free_edges.now (length c.args.sq_lengths.now)
passed c = local-passed c.args.built.now c.args.free_edges.now (length c.args.sq_lengths.now) c.in_ok-check_lengths.ensures c.in_ok-check_free.ensures

pub check_free-requires : goal.check_free-requires
check_free-requires c = few-edges c.args.built.now

pub returns-in_err-check_lengths : goal.returns-in_err-check_lengths
returns-in_err-check_lengths c = table-refused (first-refused _ _ _ _ c.in_err-check_lengths.ensures) (returned _ _ c.from_residual.ensures.1)

pub returns-in_err-check_free : goal.returns-in_err-check_free
returns-in_err-check_free c =
    table-refused (second-refused _ _ _ _ c.in_ok-check_lengths.ensures c.in_err-check_free.ensures) (returned _ _ c.from_residual-in_err-check_free.ensures.1)

pub tabulate-requires : goal.tabulate-requires
tabulate-requires c = let p = passed (goal.at.tabulate-requires c).In_ok-check_free in (p.lengths, p.below)

pub returns : goal.returns
returns c = table_same (sym (others-left _ _ _ _ c.in_ok-check_lengths.ensures c.in_ok-check_free.ensures)) c.tabulate.ensures
