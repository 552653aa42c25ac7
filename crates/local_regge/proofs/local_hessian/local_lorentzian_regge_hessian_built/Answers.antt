-- `local_regge::local_hessian::local_lorentzian_regge_hessian_built` meets its contract. Assumes nothing.
use Prim.Native.Nat.{◌*◌, ◌≤◌}
use mathlib.Core.Path.{sym, ◌∙◌}
use native.Mathlib.Nat.{mul-le-mul}
use native.Mathlib.Omega.{arith}
use lib.ListN.{length}
use borrow.Author.Tests.{ltb-false}
use Rattle.lists.proofs.Few.{few-free}
use Rattle.calls.proofs.BuiltCalls.{returned, few-edges, room-passed, filled-refused}
use Rattle.local_regge.proofs.LocalSteps.{Passed, local-passed, first-refused, second-refused, others-left}
use Rattle.local_regge.proofs.local_hessian.local_lorentzian_regge_hessian_built.Goals as goal
use Rattle.local_regge.proofs.local_hessian.local_lorentzian_regge_hessian_built.Goals.{In_ok-check_free}

-- what the complex has where the checks of lengths and free edges let the call pass
passed : (c : In_ok-check_free) → Passed c.args.built.now c.args.free_edges.now (length c.args.sq_lengths.now)
passed c = local-passed c.args.built.now c.args.free_edges.now (length c.args.sq_lengths.now) c.in_ok-check_lengths.ensures c.in_ok-check_free.ensures

-- no more free edges than numbers for them
few : (c : In_ok-check_free) → length c.args.free_edges.now ≤ 81920
few c = let p = passed c in omega (arith, few-free c.args.built.now.complex.counts.edges c.args.free_edges.now p.once p.below, p.few_edges)

pub check_free-requires : goal.check_free-requires
check_free-requires c = few-edges c.args.built.now

pub returns-in_err-check_lengths : goal.returns-in_err-check_lengths
returns-in_err-check_lengths c = filled-refused (first-refused _ _ _ _ c.in_err-check_lengths.ensures) (returned _ _ c.from_residual.ensures.1)

pub returns-in_err-check_free : goal.returns-in_err-check_free
returns-in_err-check_free c =
    filled-refused (second-refused _ _ _ _ c.in_ok-check_lengths.ensures c.in_err-check_free.ensures) (returned _ _ c.from_residual-in_err-check_free.ensures.1)

pub overflow_mul-n : goal.overflow_mul-n
overflow_mul-n c =
    let n = few (goal.at.overflow_mul-n c).In_ok-check_free in
    let q : length c.args.free_edges.now * length c.args.free_edges.now ≤ 6710886400 = mul-le-mul n n in
    omega (arith, q)

pub returns-in_err-check_room : goal.returns-in_err-check_room
returns-in_err-check_room c =
    filled-refused (others-left _ _ _ _ c.in_ok-check_lengths.ensures c.in_ok-check_free.ensures ∙ sym c.in_err-check_room.ensures) (returned _ _ c.from_residual-in_err-check_room.ensures.1)

pub write_hessian-requires : goal.write_hessian-requires
write_hessian-requires c =
    let d = (goal.at.write_hessian-requires c).In_ok-check_free in
    let p = passed d in
    (p.measured, p.on_triangles, p.on_pents, p.below, p.once, p.few_edges, few d, ltb-false _ _ (room-passed _ (sym c.in_ok-check_room.ensures)))

pub returns : goal.returns
returns c = record {
  answered = c.in_ok-check_room.ensures ∙ sym (others-left _ _ _ _ c.in_ok-check_lengths.ensures c.in_ok-check_free.ensures);
  entries = c.write_hessian.ensures;
}
