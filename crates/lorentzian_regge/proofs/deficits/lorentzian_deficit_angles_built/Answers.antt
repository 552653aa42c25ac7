-- `lorentzian_regge::deficits::lorentzian_deficit_angles_built` meets its contract. Assumes nothing.
use Rattle.refusals.specs.Refusals.{Done}
use mathlib.Core.Path.{sym, ◌∙◌}
use lib.Dec.{ltb}
use lib.ListN.{length}
use borrow.Author.Tests.{ltb-false}
use Rattle.complex.proofs.Offences.{or-false}
use Rattle.calls.proofs.BuiltCalls.{measured, returned, lengths-passed, lengths-refused, lengths-decided, room-passed}
use Rattle.lorentzian_regge.proofs.Tables.{table-refused}
use Rattle.lorentzian_regge.proofs.deficits.lorentzian_deficit_angles_built.Goals as goal

pub returns-in_err-check_lengths : goal.returns-in_err-check_lengths
returns-in_err-check_lengths c = table-refused (lengths-refused _ _ _ (sym c.in_err-check_lengths.ensures)) (returned _ _ c.from_residual.ensures.1)

pub returns-in_err-check_table : goal.returns-in_err-check_table
returns-in_err-check_table c =
    table-refused (lengths-decided _ _ _ (sym c.in_ok-check_lengths.ensures) ∙ sym c.in_err-check_table.ensures) (returned _ _ c.from_residual-in_err-check_table.ensures.1)

pub write_table-requires : goal.write_table-requires
write_table-requires c =
    let a = c.args in
    let n = a.built.now.complex.counts.triangles in
    let s = or-false (ltb (length a.deficits.now) n) (ltb (length a.kinds.now) n) (room-passed _ (sym c.in_ok-check_table.ensures)) in
    ((measured a.built.now (length a.sq_lengths.now) (lengths-passed _ _ Done (sym c.in_ok-check_lengths.ensures)).0).passable, ltb-false _ _ s.0, ltb-false _ _ s.1)

pub returns : goal.returns
returns c = record {
  answered = c.in_ok-check_table.ensures ∙ sym (lengths-decided _ _ _ (sym c.in_ok-check_lengths.ensures));
  deficits = c.write_table.ensures.0;
  kinds = c.write_table.ensures.1;
}
