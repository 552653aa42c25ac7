-- `hinge_table::deficit_angles_of` meets its contract. Assumes nothing.
use Rattle.refusals.specs.Refusals.{Done}
use mathlib.Core.Path.{sym, ◌∙◌}
use lib.ListN.{length}
use Rattle.calls.proofs.BuiltCalls.{returned, lengths-refused, lengths-decided, lengths-passed}
use Rattle.hinge_table.proofs.TableSteps.{records-room, worked-refused}
use Rattle.hinge_table.proofs.deficit_angles_of.Goals as goal

pub returns-in_err-check_lengths : goal.returns-in_err-check_lengths
returns-in_err-check_lengths c = worked-refused (lengths-refused _ _ _ (sym c.in_err-check_lengths.ensures)) (returned _ _ c.from_residual.ensures.1)

pub returns-in_err-check_room : goal.returns-in_err-check_room
returns-in_err-check_room c =
    worked-refused (lengths-decided _ _ _ (sym c.in_ok-check_lengths.ensures) ∙ sym c.in_err-check_room.ensures) (returned _ _ c.from_residual-in_err-check_room.ensures.1)

pub write_all-requires : goal.write_all-requires
write_all-requires c =
    ((lengths-passed _ _ Done (sym c.in_ok-check_lengths.ensures)).0, records-room c.args.built.now.complex.counts (length c.args.table.now) (sym c.in_ok-check_room.ensures))

pub returns : goal.returns
returns c = record { answered = c.in_ok-check_room.ensures ∙ sym (lengths-decided _ _ _ (sym c.in_ok-check_lengths.ensures)); records = c.write_all.ensures }
