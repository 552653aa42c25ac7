-- `hinge_table::retouch_of` meets its contract. Assumes nothing.
use Prim.Native.Nat.{ℕ}
use mathlib.Core.Path.{refl, sym, ◌∙◌}
use native.Mathlib.Omega.{arith}
use lib.ListN.{length, length-set}
use Rattle.std.proofs.lemmas.List.{length-take-le}
use Rattle.marks.proofs.Marking.{scratch-room}
use Rattle.hinges.specs.Hinges.{faces_of}
use Rattle.calls.proofs.BuiltCalls.{returned, lengths-refused}
use Rattle.retouch.proofs.TouchedSteps.{edge-second, others-third, Passed, retouch-passed, Listed, listed-touched}
use Rattle.hinge_table.proofs.TableSteps.{records-room, retouched-refused, retouched-same, table-retouched}
use Rattle.hinge_table.proofs.retouch_of.Goals as goal
use Rattle.hinge_table.proofs.retouch_of.Goals.{In_ok-check_edge, After-list_touched-count}

-- what the complex has where the checks of lengths and edge let the call pass
passed : (c : In_ok-check_edge) → Passed c.args.built.now (length c.args.sq_lengths.now) c.args.edge.0
passed c = retouch-passed c.args.built.now _ _ (sym c.in_ok-check_lengths.ensures) (sym c.in_ok-check_edge.ensures)

-- the triangles that were listed
listed : (c : After-list_touched-count) → Passed c.args.built.now (length c.args.sq_lengths.now) c.args.edge.0 → Listed c.args.built.now.complex c.args.edge.0 c.list_touched-count.result c.list_touched-count.new.tris
listed c p =
    let f = c.list_touched-count in
    listed-touched c.args.built.now.complex c.args.edge.0 f.result _ f.new.tris (scratch-room {A = ℕ} 81920 refl 0 _ refl c.args.built.now.complex.counts.triangles p.measured.few) f.auto.tris f.ensures.0 f.ensures.1

pub returns-in_err-check_lengths : goal.returns-in_err-check_lengths
returns-in_err-check_lengths c = retouched-refused (lengths-refused _ _ _ (sym c.in_err-check_lengths.ensures)) (returned _ _ c.from_residual.ensures.1)

pub returns-in_err-check_edge : goal.returns-in_err-check_edge
returns-in_err-check_edge c =
    retouched-refused (edge-second _ _ _ _ (sym c.in_ok-check_lengths.ensures) (sym c.in_err-check_edge.ensures)) (returned _ _ c.from_residual-in_err-check_edge.ensures.1)

pub returns-in_err-check_room : goal.returns-in_err-check_room
returns-in_err-check_room c =
    retouched-refused (others-third _ _ _ _ (sym c.in_ok-check_lengths.ensures) (sym c.in_ok-check_edge.ensures) ∙ sym c.in_err-check_room.ensures) (returned _ _ c.from_residual-in_err-check_room.ensures.1)

pub list_touched-count-requires : goal.list_touched-count-requires
list_touched-count-requires c =
    let p = passed (goal.at.list_touched-count-requires c).In_ok-check_edge in
    let m = p.measured in
    (p.on_pents, m.passable.tri_numbers, m.passable.triangles_found, p.inside, m.few, scratch-room {A = ℕ} 81920 refl 0 _ refl c.args.built.now.complex.counts.triangles m.few)

pub bounds-sq_lengths-edge : goal.bounds-sq_lengths-edge
bounds-sq_lengths-edge c = let p = passed (goal.at.bounds-sq_lengths-edge c).In_ok-check_edge in omega (arith, p.counted, p.inside)

pub slice_bounds-tris-end : goal.slice_bounds-tris-end
slice_bounds-tris-end c = let at = goal.at.slice_bounds-tris-end c in omega (arith, (listed at.After-list_touched-count (passed at.In_ok-check_edge)).room)

pub slice_bounds-write_records-end : goal.slice_bounds-write_records-end
slice_bounds-write_records-end c = let at = goal.at.slice_bounds-write_records-end c in sym (length-take-le _ _ (omega (arith, (listed at.After-list_touched-count (passed at.In_ok-check_edge)).room)))

pub write_records-requires : goal.write_records-requires
write_records-requires c =
    let at = goal.at.write_records-requires c in
    let p = passed at.In_ok-check_edge in
    (length-set c.args.sq_lengths.now _ _ ∙ p.counted, (listed at.After-list_touched-count p).below _ (omega arith), records-room c.args.built.now.complex.counts (length c.args.table.now) (sym c.in_ok-check_room.ensures))

pub returns : goal.returns
returns c =
    let a = c.args in
    let at = goal.at.returns c in
    let F = faces_of a.built.now.complex in
    let own = (listed at.After-list_touched-count (passed at.In_ok-check_edge)).own in
    let done = sym c.in_ok-check_room.ensures in
    retouched-same (sym (others-third _ _ _ _ (sym c.in_ok-check_lengths.ensures) (sym c.in_ok-check_edge.ensures)))
    (table-retouched F a.sq_lengths.now a.edge.0 a.sq_length a.table.now _ _ _ _ (sym done) (rw done refl) (own ∙ (rw done refl)) c.write_records.ensures)
