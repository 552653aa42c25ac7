-- `local_regge::local_deficits::tabulate_in` meets its contract. Assumes nothing.
use Rattle.std.proofs.Common.{get_or-take}
use Prim.Native.Nat.{◌≤◌, ◌<◌}
use mathlib.Core.Bool.{◌||◌}
use mathlib.Core.List.{map}
use mathlib.Core.Path.{◌≡◌, sym, ap, ◌∙◌, subst}
use native.Mathlib.Omega.{arith}
use lib.Dec.{ltb}
use lib.ListN.{length, take}
use lib.Seq.{length-take-le}
use borrow.Author.Tests.{ltb-false}
use Rattle.lists.specs.Rows.{over}
use Rattle.lists.proofs.Rows.{over-take}
use Rattle.complex.proofs.Offences.{or-false}
use Rattle.marks.specs.Marks.{marked_below}
use Rattle.marks.proofs.Marking.{marked-front, listed_below}
use Rattle.hinges.specs.Hinges.{hinges, hinge_in, deficits_of, kinds_of, faces_of}
use Rattle.hinges.specs.Local.{local_triangles}
use Rattle.calls.specs.Calls.{room_check_of}
use Rattle.calls.proofs.BuiltCalls.{returned, room-passed}
use Rattle.local_regge.specs.LocalCalls.{short_local}
use Rattle.local_regge.proofs.LocalSteps.{on-triangles, marks_local, table-refused, table_done}
use Rattle.local_regge.proofs.local_deficits.tabulate_in.Given.{Over}
use Rattle.local_regge.proofs.local_deficits.tabulate_in.Goals as goal
use Rattle.local_regge.proofs.local_deficits.tabulate_in.Goals.{After-check_room, In_ok-check_room}

-- there is a mark for each triangle
enough : (g : Over) (c : After-check_room g) → c.args.built.now.complex.counts.triangles ≤ length c.mark_tris.new.marks
enough g c = omega (arith, c.requires.2, c.mark_tris.auto.marks)

-- the numbers below that of the triangles that are marked, read from their marks alone
front-marked : (g : Over) (c : After-check_room g) → let n = c.args.built.now.complex.counts.triangles in let marks = c.mark_tris.new.marks in marked_below (length (take n marks)) (take n marks) ≡ marked_below n marks
front-marked g c = marked-front c.mark_tris.new.marks c.args.built.now.complex.counts.triangles (enough g c)

-- the marked triangles are those on free edges
own-marked : (g : Over) (c : After-check_room g) → let n = c.args.built.now.complex.counts.triangles in let marks = c.mark_tris.new.marks in marked_below (length (take n marks)) (take n marks) ≡ local_triangles (faces_of c.args.built.now.complex) c.args.free_edges.now
own-marked g c = front-marked g c ∙ marks_local c.args.built.now.complex c.args.free_edges.now _ c.requires.2 c.mark_tris.new.marks c.mark_tris.ensures

-- the check of room says whether they have room
room-says : (g : Over) (c : After-check_room g) → c.check_room.result ≡ room_check_of (short_local (faces_of c.args.built.now.complex) c.args.free_edges.now (length c.args.tris.now) (length c.args.deficits.now) (length c.args.kinds.now))
room-says g c =
    let a = c.args in
    c.check_room.ensures
    ∙ ap room_check_of (c.lacks_room.ensures ∙ ap (λ k. ltb (length a.tris.now) k || ltb (length a.deficits.now) k || ltb (length a.kinds.now) k) (c.count_marked-count.ensures ∙ ap length (own-marked g c)))

-- where it lets the call pass, no list is short
room-left : (g : Over) (c : In_ok-check_room g) → let a = c.args in let n = c.count_marked-count.result in (n ≤ length a.tris.now) × (n ≤ length a.deficits.now) × (n ≤ length a.kinds.now)
room-left g c =
    let a = c.args in
    let n = c.count_marked-count.result in
    let s = or-false (ltb (length a.tris.now) n || ltb (length a.deficits.now) n) (ltb (length a.kinds.now) n) (sym c.lacks_room.ensures ∙ room-passed _ (sym c.in_ok-check_room.ensures)) in
    let q = or-false (ltb (length a.tris.now) n) (ltb (length a.deficits.now) n) s.0 in
    (ltb-false _ _ q.0, ltb-false _ _ q.1, ltb-false _ _ s.1)

pub mark_tris-requires : goal.mark_tris-requires
mark_tris-requires g c = let r = c.requires in (on-triangles c.args.built.now, r.1, omega (arith, r.2))

pub returns-in_err-check_room : goal.returns-in_err-check_room
returns-in_err-check_room g c =
    let d = (goal.at.returns-in_err-check_room g c).After-check_room in
    table-refused (sym (room-says g d) ∙ c.in_err-check_room.was) (returned _ _ c.from_residual.ensures.1)

pub list_marked-requires : goal.list_marked-requires
list_marked-requires g c =
    let at = goal.at.list_marked-requires g c in
    (omega (arith, c.requires.2, c.requires.3, length-take-le c.args.built.now.complex.counts.triangles c.mark_tris.new.marks (enough g at.After-check_room)), omega (arith, (room-left g at.In_ok-check_room).0, c.count_marked-count.ensures))

pub slice_bounds-write_hinges-end : goal.slice_bounds-write_hinges-end
slice_bounds-write_hinges-end g c = omega (arith, (room-left g (goal.at.slice_bounds-write_hinges-end g c).In_ok-check_room).0, c.list_marked.auto.list)

pub slice_bounds-write_hinges-end-2 : goal.slice_bounds-write_hinges-end-2
slice_bounds-write_hinges-end-2 g c =
    sym (length-take-le c.count_marked-count.result c.list_marked.new.list (omega (arith, (room-left g (goal.at.slice_bounds-write_hinges-end-2 g c).In_ok-check_room).0, c.list_marked.auto.list)))

pub write_hinges-requires : goal.write_hinges-requires
write_hinges-requires g c =
    let a = c.args in
    let r = room-left g (goal.at.write_hinges-requires g c).In_ok-check_room in
    let d = (goal.at.write_hinges-requires g c).After-check_room in
    let n = c.count_marked-count.result in
    let list = c.list_marked.new.list in
    let l : length (take n list) ≡ n = length-take-le n list (omega (arith, r.0, c.list_marked.auto.list)) in (
      c.requires.0,
      (λ k h.
          let i : k < n = omega (arith, h, l) in
          subst (λ t. t < a.built.now.complex.counts.triangles) (sym (get_or-take n list k 0 i)) (listed_below a.built.now.complex.counts.triangles c.mark_tris.new.marks a.tris.now list (c.list_marked.ensures ∙ ap (λ xs. over xs a.tris.now) (front-marked g d)) k (omega (arith, i, c.count_marked-count.ensures, ap length (front-marked g d))))),
      omega (arith, l, r.1),
      omega (arith, l, r.2),
    )

pub returns : goal.returns
returns g c =
    let a = c.args in
    let d = (goal.at.returns g c).After-check_room in
    let F = faces_of a.built.now.complex in
    let m = own-marked g d in
    let n = c.count_marked-count.ensures ∙ ap length m in
    let t = c.list_marked.ensures ∙ ap (λ xs. over xs a.tris.now) m in
    let own = ap (take c.count_marked-count.result) t ∙ over-take (local_triangles F a.free_edges.now) a.tris.now c.count_marked-count.result (sym n) in
    table_done
    (sym (room-says g d) ∙ c.in_ok-check_room.was)
    n t
    (c.write_hinges.ensures.0 ∙ ap (λ xs. over (deficits_of (map (hinge_in (hinges F a.sq_lengths.now)) xs)) a.deficits.now) own)
    (c.write_hinges.ensures.1 ∙ ap (λ xs. over (kinds_of (map (hinge_in (hinges F a.sq_lengths.now)) xs)) a.kinds.now) own)
