-- `foliation::hypercubic::path_at` meets its contract. Assumes nothing.
use Prim.Native.Nat.{◌/◌, ◌%◌}
use mathlib.Core.Path.{sym, ◌∙◌}
use native.Mathlib.Nat.{mod-lt}
use native.Mathlib.Omega.{arith}
use Rattle.foliation.specs.Lattice.{coords_of}
use Rattle.foliation.specs.Parts.{path_at}
use Rattle.foliation.proofs.Coordinates.{coords-near, near-more, step-near}
use Rattle.foliation.proofs.Orders.{order-at, path-steps}
use Rattle.foliation.proofs.hypercubic.path_at.Goals as goal

pub step-b-requires : goal.step-b-requires
step-b-requires c =
    let a = c.args in
    rw c.vertex_coords_4d-a.ensures (near-more 341 1000 _ (omega arith) (coords-near a.lawful.lattice (a.k / 24) 341 (omega (arith, c.requires))))

pub step-c-requires : goal.step-c-requires
step-c-requires c =
    let a = c.args in
    rw (c.step-b.ensures, c.vertex_coords_4d-a.ensures) (near-more 342 1000 _ (omega arith) (step-near 341 _ _ (coords-near a.lawful.lattice (a.k / 24) 341 (omega (arith, c.requires)))))

pub step-d-requires : goal.step-d-requires
step-d-requires c =
    let a = c.args in
    rw (c.step-c.ensures, c.step-b.ensures, c.vertex_coords_4d-a.ensures) (near-more 343 1000 _ (omega arith) (step-near 342 _ _ (step-near 341 _ _ (coords-near a.lawful.lattice (a.k / 24) 341 (omega (arith, c.requires))))))

pub step-e-requires : goal.step-e-requires
step-e-requires c =
    let a = c.args in
    rw (c.step-d.ensures, c.step-c.ensures, c.step-b.ensures, c.vertex_coords_4d-a.ensures) (near-more 344 1000 _ (omega arith) (step-near 343 _ _ (step-near 342 _ _ (step-near 341 _ _ (coords-near a.lawful.lattice (a.k / 24) 341 (omega (arith, c.requires)))))))

pub returns : goal.returns
unfolding path_at
returns c =
    let a = c.args in
    c.sorted.ensures
    ∙ rw (
      c.vidx-5.ensures,
      c.vidx-4.ensures,
      c.vidx-3.ensures,
      c.vidx-2.ensures,
      c.vidx.ensures,
      c.step-e.ensures,
      c.step-d.ensures,
      c.step-c.ensures,
      c.step-b.ensures,
      c.axis_at-4.ensures,
      c.axis_at-3.ensures,
      c.axis_at-2.ensures,
      c.axis_at.ensures,
      c.vertex_coords_4d-a.ensures,
    )
    (sym (path-steps a.lawful.lattice (coords_of a.lawful.lattice (a.k / 24)) (order-at (a.k % 24) (mod-lt a.k (omega arith)))))
