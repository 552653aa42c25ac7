-- `foliation::hypercubic::list` meets its contract. Assumes nothing.
use Prim.Native.Nat.{◌*◌}
use mathlib.Core.Path.{◌≡◌, refl}
use native.Mathlib.Omega.{arith}
use lib.ListN.{replicate}
use Rattle.lists.specs.Rows.{rows}
use Rattle.foliation.specs.Lattice.{paths}
use Rattle.foliation.proofs.Sizes.{sizes}
use Rattle.foliation.proofs.Listings.{paths-back, paths-room, ready-all, met-pents}
use Rattle.foliation.proofs.hypercubic.list.Goals as goal

pub write_paths-requires : goal.write_paths-requires
write_paths-requires c =
    let s = c.args.lawful in
    paths-room s.lattice (sizes s) (replicate 40920 0) (replicate 40920 0) 40920 refl refl refl

pub overflow_mul-paths : goal.overflow_mul-paths
overflow_mul-paths c = omega (arith, c.n_total.ensures, (sizes c.args.lawful).cells)

pub invariant_of-paths : goal.invariant_of-paths
invariant_of-paths c =
    let s = c.args.lawful in
    let w = c.write_paths in
    rw c.n_total.ensures (record { inside = omega (arith, paths-room s.lattice (sizes s) _ w.new.given 40920 refl refl w.auto.given) })

pub meet_rows-requires : goal.meet_rows-requires
meet_rows-requires c =
    let s = c.args.lawful in
    rw c.n_total.ensures (ready-all s.lattice (sizes s) _ _ _ _ 32768 8184 refl refl refl refl refl c.requires)

pub returns : goal.returns
returns c =
    let l = c.args.lawful.lattice in
    let ok = sizes c.args.lawful in
    let w = c.write_paths in
    let m = c.meet_rows in
    let e : rows 5 (24 * c.n_total.result) w.new.given ≡ paths l = rw c.n_total.ensures (paths-back l ok w.new.given _ w.ensures) in
    met-pents l ok _ _ _ _ _ _ _ (rw e at m.ensures) m.auto.list c.requires
