-- `foliation::hypercubic::write_paths` meets its contract. Assumes nothing.
use Prim.Native.Nat.{◌*◌}
use mathlib.Core.Path.{◌≡◌, refl, sym, ap, ◌∙◌}
use native.Mathlib.Omega.{arith}
use lib.ListN.{length}
use Rattle.lists.specs.Lists.{upto}
use Rattle.lists.specs.Rows.{flat, over}
use Rattle.foliation.specs.Lattice.{vertex_count}
use Rattle.foliation.proofs.Sizes.{sizes}
use Rattle.foliation.proofs.Cells.{paths-numbered}
use Rattle.foliation.proofs.Listings.{length-path-at, length-flat-to, paths-turn}
use Rattle.foliation.proofs.hypercubic.write_paths.Goals as goal

pub overflow_mul-count : goal.overflow_mul-count
overflow_mul-count c = omega (arith, c.n_total-count.ensures, (sizes c.args.lawful).cells)

pub loop-k-init : goal.loop-k-init
unfolding flat upto
loop-k-init c = (omega arith, refl, refl)

pub overflow_mul-k : goal.overflow_mul-k
overflow_mul-k c = omega (arith, c.n_total-count.ensures, c.requires)

pub path_at-requires : goal.path_at-requires
path_at-requires c = omega (arith, c.n_total-count.ensures, (sizes c.args.lawful).cells)

pub slice_bounds-copy_row-end : goal.slice_bounds-copy_row-end
slice_bounds-copy_row-end c = sym (ap length c.path_at.ensures ∙ length-path-at _ _)

pub copy_row-requires : goal.copy_row-requires
copy_row-requires c =
    let five : length c.path_at.result ≡ 5 = ap length c.path_at.ensures ∙ length-path-at _ _ in
    omega (arith, c.n_total-count.ensures, c.requires)

pub loop-k-preserved : goal.loop-k-preserved
loop-k-preserved c =
    let a = c.args in
    let l = c.loop-k in
    let row = c.path_at in
    let five : length row.result ≡ 5 = ap length row.ensures ∙ length-path-at _ _ in
    let f = c.copy_row in
    (omega arith, f.auto.list ∙ l.invariant.1, paths-turn a.lawful.lattice a.given.now l.given f.new.list l.k l.invariant.2 (rw row.ensures at (rw five at f.ensures)))

pub shape_of-given : goal.shape_of-given
shape_of-given c = c.loop-k.invariant.1

pub returns : goal.returns
unfolding over
returns c =
    let l = c.args.lawful.lattice in
    let ok = sizes c.args.lawful in
    let e : c.loop-k.k ≡ 24 * vertex_count l = omega (arith, c.n_total-count.ensures) in
    c.loop-k.invariant.2 ∙ rw (e, paths-numbered l ok, length-flat-to l (24 * vertex_count l)) refl
