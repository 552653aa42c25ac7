-- `lattice_edges::checks::has_pents` meets its contract. Assumes nothing.
use Prim.Native.Nat.{ℕ}
use mathlib.Core.List.{List}
use mathlib.Core.Path.{◌≡◌, refl, sym, ◌∙◌}
use native.Mathlib.Omega.{arith}
use lib.Dec.{eqb}
use lib.ListN.{length, replicate, take}
use lib.Seq.{length-take-le}
use borrow.Author.Tests.{eq-eqb, ne_eqb}
use Rattle.std.specs.List.{starts_with}
use Rattle.std.proofs.lemmas.Bool.Decides.{Decides-eqb}
use Rattle.std.proofs.lemmas.Slice.Eq.{slice_eq-Decides}
use Rattle.lists.specs.Rows.{begins}
use Rattle.lists.proofs.Tests.{says-by, says_same}
use Rattle.lists.proofs.Rows.{begins-says}
use Rattle.foliation.proofs.Sizes.{sizes}
use Rattle.foliation.proofs.Listings.{pents-few, pents-front, paths-room}
use Rattle.lattice_edges.specs.OnLattice.{has_lattice_pents}
use Rattle.lattice_edges.proofs.checks.has_pents.Goals as goal

-- the library's test of a front is the lists' own
starts_with-begins : (xs new : List ℕ) → starts_with eqb xs new ≡ begins new xs
starts_with-begins xs new =
    let d = slice_eq-Decides Decides-eqb new (take (length new) xs) _ refl in
    says_same sym sym (says-by _ d.0 d.1) (begins-says new xs)

pub returns-then-counts-n_total : goal.returns-then-counts-n_total
unfolding has_lattice_pents
returns-then-counts-n_total c = rw (ne_eqb _ _ (rw c.n_total.ensures at c.if-counts-n_total.true)) refl

pub list-count-requires : goal.list-count-requires
list-count-requires c =
    let a = c.args in
    let l = a.lawful.lattice in
    let ok = sizes a.lawful in
    paths-room l ok (replicate 40920 0) (replicate 40920 0) 40920 refl refl refl

pub overflow_mul-own : goal.overflow_mul-own
overflow_mul-own c =
    let a = c.args in
    let l = a.lawful.lattice in
    let ok = sizes a.lawful in
    omega (arith, c.list-count.ensures.0, pents-few l ok, ok.cells)

pub slice_bounds-own-end : goal.slice_bounds-own-end
slice_bounds-own-end c =
    let a = c.args in
    let l = a.lawful.lattice in
    let ok = sizes a.lawful in
    omega (arith, c.list-count.ensures.0, pents-few l ok, ok.cells)

pub slice_bounds-starts_with-end : goal.slice_bounds-starts_with-end
slice_bounds-starts_with-end c =
    let a = c.args in
    let l = a.lawful.lattice in
    let ok = sizes a.lawful in
    sym (length-take-le _ _ (omega (arith, paths-room l ok (replicate 40920 0) c.list-count.new.pents 40920 refl refl c.list-count.auto.pents, pents-few l ok, c.list-count.ensures.0)))

pub returns-then-counts-count : goal.returns-then-counts-count
unfolding has_lattice_pents
returns-then-counts-count c =
    let a = c.args in
    let l = a.lawful.lattice in
    let ok = sizes a.lawful in
    let front = pents-front l ok _ _ _ c.list-count.ensures.0 c.list-count.ensures.1 in
    let begun = rw front at (c.starts_with.ensures.value ∙ starts_with-begins a.complex.now.pents.now _) in
    begun ∙ rw (eq-eqb _ _ (rw c.n_total.ensures at c.if-counts-n_total.false), eq-eqb _ _ (rw c.list-count.ensures.0 at c.if-counts-count.true)) refl

pub returns-else-counts-count : goal.returns-else-counts-count
unfolding has_lattice_pents
returns-else-counts-count c = ne_eqb _ _ c.if-counts-count.false ∙ rw (eq-eqb _ _ (rw c.n_total.ensures at c.if-counts-n_total.false), ne_eqb _ _ (rw c.list-count.ensures.0 at c.if-counts-count.false)) refl
