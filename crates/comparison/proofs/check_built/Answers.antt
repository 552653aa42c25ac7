-- `comparison::check_built` meets its contract. Assumes nothing.
use Prim.Native.Nat.{◌*◌}
use mathlib.Core.Bool.{true}
use mathlib.Core.Path.{◌≡◌, refl, sym, ◌∙◌}
use native.Mathlib.Omega.{arith}
use lib.Seq.{length-take-le}
use borrow.Author.Tests.{lt-ltb, le-ltb}
use Rattle.complex.specs.Check.{is_built, checked_of}
use Rattle.complex.specs.Lent.{lists_of}
use Rattle.complex.specs.declared.numbering.Face.TheVariants.{Edge, Triangle}
use Rattle.comparison.proofs.BuiltComplex.{built-says}
use Rattle.comparison.proofs.Comparisons.{noted_of, noted-long, noted-after}
use Rattle.lists.proofs.Tests.{said}
use Rattle.comparison.proofs.check_built.Goals as goal
use Rattle.comparison.proofs.check_built.Goals.{then-pent_edges-met-via-then-pent_edges-met, then-pent_edges-met-via-else-pent_edges-met+then-pent_tris-met}

pub returns-then-not-is_built_noting : goal.returns-then-not-is_built_noting
unfolding checked_of
returns-then-not-is_built_noting c = record { answered = rw (sym c.is_built_noting.ensures.value ∙ c.if-not-is_built_noting.true) refl; edges = refl; triangles = refl }

pub overflow_mul-met : goal.overflow_mul-met
overflow_mul-met c =
    let x = c.args.complex.now in
    let b = said (built-says x.counts (lists_of x)) (sym c.is_built_noting.ensures.value ∙ c.if-not-is_built_noting.false) in
    omega (arith, b.few)

pub returns-then-pent_edges-met : goal.returns-then-pent_edges-met
unfolding checked_of
returns-then-pent_edges-met c =
    let x = c.args.complex.now in
    let h : is_built x.counts (lists_of x) ≡ true = sym c.is_built_noting.ensures.value ∙ c.if-not-is_built_noting.false in
    elim c.then-pent_edges-met.branch [
      | then-pent_edges-met-via-then-pent_edges-met w ↦ record { answered = rw (h, lt-ltb _ _ w.if-pent_edges-met.true) refl; edges = refl; triangles = refl }
      | then-pent_edges-met-via-else-pent_edges-met+then-pent_tris-met w ↦
          record { answered = rw (h, le-ltb _ _ w.if-pent_edges-met.false, lt-ltb _ _ w.if-pent_tris-met.true) refl; edges = refl; triangles = refl }
    ]

pub slice_bounds-edge_numbers-end : goal.slice_bounds-edge_numbers-end
slice_bounds-edge_numbers-end c =
    let x = c.args.complex.now in
    let yes = c.if-not-is_built_noting.false in
    let b = said (built-says x.counts (lists_of x)) (sym c.is_built_noting.ensures.value ∙ yes) in
    let long = noted-long x.counts (lists_of x) b Edge refl c.is_built_noting.new.pent_edges (noted_of c.is_built_noting.ensures.noting yes).edges in
    long

pub slice_bounds-copy_from_slice-end-3 : goal.slice_bounds-copy_from_slice-end-3
slice_bounds-copy_from_slice-end-3 c =
    let x = c.args.complex.now in
    let yes = c.if-not-is_built_noting.false in
    let b = said (built-says x.counts (lists_of x)) (sym c.is_built_noting.ensures.value ∙ yes) in
    let long = noted-long x.counts (lists_of x) b Edge refl c.is_built_noting.new.pent_edges (noted_of c.is_built_noting.ensures.noting yes).edges in
    sym (length-take-le (10 * x.counts.pentachorons) c.is_built_noting.new.pent_edges long)

pub copy_from_slice-requires : goal.copy_from_slice-requires
copy_from_slice-requires c =
    let x = c.args.complex.now in
    let yes = c.if-not-is_built_noting.false in
    let b = said (built-says x.counts (lists_of x)) (sym c.is_built_noting.ensures.value ∙ yes) in
    let long = noted-long x.counts (lists_of x) b Edge refl c.is_built_noting.new.pent_edges (noted_of c.is_built_noting.ensures.noting yes).edges in
    length-take-le (10 * x.counts.pentachorons) c.args.pent_edges.now c.if-pent_edges-met.false ∙ sym (length-take-le (10 * x.counts.pentachorons) c.is_built_noting.new.pent_edges long)

pub returns : goal.returns
unfolding checked_of
returns c =
    let x = c.args.complex.now in
    let l = lists_of x in
    let yes = c.if-not-is_built_noting.false in
    let h : is_built x.counts l ≡ true = sym c.is_built_noting.ensures.value ∙ yes in
    let b = said (built-says x.counts l) h in
    let n = noted_of c.is_built_noting.ensures.noting yes in record {
      answered = rw (h, le-ltb _ _ c.if-pent_edges-met.false, le-ltb _ _ c.if-pent_tris-met.false) refl;
      edges = noted-after x.counts l b Edge refl c.is_built_noting.new.pent_edges n.edges _ _ c.copy_from_slice.ensures.after;
      triangles = noted-after x.counts l b Triangle refl c.is_built_noting.new.pent_tris n.triangles _ _ c.copy_from_slice-2.ensures.after;
    }
