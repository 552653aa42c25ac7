-- `packed_input::decode_parts` meets its contract. Assumes nothing.
use mathlib.Core.Path.{refl, sym, ap, ◌∙◌}
use native.Mathlib.Omega.{arith}
use mathlib.Core.Path.{◌≡◌}
use mathlib.Core.List.{List, ◌++◌}
use lib.Ieee.{Float}
use lib.ListN.{length, take, drop}
use Rattle.lists.proofs.Rows.{map-done}
use lib.Seq.{length-take-le}
use Rattle.std.proofs.lemmas.Result.{err_from_is_err_and}
use Rattle.refusals.specs.Refusals.{Outcome}
use Rattle.packed_input.specs.Format.{sq_length_at, sq_lengths_in}
use Rattle.packed_input.specs.Decoding.{counts_by, decoded_of}
use Rattle.packed_input.proofs.Refusing.{tail-says}
use Rattle.packed_input.proofs.Complexes.{header-decides}
use Rattle.packed_input.proofs.DecodedComplex.{read-is, read-refused, parts-few, tail-decides}
use Rattle.packed_input.proofs.decode_parts.Goals as goal

pub returns-in_err-packed-clause-value : goal.returns-in_err-packed-clause-value
returns-in_err-packed-clause-value c =
    let q = err_from_is_err_and c.from_residual.result c.from_residual.ensures.1 in
    rw (q.1, q.2, header-decides c.args.input.now _ (read-refused _ c.read.ensures c.in_err-packed.was)) refl

pub returns-in_err-packed-clause-lists_after : goal.returns-in_err-packed-clause-lists_after
returns-in_err-packed-clause-lists_after c = rw (header-decides c.args.input.now _ (read-refused _ c.read.ensures c.in_err-packed.was)) refl

pub check_tail-requires : goal.check_tail-requires
check_tail-requires c = (parts-few c.in_ok-packed.packed c.in_ok-counts.counts (sym c.decode_complex.ensures.value ∙ c.in_ok-counts.was)).1

pub returns-in_err-check_tail-clause-value : goal.returns-in_err-check_tail-clause-value
returns-in_err-check_tail-clause-value c =
    let q = err_from_is_err_and c.from_residual-in_err-check_tail.result c.from_residual-in_err-check_tail.ensures.1 in
    let d = tail-decides c.in_ok-packed.packed c.in_ok-counts.counts (sym c.decode_complex.ensures.value ∙ c.in_ok-counts.was) in
    let o = sym c.check_tail.ensures ∙ c.in_err-check_tail.was in
    rw (q.1, q.2) (sym (ap decoded_of (sym (read-is _ c.read.ensures c.in_ok-packed.was)) ∙ d ∙ ap (λ (o : Outcome). counts_by o c.in_ok-counts.counts) o))

pub slice_bounds-read_lengths-end : goal.slice_bounds-read_lengths-end
slice_bounds-read_lengths-end c =
    let few = (parts-few c.in_ok-packed.packed c.in_ok-counts.counts (sym c.decode_complex.ensures.value ∙ c.in_ok-counts.was)).1 in
    omega (arith, few, c.requires.places)

pub slice_bounds-read_lengths-end-2 : goal.slice_bounds-read_lengths-end-2
slice_bounds-read_lengths-end-2 c =
    let few = (parts-few c.in_ok-packed.packed c.in_ok-counts.counts (sym c.decode_complex.ensures.value ∙ c.in_ok-counts.was)).1 in
    sym (length-take-le c.in_ok-counts.counts.edges c.args.sq_lengths.now (omega (arith, few, c.requires.places)))

pub read_lengths-requires : goal.read_lengths-requires
read_lengths-requires c =
    let p = c.in_ok-packed.packed in
    let n = c.in_ok-counts.counts in
    let few = (parts-few p n (sym c.decode_complex.ensures.value ∙ c.in_ok-counts.was)).1 in
    let ends = tail-says p.bytes.now p.layout.n_pents n.edges (sym c.check_tail.ensures ∙ c.in_ok-check_tail.was) in
    rw (length-take-le n.edges c.args.sq_lengths.now (omega (arith, few, c.requires.places))) (few, omega (arith, ends))

pub returns-clause-value : goal.returns-clause-value
returns-clause-value c =
    let d = tail-decides c.in_ok-packed.packed c.in_ok-counts.counts (sym c.decode_complex.ensures.value ∙ c.in_ok-counts.was) in
    let o = sym c.check_tail.ensures ∙ c.in_ok-check_tail.was in
    sym (ap decoded_of (sym (read-is _ c.read.ensures c.in_ok-packed.was)) ∙ d ∙ ap (λ (o : Outcome). counts_by o c.in_ok-counts.counts) o)

pub returns-clause-lengths : goal.returns-clause-lengths
unfolding sq_lengths_in
returns-clause-lengths c =
    let parts = parts-few c.in_ok-packed.packed c.in_ok-counts.counts (sym c.decode_complex.ensures.value ∙ c.in_ok-counts.was) in
    let n = c.in_ok-counts.counts in
    let old = c.args.sq_lengths.now in
    let long : length (take n.edges old) ≡ n.edges = length-take-le n.edges old (omega (arith, parts.1, c.requires.places)) in
    let front : c.read_lengths.new.sq_lengths ≡ sq_lengths_in c.args.input.now n.pentachorons n.edges = rw (read-is _ c.read.ensures c.in_ok-packed.was, ← parts.0, long) at c.read_lengths.ensures in
    map-done (sq_length_at c.args.input.now n.pentachorons) old _ n.edges (ap (λ (xs : List Float). xs ++ drop n.edges old) front)
