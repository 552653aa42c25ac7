-- `lattice_edges::fill` meets its contract. Assumes nothing.
use Rattle.std.specs.Prelude.{Err}
use mathlib.Core.Path.{refl, sym, ap, ◌∙◌}
use native.Mathlib.Omega.{arith}
use lib.Seq.{length-take-le}
use Rattle.std.proofs.lemmas.Result.{err_from_is_err_and}
use Rattle.lattice_edges.proofs.Passed.{let_pass, refused, front-rows}
use Rattle.lattice_edges.proofs.fill.Goals as goal

pub returns-in_err-lawful : goal.returns-in_err-lawful
returns-in_err-lawful g c h gives =
    let p = err_from_is_err_and c.from_residual.result c.from_residual.ensures.1 in
    record { answered = p.1 ∙ ap Err p.2 ∙ sym (refused _ _ _ _ c.check.ensures c.in_err-lawful.was); left = rw p.1 refl }

pub overflow_mul-complex : goal.overflow_mul-complex
overflow_mul-complex g c = let p = let_pass _ _ _ _ c.check.ensures c.in_ok-lawful.was in omega (arith, p.passed.ends)

pub slice_bounds-write_entries-end : goal.slice_bounds-write_entries-end
slice_bounds-write_entries-end g c = let p = let_pass _ _ _ _ c.check.ensures c.in_ok-lawful.was in sym (length-take-le _ _ p.passed.ends)

pub write_entries-requires-clause-room : goal.write_entries-requires-clause-room
write_entries-requires-clause-room g c =
    let p = let_pass _ _ _ _ c.check.ensures c.in_ok-lawful.was in
    let long = length-take-le _ _ p.passed.ends in
    omega (arith, long, p.passed.places)

pub returns : goal.returns
returns g c h gives =
    let p = let_pass _ _ _ _ c.check.ensures c.in_ok-lawful.was in
    let x = c.args.complex.now in
    record { answered = sym p.done; left = rw (front-rows x.counts.edges x.edges.now p.passed.ends, p.lattice) at c.write_entries.ensures h gives }
