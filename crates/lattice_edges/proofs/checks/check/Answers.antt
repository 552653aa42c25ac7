-- `lattice_edges::checks::check` meets its contract. Assumes nothing.
use Rattle.std.specs.Prelude.{Err}
use mathlib.Core.Path.{sym, ap, ◌∙◌}
use Rattle.std.proofs.lemmas.Result.{err_from_is_err_and}
use Rattle.foliation.proofs.Sizes.{checked, unlawful}
use Rattle.lattice_edges.specs.OnLattice.{lattice_check_of}
use Rattle.lattice_edges.proofs.Passed.{not-own, short-room, all-fine}
use Rattle.lattice_edges.proofs.checks.check.Goals as goal

pub returns-in_err-lawful : goal.returns-in_err-lawful
unfolding lattice_check_of
returns-in_err-lawful c =
    let p = err_from_is_err_and c.from_residual.result c.from_residual.ensures.1 in
    let u = unlawful _ _ _ c.new.ensures c.in_err-lawful.was in
    rw (p.1, u.0) (ap Err (sym (p.2 ∙ u.1)))

pub returns-then-not-has_complex : goal.returns-then-not-has_complex
returns-then-not-has_complex c =
    let e = checked _ _ _ c.new.ensures c.in_ok-lawful.was in
    sym (not-own c.in_ok-lawful.lawful _ e _ _ _ (sym c.has_complex.ensures ∙ c.if-not-has_complex.true))

pub returns-then-room-complex : goal.returns-then-room-complex
returns-then-room-complex c =
    let e = checked _ _ _ c.new.ensures c.in_ok-lawful.was in
    sym (short-room c.in_ok-lawful.lawful _ e _ _ _ (sym c.has_complex.ensures ∙ c.if-not-has_complex.false) c.if-room-complex.true)

pub returns : goal.returns
returns c =
    let e = checked _ _ _ c.new.ensures c.in_ok-lawful.was in
    (e, sym (all-fine c.in_ok-lawful.lawful _ e _ _ _ (sym c.has_complex.ensures ∙ c.if-not-has_complex.false) c.if-room-complex.false))
