-- `foliation::foliated_hypercubic` meets its contract. Assumes nothing.
use Rattle.std.specs.Prelude.{Err}
use mathlib.Core.Path.{refl, ap, ◌∙◌}
use native.Mathlib.Omega.{arith}
use borrow.Author.Tests.{lt-ltb, le-ltb}
use Rattle.std.proofs.lemmas.Result.{err_from_is_err_and}
use Rattle.foliation.specs.Listing.{listed_of}
use Rattle.foliation.proofs.Sizes.{sizes, checked, unlawful}
use Rattle.foliation.proofs.foliated_hypercubic.Goals as goal

pub returns-in_err-lawful : goal.returns-in_err-lawful
unfolding listed_of
returns-in_err-lawful c =
    let p = err_from_is_err_and c.from_residual.result c.from_residual.ensures.1 in
    let u = unlawful _ _ _ c.new.ensures c.in_err-lawful.was in
    record { answered = p.1 ∙ ap Err (p.2 ∙ u.1) ∙ rw u.0 refl; left = rw p.1 refl }

pub overflow_mul-n_total : goal.overflow_mul-n_total
overflow_mul-n_total c = omega (arith, c.n_total.ensures, (sizes c.in_ok-lawful.lawful).cells)

pub returns-then-pents-n_total : goal.returns-then-pents-n_total
unfolding listed_of
returns-then-pents-n_total c =
    let s = c.in_ok-lawful.lawful in
    let e = checked _ _ s c.new.ensures c.in_ok-lawful.was in
    record { answered = rw (← e, s.lawful, lt-ltb _ _ (rw c.n_total.ensures at c.if-pents-n_total.true)) refl; left = refl }

pub returns : goal.returns
unfolding listed_of
returns c =
    let s = c.in_ok-lawful.lawful in
    let e = checked _ _ s c.new.ensures c.in_ok-lawful.was in
    record { answered = rw (← e, s.lawful, le-ltb _ _ (rw c.n_total.ensures at c.if-pents-n_total.false), c.list.ensures.0) refl; left = rw e at c.list.ensures.1 }
