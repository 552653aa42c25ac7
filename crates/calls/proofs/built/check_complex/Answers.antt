-- `calls::built::check_complex` meets its contract. Assumes nothing.
use mathlib.Core.Path.{sym, ◌∙◌}
use Rattle.comparison.proofs.Comparisons.{noted_of}
use Rattle.calls.proofs.built.check_complex.Goals as goal

pub invariant_of-result : goal.invariant_of-result
invariant_of-result c =
    let f = c.is_built_noting.ensures in
    let h = c.if-not-is_built_noting.false in
    record { built_with = record { built = sym f.value ∙ h; noted = noted_of f.noting h } }
