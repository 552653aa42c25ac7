-- `complex::checks::offence` meets its contract. Assumes nothing.
use mathlib.Core.Path.{refl, sym, ap, ◌∙◌}
use native.Mathlib.Omega.{arith}
use Rattle.complex.specs.Builder.{offence}
use Rattle.complex.proofs.Fives.{fives_cons, fives_nil}
use Rattle.complex.proofs.checks.offence.Goals as goal

pub returns-then-too_large : goal.returns-then-too_large
unfolding offence
returns-then-too_large c =
    let i = c.loop-k.invariant in
    let s = c.in-Some.ensures.steps in
    sym (i.left ∙ ap (offence c.args.n _) (fives_cons _ _ _ s.0.1.0 (s.0.1.1 ∙ i.fives)) ∙ rw (sym c.too_large.ensures ∙ c.if-too_large.true, s.1) refl)

pub returns-then-repeats : goal.returns-then-repeats
unfolding offence
returns-then-repeats c =
    let i = c.loop-k.invariant in
    let s = c.in-Some.ensures.steps in
    sym (i.left ∙ ap (offence c.args.n _) (fives_cons _ _ _ s.0.1.0 (s.0.1.1 ∙ i.fives)) ∙ rw (sym c.too_large.ensures ∙ c.if-too_large.false, sym c.repeats.ensures ∙ c.if-repeats.true, s.1) refl)

pub loop-k-preserved : goal.loop-k-preserved
unfolding offence
loop-k-preserved c =
    let i = c.loop-k.invariant in
    let s = c.in-Some.ensures.steps in record {
      fives = s.0.0 ∙ i.fives;
      left = i.left ∙ ap (offence c.args.n _) (fives_cons _ _ _ s.0.1.0 (s.0.1.1 ∙ i.fives)) ∙ rw (sym c.too_large.ensures ∙ c.if-too_large.false, sym c.repeats.ensures ∙ c.if-repeats.false, s.2) refl;
    }

pub returns : goal.returns
unfolding offence
returns c =
    let i = c.loop-k.invariant in
    let s = c.in-None.ensures.steps in
    sym (i.left ∙ ap (offence c.args.n _) (fives_nil _ (omega (arith, s.0.1.0, i.fives))))
