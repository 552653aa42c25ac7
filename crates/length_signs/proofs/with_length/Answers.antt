-- `length_signs::with_length` meets its contract. Assumes nothing.
use mathlib.Core.Path.{refl}
use Rattle.length_signs.specs.Parts.{with_length}
use Rattle.length_signs.proofs.OneSign.{timelike-not_null}
use Rattle.length_signs.proofs.with_length.Goals as goal

pub returns-then-s : goal.returns-then-s
unfolding with_length
returns-then-s c = rw (c.if-s.true, timelike-not_null _ c.if-s.true) refl

pub returns-then-s-2 : goal.returns-then-s-2
unfolding with_length
returns-then-s-2 c = rw (c.if-s.false, c.if-s-2.true) refl

pub returns : goal.returns
unfolding with_length
returns c = rw (c.if-s.false, c.if-s-2.false) refl
