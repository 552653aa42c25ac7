-- `lattice_edges::edges::min_image` meets its contract. Assumes nothing.
use mathlib.Core.Path.{refl, ◌∙◌}
use borrow.Author.Tests.{lt-ltb, le-ltb}
use Rattle.lattice_edges.specs.Edges.{min_image}
use Rattle.lattice_edges.proofs.edges.min_image.Goals as goal

pub returns-then-a-half : goal.returns-then-a-half
unfolding min_image
returns-then-a-half c = c.difference.ensures ∙ rw (lt-ltb _ _ c.if-a-half.true) refl

pub returns-then-b-half : goal.returns-then-b-half
unfolding min_image
returns-then-b-half c = c.difference-then-b-half.ensures ∙ rw (le-ltb _ _ c.if-a-half.false, lt-ltb _ _ c.if-b-half.true) refl

pub returns : goal.returns
unfolding min_image
returns c = c.difference-2.ensures ∙ rw (le-ltb _ _ c.if-a-half.false, le-ltb _ _ c.if-b-half.false) refl
