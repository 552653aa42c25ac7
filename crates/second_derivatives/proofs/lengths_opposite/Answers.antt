-- `second_derivatives::lengths_opposite` meets its contract. Assumes nothing.
use mathlib.Core.Path.{refl}
use Rattle.second_derivatives.proofs.Opposites.{vertices-are, have-edges}
use Rattle.second_derivatives.proofs.lengths_opposite.Goals as goal

pub edge_idx-requires : goal.edge_idx-requires
edge_idx-requires c = let v = have-edges c.args.pair.now.k c.args.pair.now.below in (v.0, v.1, v.3)

pub edge_idx-requires-2 : goal.edge_idx-requires-2
edge_idx-requires-2 c = let v = have-edges c.args.pair.now.k c.args.pair.now.below in (v.0, v.2, v.4)

pub edge_idx-requires-3 : goal.edge_idx-requires-3
edge_idx-requires-3 c = let v = have-edges c.args.pair.now.k c.args.pair.now.below in (v.1, v.2, v.5)

pub returns : goal.returns
returns c = rw (c.edge_idx.ensures.0, c.edge_idx-2.ensures.0, c.edge_idx-3.ensures.0, vertices-are c.args.pair.now.k c.args.pair.now.below) refl
