-- `lattice_edges::flat_minkowski_sq_lengths` meets its contract. Assumes nothing.
use Rattle.std.proofs.Common.{rules}
use Rattle.lattice_edges.specs.Edges.{sq_length_of, lengths_of}
use Rattle.lattice_edges.proofs.flat_minkowski_sq_lengths.Goals as goal

pub returns : goal.returns
unfolding lengths_of
returns c = c.fill.ensures (λ l a b. sq_length_of l a b c.args.spacing c.args.dt) (λ s a b v p. search (rules, p))
