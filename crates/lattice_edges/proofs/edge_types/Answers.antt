-- `lattice_edges::edge_types` meets its contract. Assumes nothing.
use Rattle.std.proofs.Common.{rules}
use Rattle.lattice_edges.specs.Edges.{type_byte, edge_type_of, types_of}
use Rattle.lattice_edges.proofs.edge_types.Goals as goal

pub returns : goal.returns
unfolding types_of
returns c = c.fill.ensures (λ l a b. type_byte (edge_type_of l a b)) (λ s a b v p. search (rules, p))
