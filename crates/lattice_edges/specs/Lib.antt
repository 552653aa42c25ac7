-- The definitions that contracts on a lattice's edges cite.
pub mod Edges
pub mod OnLattice
