-- The definitions that contracts on lattices cite.
pub mod Lattice
pub mod Listing
pub mod Parts
