-- The definitions that contracts of exported functions cite.
pub mod Complexes
pub mod Lattices
pub mod Signs
