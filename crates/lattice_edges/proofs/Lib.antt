-- Laws on a lattice's edges and its complex.
pub mod Images
pub mod Passed
pub mod Accepted
