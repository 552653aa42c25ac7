-- Laws on triangles that this crate's proofs and the crates above cite.
pub mod Triangles
pub mod AreaExactness
