-- Laws on second derivatives, for proofs here and in the crates above.
pub mod Placing
pub mod Scattering
pub mod Opposites
