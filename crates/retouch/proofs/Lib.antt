-- Laws on the retouch, for proofs here and in the crates above.
pub mod TouchedSteps
pub mod Locality
pub mod Demand3
