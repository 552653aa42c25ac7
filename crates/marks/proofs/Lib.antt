-- Laws on marks, for proofs here and in the crates above.
pub mod Marking
