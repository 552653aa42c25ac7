-- Laws on incidence, for proofs here and in the crates above.
pub mod Incident
