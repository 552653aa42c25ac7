-- Laws on tables of records, for proofs here and in the crates above.
pub mod TableDemand3
pub mod TableSteps
