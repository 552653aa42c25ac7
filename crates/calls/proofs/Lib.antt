-- Laws on calls over a complex, for proofs here and in the crates above.
pub mod BuiltCalls
