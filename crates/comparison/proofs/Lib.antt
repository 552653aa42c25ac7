-- Laws on built complexes and on their check, for proofs here and in the crates above.
pub mod Rises
pub mod FaceLists
pub mod Holdings
pub mod BuiltComplex
pub mod BuiltAgain
pub mod Comparisons
