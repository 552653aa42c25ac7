-- The definitions that contracts on determinants and cofactors cite.
pub mod Determinant
pub mod CayleyMenger
pub mod Minors
pub mod Answer
