-- The definitions that contracts on doubles cite.
pub mod Ops
pub mod Methods
pub mod Words
pub mod Units
pub mod Whole
pub mod Algebra
