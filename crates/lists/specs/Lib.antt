-- The definitions that contracts on lists cite.
pub mod Lists
pub mod Keys
pub mod Rows
pub mod Lent
pub mod Sorting
pub mod Chains
pub mod Groups
pub mod GroupSteps
pub mod Loops
pub mod Writes
