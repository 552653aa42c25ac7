-- Laws on lists, for proofs here and in the crates above.
pub mod Tests
pub mod Fronts
pub mod Elements
pub mod Keys
pub mod Choices
pub mod Rows
pub mod Sorting
pub mod Chains
pub mod Matches
pub mod Grouped
pub mod GroupSteps
pub mod Loops
pub mod Writes
pub mod Folds
pub mod Few
