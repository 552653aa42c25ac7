-- The definitions that contracts on marks cite.
pub mod Marks
