-- The definitions that contracts on the square root cite.
pub mod Root
