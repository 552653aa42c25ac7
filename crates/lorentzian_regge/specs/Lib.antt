-- The definitions that contracts on deficits, action and gradient cite.
pub mod Answers
