-- The definitions that contracts on refusals cite.
pub mod Refusals
pub mod Text
