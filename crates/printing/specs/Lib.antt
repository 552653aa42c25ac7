-- The definitions that contracts on text cite.
pub mod Text
