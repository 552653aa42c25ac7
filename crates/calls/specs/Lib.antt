-- The definitions that contracts on calls over a complex cite.
pub mod Calls
