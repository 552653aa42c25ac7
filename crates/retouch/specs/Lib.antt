-- The definitions that the retouch's contract and theorem cite.
pub mod Retouch
pub mod Demand3
