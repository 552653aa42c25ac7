-- The definitions that contracts on the pass cite.
pub mod Pass
