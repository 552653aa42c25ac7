-- The definitions that contracts on calls with free edges cite.
pub mod LocalCalls
