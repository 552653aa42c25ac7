-- The definitions that contracts on the program's answer cite.
pub mod Report
