-- The definitions that contracts on tables of records cite.
pub mod Table
