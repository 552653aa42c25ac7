-- The definitions that contracts on complexes cite.
pub mod Complex
pub mod Builder
pub mod Check
pub mod Lent
pub mod Parts
pub mod Pushed
