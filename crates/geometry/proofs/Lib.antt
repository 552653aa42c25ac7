-- Laws on determinants and cofactors that the crates above cite.
pub mod Tables
pub mod Maps
pub mod Computed
pub mod Related
pub mod Small
pub mod Bordered
pub mod Expansions
pub mod Exactness
pub mod Answers
