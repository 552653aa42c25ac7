-- The definitions that contracts of exported functions over a complex cite.
pub mod Counts
pub mod Hinges
pub mod Local
pub mod Retouching
