-- The definitions that contracts of the replay programs' library cite.
pub mod Hexadecimal
pub mod Filled
pub mod Texts
