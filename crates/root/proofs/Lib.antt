-- Theorems on the square root that the crates above cite.
pub mod Floor
pub mod Nearest
pub mod Library
pub mod Unique
pub mod Values
