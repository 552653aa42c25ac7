-- Laws on doubles that the crates above cite.
pub mod Tests
pub mod Patterns
pub mod Units
pub mod Signs
pub mod Values
pub mod Magnitude
pub mod Zeros
pub mod Exact
pub mod Integers
pub mod Related
pub mod Bounds
pub mod Sums
