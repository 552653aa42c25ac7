-- Laws on lattices, for proofs here and in the crates above.
pub mod Sizes
pub mod Coordinates
pub mod Cells
pub mod Listings
pub mod Orders
