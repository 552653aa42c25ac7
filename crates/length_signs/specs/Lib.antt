-- The definitions that contracts on length signs cite.
pub mod LengthSigns
pub mod Parts
pub mod Text
