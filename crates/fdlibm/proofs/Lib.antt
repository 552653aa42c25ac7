-- Theorems on fdlibm's functions.
pub mod Values
pub mod Order
