-- The definitions that contracts on fdlibm's functions cite, one file for each C file.
pub mod Ints
pub mod Log
pub mod Log1p
pub mod Acos
pub mod Acosh
pub mod Asinh
