-- The definitions that contracts on the program's input cite.
pub mod Format
pub mod Numbers
pub mod Decoding
pub mod Parts
