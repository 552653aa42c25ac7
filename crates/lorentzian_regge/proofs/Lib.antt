-- Laws on calls over a complex.
pub mod Scratch
pub mod Tables
