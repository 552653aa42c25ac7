-- Laws on the builder.
pub mod Whole
