-- The theorem on the examples.
pub mod Hold
