-- Laws of the libraries that C calls.
pub mod CheckedCores
