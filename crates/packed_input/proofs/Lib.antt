-- Laws of the program's input.
mod Spelling
mod Refusing
pub mod Complexes
pub mod DecodedComplex
pub mod LongInputs
