-- Laws on numbers as text.
pub mod Digits
