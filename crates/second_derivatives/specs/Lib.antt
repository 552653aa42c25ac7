-- The definitions that contracts on second derivatives cite.
pub mod SecondDerivatives
pub mod Parts
pub mod Matrix
