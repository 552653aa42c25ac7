-- The definitions that contracts on the local Hessian cite.
pub mod Hessian
pub mod Parts
pub mod Steps
