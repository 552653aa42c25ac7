-- Laws on the local Hessian, for proofs here and in the crates above.
pub mod Addends
pub mod Again
pub mod HessianLoops
pub mod HessianEntries
pub mod HessianTerms
pub mod HessianMatrix
