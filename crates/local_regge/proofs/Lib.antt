-- Laws on calls with free edges.
pub mod LocalSteps
pub mod LocalSums
