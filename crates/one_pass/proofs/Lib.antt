-- Laws on the pass.
pub mod PassSteps
pub mod BothEnds
