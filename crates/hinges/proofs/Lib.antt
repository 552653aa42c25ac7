-- Laws on hinges, for proofs here and in the crates above.
pub mod PentachoronSteps
pub mod TriangleSteps
pub mod SharedTriangle
pub mod OnePass
pub mod LocalEntries
pub mod HingeKinds
pub mod Skipped
pub mod Zipped
