-- Laws on complexes, for proofs here and in the crates above.
pub mod Fives
pub mod Offences
pub mod SortedPents
pub mod Meetings
pub mod TriangleEdges
pub mod Lying
pub mod FaceNumbers
pub mod Laws
pub mod Pushing
