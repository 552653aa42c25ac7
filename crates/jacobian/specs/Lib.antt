-- The definitions that contracts on the ten dihedrals cite.
pub mod Jacobian
