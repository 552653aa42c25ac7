-- The definitions that contracts on triangles and dihedrals cite.
pub mod Triangle
pub mod Dihedral
