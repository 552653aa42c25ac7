-- The definitions that contracts on the check of a complex cite.
pub mod CheckParts
pub mod Parts
