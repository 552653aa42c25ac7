-- Laws on what the replay programs share.
pub mod Filling
