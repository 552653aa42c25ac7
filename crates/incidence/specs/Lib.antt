-- The definitions that contracts on incidence cite.
pub mod Incidence
