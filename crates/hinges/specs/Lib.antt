-- The definitions that contracts on hinges, areas, action and gradient cite.
pub mod Hinges
pub mod Action
pub mod Local
pub mod Parts
