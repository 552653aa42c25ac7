-- Names of the files with definitions.
pub mod Changes
pub mod Lending
pub mod Names
pub mod Owned
