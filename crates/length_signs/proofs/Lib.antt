-- Laws on length signs.
pub mod OneSign
