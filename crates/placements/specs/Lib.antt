pub mod Cases
pub mod Placings
pub mod Ranks
