pub mod Places
pub mod Reaches
pub mod Wants
