pub mod Ruled
pub mod Stays
pub mod Made
