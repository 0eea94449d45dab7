mod Ending
pub mod Found
