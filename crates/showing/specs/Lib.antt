pub mod Charts
pub mod Lines
pub mod Samples
