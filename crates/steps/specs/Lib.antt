pub mod Checks
pub mod Ends
pub mod Traces
