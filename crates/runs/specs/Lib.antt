pub mod Running
pub mod Sending
