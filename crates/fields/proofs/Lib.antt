pub mod Decoded
pub mod Parts
pub mod Pasted
