pub mod Behind
pub mod Decoded
pub mod Readings
