pub mod Layers
pub mod Makers
pub mod Readers
pub mod Checks
pub mod Engines
