pub mod Depths
pub mod Events
pub mod Ran
pub mod Rules
pub mod Jumps
pub mod Bounds
pub mod Privacy
pub mod Strictness
