pub mod Asked
pub mod Twins
pub mod Learned
pub mod Steps
pub mod Counting
pub mod Promised
pub mod Worked
