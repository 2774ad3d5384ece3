pub mod Outs
pub mod Models
pub mod Calls
pub mod Promises
pub mod Seen
pub mod Worked
