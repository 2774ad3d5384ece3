pub mod Amounts
pub mod Machines
pub mod Runs
pub mod Seen
