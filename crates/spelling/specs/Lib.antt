pub mod Faults
pub mod Hex
pub mod Laws
pub mod Numerals
pub mod Reads
