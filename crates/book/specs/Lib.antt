pub mod Codes
pub mod Trees
pub mod Forms
pub mod Reads
pub mod Encodings
pub mod Looks
pub mod Sights
pub mod Weighs
