pub mod Diamonds
pub mod Unevens
