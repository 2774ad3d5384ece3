pub mod Meters
pub mod Cards
pub mod Digits
pub mod MadeCards
