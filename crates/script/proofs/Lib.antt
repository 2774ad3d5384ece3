pub mod Chooses
pub mod Plays
pub mod Spellings
pub mod Splits
pub mod Ties
