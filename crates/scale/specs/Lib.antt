pub mod Scales
pub mod Ladders
pub mod MadeLadders
pub mod Sets
pub mod MadeSets
