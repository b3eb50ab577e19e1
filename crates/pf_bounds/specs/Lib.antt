pub mod Bounds
pub mod FieldLengths
pub mod Tallies
