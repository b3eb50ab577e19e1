pub mod NormalValues
pub mod Reducing
pub mod NormalParts
pub mod Padded
pub mod Prefixes
pub mod Signs
pub mod Cores
pub mod Changes
