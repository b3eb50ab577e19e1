pub mod DataModelLemmas
pub mod DefinedLemmas
pub mod Numerals
pub mod Printed
pub mod Values
pub mod PrintsOnce
pub mod ItemTypes
pub mod Alike
pub mod Counts
pub mod NumberTexts
pub mod ValueKindLemmas
pub mod WriteLemmas
pub mod EachOnce
mod Examples
