-- The definitions that a reader has to believe: the headline and each refusal depend on these, and
-- on no others.
pub mod Text
pub mod Flags
pub mod Lengths
pub mod Bits
pub mod Bases
pub mod Conversions
pub mod Specification
pub mod DataModel
pub mod Defined
pub mod Digits
pub mod Spelling
pub mod Items
pub mod Refusals
pub mod Arguments
pub mod Printing
pub mod Normal
pub mod Canonical
pub mod Headline
