mod NormalCores
mod NormalForms
mod Narrowing
mod Paddings
mod SignLemmas
mod Carried
pub mod CarriedIntegers
mod Precisions
mod UnprefixedNumbers
mod PrefixedNumbers
mod SignedNumbers
mod TextCores
mod OwnCores
mod UnsignedReductions
mod SignedReductions
mod FilledNumbers
mod LetterLemmas
mod PaddedLemmas
mod FieldLemmas
mod TextReductions
pub mod Reductions
