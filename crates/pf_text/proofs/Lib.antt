pub mod Runs
pub mod NumberDigits
pub mod Complete
pub mod Sound
pub mod Texts
pub mod Reasons
pub mod Refusing
pub mod Unique
pub mod SpellingLemmas
pub mod ReadBack
pub mod LiteralLemmas
pub mod CanonicalRunLemmas
mod SearchLemmas
mod MarkLemmas
pub mod MarkedRunLemmas
mod ItemLemmas
pub mod FoundLemmas
pub mod NoDirectiveLemmas
pub mod NoItemLemmas
mod BetweenLemmas
pub mod ReadingLemmas
pub mod PieceLemmas
pub mod DirectiveLemmas
pub mod SpecificationLemmas
pub mod WalkLemmas
pub mod PieceTexts
pub mod RefusalLemmas
pub mod SignatureLemmas
pub mod WholeRunLemmas
mod KindLemmas
mod Examples
