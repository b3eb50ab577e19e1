pub mod Numbers
pub mod VerbatimLemmas
pub mod TokenLemmas
pub mod Judging
pub mod Complete
pub mod Total
pub mod Unique
pub mod FaultLemmas
pub mod WalkLemmas
pub mod DecodingLemmas
pub mod OffsetLemmas
pub mod HasOffsetLemmas
pub mod EncodingLemmas
pub mod EncodingReadLemmas
mod Examples
