pub mod DigitLemmas
mod PartLemmas
pub mod IntegerLemmas
mod TextLemmas
pub mod PrintingLemmas
pub mod ItemLemmas
pub mod MatchingLemmas
mod ProgressLemmas
mod FormatLemmas
mod GatheringLemmas
mod BufferLemmas
