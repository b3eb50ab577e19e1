pub mod CodeLemmas
mod RecordLemmas
mod ModelSums
mod RelationLemmas
mod HeaderLemmas
mod EndedLemmas
mod PassedLemmas
mod AnswerLemmas
mod ModelAnswers
mod LanguageAnswers
mod CallsOnce
