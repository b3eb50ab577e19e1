pub mod PresenceLemmas
pub mod WordLemmas
pub mod ModelLemmas
