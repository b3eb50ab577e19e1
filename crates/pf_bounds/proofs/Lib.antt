pub mod BoundsLemmas
pub mod Lengths
pub mod Extremes
pub mod NumberBounds
pub mod TextBounds
pub mod SumLemmas
pub mod TallyLemmas
pub mod LawLemmas
