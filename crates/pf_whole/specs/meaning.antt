-- The definitions that the headline of the whole language depends on, in addition to those of
-- `pf_values` and `pf_posix`.
pub mod NormalSpellings
pub mod WholeArguments
pub mod Traces
pub mod WholeCanonical
pub mod WholeHeadline
