pub mod ContinuesLemmas
pub mod FlagLemmas
pub mod LastLemmas
