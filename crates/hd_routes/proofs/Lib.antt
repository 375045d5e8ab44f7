pub mod Joins
pub mod HeadLemmas
pub mod Upgrades
pub mod HearingLemmas
