pub mod WordLemmas
pub mod Digits
pub mod FlatMaps
pub mod FirstLineLemmas
