pub mod FillingLemmas
pub mod Lending
pub mod Lodging
pub mod Spaces
