pub mod PickLemmas
pub mod OutLemmas
pub mod IntoLemmas
pub mod RootLemmas
pub mod AddedLemmas
pub mod StandingLemmas
pub mod LostLemmas
pub mod OneEditLemmas
