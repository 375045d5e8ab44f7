pub mod CodeLemmas
pub mod CountLemmas
pub mod CutLemmas
pub mod PartLemmas
pub mod ResolvingLemmas
pub mod SharedLemmas
pub mod TableLemmas
