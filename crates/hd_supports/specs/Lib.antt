pub mod PackedReached
pub mod Packing
