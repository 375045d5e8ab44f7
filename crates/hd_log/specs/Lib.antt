pub mod Actions
pub mod Flags
pub mod FrontInside
pub mod PackedEvents
