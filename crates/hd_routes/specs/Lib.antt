pub mod Fields
pub mod Requests
pub mod Routes
pub mod Heads
pub mod Answers
pub mod Hearings
