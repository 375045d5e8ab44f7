pub mod Performing
pub mod Listening
