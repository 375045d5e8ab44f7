pub mod Messages
pub mod Seats
pub mod Tables
pub mod Talks
