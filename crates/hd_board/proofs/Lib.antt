pub mod Numbers
pub mod Closings
pub mod Opened
pub mod Steps
