pub mod Serving
pub mod Steps
pub mod Stating
