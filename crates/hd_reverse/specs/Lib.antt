pub mod Referrers
pub mod Numbers
pub mod Passes
pub mod Reverse
pub mod ReverseInside
