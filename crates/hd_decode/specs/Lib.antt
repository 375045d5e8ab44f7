pub mod Bodies
pub mod Shares
