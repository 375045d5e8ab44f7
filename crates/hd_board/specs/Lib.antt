pub mod Appends
pub mod Replicas
pub mod Calls
pub mod Stepping
pub mod Closing
pub mod Opening
pub mod BoardInside
pub mod DeskInside
