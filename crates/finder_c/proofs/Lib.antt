pub mod Demand1
pub mod Corners
pub mod Claimed
