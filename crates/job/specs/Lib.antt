-- The definitions that the contracts of `job` cite.
pub mod Sizes
pub mod Job
pub mod Lines
pub mod Output
pub mod Words
pub mod Steps
pub mod Queries
pub mod Claims
