-- The definitions that the contracts of `place` cite; Parts and Steps are those of the functions behind it.
pub mod Place
pub mod Calls
pub mod Standing
pub mod Parts
pub mod Nine
pub mod Steps
pub mod Claims
