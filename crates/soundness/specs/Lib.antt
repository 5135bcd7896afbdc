-- The definitions that the contracts of `soundness` cite.
pub mod Calls
pub mod Steps
