-- The definitions that the contract of `nearest_piece` cites, in the order of request 2.12: `Distance`, `Search`, `Calls`. `Guarantees` has
-- what the request promises, `Claims` the theorems, `Steps` the inner functions.
pub mod Distance
pub mod Search
pub mod Calls
pub mod Guarantees
pub mod Examples
pub mod Claims
pub mod Steps
