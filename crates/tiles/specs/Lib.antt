-- The definitions that the contracts of `tiles` cite, in the order of request 2.3: `Tiles`, `Calls`. `Names` has the tiles by name,
-- `Claims` the theorems, `Steps` and `Sides` the inner functions.
pub mod Tiles
pub mod Calls
pub mod Names
pub mod Examples
pub mod Claims
pub mod Steps
pub mod Sides
