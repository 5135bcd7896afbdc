-- The definitions that the contracts of `pages` cite.
pub mod Sizes
pub mod Lists
pub mod Rectangles
pub mod Pieces
pub mod Layout
pub mod Sound
pub mod Refusals
pub mod Calls
pub mod Readers
pub mod Writes
pub mod Left
pub mod Under
pub mod Examples
pub mod Claims
