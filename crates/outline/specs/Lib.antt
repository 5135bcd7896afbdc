-- The definitions that the contracts of `outline` cite, in the order of request 2.10: `Outline`, `Area`, `Place`, `Refusals`, `Calls`.
-- `Meaning` says what the tests of `Place` mean, `Claims` has the theorems, `Steps` the inner functions.
pub mod Outline
pub mod Area
pub mod Place
pub mod Refusals
pub mod Calls
pub mod Meaning
pub mod Examples
pub mod Claims
pub mod Steps
