-- The definitions that the contracts of `query`, `opened_pages` and `front` cite, the statement of demand 2, and `Claims`: what else is shown;
-- then those of the inner functions.
pub mod Admission
pub mod Opening
pub mod Listing
pub mod Calls
pub mod Demand2
pub mod Claims
pub mod Steps
pub mod Window
pub mod Marks
pub mod Search
pub mod Visits
