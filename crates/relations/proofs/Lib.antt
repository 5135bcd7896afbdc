-- The laws. Callers cite `Sides` (codes), `Turned`, `Quarter` and `Pages` (the quarter-unit rule, the page and leaf tests),
-- `Answer` (refusals and rows of an accepted query), `Lowest` (the ones of a word, one after the other).
-- `Claimed` proves what `Claims` states.
pub mod Tests
pub mod Bits
pub mod Lowest
pub mod Filled
pub mod Sides
pub mod Zones
pub mod Turned
pub mod Quarter
pub mod Tables
pub mod Rows
pub mod Answer
pub mod Pages
pub mod Near
pub mod Whole
pub mod Examples
pub mod Members
pub mod Swapped
pub mod Claimed
