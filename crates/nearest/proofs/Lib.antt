-- The laws. `Lists` (numbers among others), `Order` (the first by distance) and `Distances` carry the others. Of the search: `Reached` (opening a page), `Walk`
-- (the pages opened on an allowance). Of the code: `Words`, `Shown`, `Searching` and `Calls`. `Guarantees` has what the request promises.
pub mod Lists
pub mod Order
pub mod Distances
pub mod Reached
pub mod Walk
pub mod Words
pub mod Shown
pub mod Searching
pub mod Calls
pub mod Guarantees
pub mod Examples
pub mod Claimed
