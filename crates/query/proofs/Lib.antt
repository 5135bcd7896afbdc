-- The laws that the proofs of `query` cite; `Demand2` has what is owed of a query, `Claimed` what else is stated.
pub mod Reading
pub mod Concat
pub mod Marks
pub mod Walking
mod Leaf
pub mod Members
pub mod Pieces
pub mod Listed
pub mod Root
pub mod Tests
pub mod Halves
pub mod Edges
pub mod WindowLemmas
pub mod Decided
pub mod Calls
pub mod Whole
pub mod Parents
pub mod Accepted
pub mod Demand2
pub mod Claimed
