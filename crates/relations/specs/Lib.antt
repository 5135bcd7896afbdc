-- The definitions that the contracts of `relations` cite, in the order of document 01; `Steps` has those of the inner functions,
-- `Claims` what is shown beside the contracts.
pub mod Sets
pub mod Axis
pub mod Relation
pub mod Query
pub mod Nodes
pub mod Steps
pub mod Examples
pub mod Members
pub mod Claims
