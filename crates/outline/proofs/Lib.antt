-- The laws. `Tests` (tests as facts) and `Heights` (an edge at a height, and the cross product) carry the others. Of the code: `Indexed` (words,
-- points and edges by index), `Signed` (integers), `Testing` (the tests by the cases of the source), `Walking` (the edges in the order of the walk), `Summing`
-- (their sum), `Answers` (the calls by what is read and refused). Of the claims: `Means` and `Saying` (what tests and answers mean), `Totals`,
-- `Turning` and `Same` (begun elsewhere, reversed), `Parity` (to the west, with the upper end), `Figures`, `Rectangles` and `Examples`.
pub mod Tests
pub mod Heights
pub mod Means
pub mod Indexed
pub mod Signed
pub mod Testing
pub mod Walking
pub mod Summing
pub mod Answers
pub mod Totals
pub mod Turning
pub mod Same
pub mod Saying
pub mod Figures
pub mod Rectangles
pub mod Parity
pub mod Examples
pub mod Claimed
