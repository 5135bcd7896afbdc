-- The laws: bits, relations under a turn (a computed test over all 40 and the 169 configurations), clauses, rectangles, lists of
-- place calls; `Lays` and `Both` prove what specs/ states of whole lists and of two clauses.
pub mod Bits
pub mod Relations
pub mod Clauses
pub mod Made
pub mod Rects
pub mod Calls
pub mod Lays
pub mod Both
pub mod Claimed
