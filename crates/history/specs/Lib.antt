-- What stands, lists of place calls, the statement of demand 3, place calls given as words, and what is computed of the book.
pub mod Book
pub mod History
pub mod Demand3
pub mod Replay
pub mod Claims
