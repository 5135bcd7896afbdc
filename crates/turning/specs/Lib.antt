-- Request 2.9: the quarter turn, the statements that turned lays answer alike and that two clauses list what both list, and the claims.
pub mod Turn
pub mod Lays
pub mod Both
pub mod Claims
