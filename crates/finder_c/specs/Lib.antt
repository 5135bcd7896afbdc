-- The statement of demand 1 over the definitions of the calls that can refuse (`front`, `turned_rect` and `turned_clause` refuse nothing and
-- write no word), and what ties the calls of different crates together.
pub mod Demand1
pub mod Claims
