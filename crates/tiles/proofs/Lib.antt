-- The laws: `Arrays` (what `default` makes), `Cutting` (a side cut at two lines), `Areas` (areas as products of two cuts), `Called` (what the call returns), then those of
-- the claims. `Claimed` proves what `Claims` states.
pub mod Arrays
pub mod Cutting
pub mod Areas
pub mod Called
pub mod Adding
pub mod Lengths
pub mod Held
pub mod Directions
pub mod Examples
pub mod Claimed
