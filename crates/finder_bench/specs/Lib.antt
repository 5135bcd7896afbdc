-- What the exports for the benchmarks answer.
pub mod Asked
