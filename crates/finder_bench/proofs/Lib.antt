-- The laws that the proofs of `bench_queries` and `bench_nearest` cite.
pub mod Asked
