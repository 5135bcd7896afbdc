-- The definitions that the contracts of `job_io` cite.
pub mod Gathered
pub mod Printed
pub mod Prints
