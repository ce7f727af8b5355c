-- What the functions for callers promise, and what is stored in fresh tables.
pub mod Boundary
pub mod Furnished
