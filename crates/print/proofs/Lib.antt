-- Laws of writing that the proofs of this crate, and of those above it, share.
pub mod Writing
pub mod Decimal
pub mod Lines
