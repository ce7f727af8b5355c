-- Laws that the proofs of this crate share.
pub mod Decided
pub mod Furnishing
pub mod Determined
pub mod Freshening
