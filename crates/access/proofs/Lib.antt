-- Laws that the proofs of this crate share.
pub mod View
pub mod Searching
pub mod Stored
