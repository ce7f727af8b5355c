-- Laws that the proofs of this crate share.
pub mod Runs
pub mod Issuing
pub mod Split
pub mod Places
pub mod Packages
