-- Laws that the calls' proofs share.
pub mod Deciding
pub mod Checking
pub mod Leaving
pub mod Making
