-- Laws that the run's proofs share.
pub mod Obeying
pub mod Printing
