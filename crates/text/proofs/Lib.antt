-- What the definitions say of 01's example.
pub mod Worked
