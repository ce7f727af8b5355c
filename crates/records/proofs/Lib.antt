-- Laws of a tape by what its reader gives, and of what a run of it tells.
pub mod Steps
pub mod Values
pub mod Running
pub mod Telling
