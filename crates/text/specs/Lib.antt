-- The tape and the two programs (01, "The tape and the two programs").
pub mod Text
pub mod Tape
pub mod Tree
pub mod SixRecords
