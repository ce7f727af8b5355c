-- Reading a tape by position.
pub mod Reading
