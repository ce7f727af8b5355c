-- 01's list of capability records, and what restrict and drop do on it.
pub mod Slots
pub mod Parts
