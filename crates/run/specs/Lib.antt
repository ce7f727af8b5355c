-- What one record of a run does.
pub mod Obeyed
