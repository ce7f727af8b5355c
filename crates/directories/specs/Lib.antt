-- How delete's inner checks answer.
pub mod Deletes
