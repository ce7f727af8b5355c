-- What the calls on directories come to.
pub mod Results
pub mod Deleting
