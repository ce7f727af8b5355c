-- What the calls on segments come to.
pub mod Results
pub mod Copying
