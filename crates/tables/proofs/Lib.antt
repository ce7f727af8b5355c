-- Laws of the tables.
pub mod Blocks
pub mod RoundTrip
pub mod Laws
pub mod At
pub mod Seen
pub mod Stored
