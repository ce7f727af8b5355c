-- How a call ends, and how the checks that calls share answer.
pub mod Ends
pub mod Verdicts
pub mod Rooms
