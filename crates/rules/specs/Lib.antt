-- Document 01 as definitions, in its order. A call is decided on the machine that well-formed tables show.
pub mod Machine
pub mod Sound
pub mod Changes
pub mod Checks
pub mod Calls
pub mod Step
pub mod Issue
pub mod Cases
