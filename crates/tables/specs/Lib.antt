-- The lent tables: their layout, when they are well formed, and what a call does with them.
pub mod Layout
pub mod WellFormed
pub mod Call
pub mod Positions
