-- What the functions on lent tables take for granted, what they show, and what a search in them answers.
pub mod Lent
pub mod Shown
pub mod Search
