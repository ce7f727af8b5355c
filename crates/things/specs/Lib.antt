-- 01, "Things and their numbers", as far as it concerns one capability; and the numbers of the refusals.
pub mod Lists
pub mod Rights
pub mod Kinds
pub mod Answers
