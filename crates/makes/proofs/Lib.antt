-- What the makes come to, and how they end by what their checks answer.
pub mod MakeResults
pub mod Answered
