-- A call by its number.
pub mod ByNumber
pub mod Rows
