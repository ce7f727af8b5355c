-- The table's rows.
pub mod Numbers
pub mod ByRow
