-- Laws of the walk: what an object shows, a line and whether its object is opened after it, parts one after another, and how
-- long a listing gets.
pub mod Shows
pub mod Lines
pub mod Going
pub mod Bound
