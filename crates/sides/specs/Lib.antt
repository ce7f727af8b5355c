-- Near and far, and what lasts over any tape (demand 3, and the incident of the letter), as definitions.
pub mod Lasting
pub mod Sides
pub mod OnTables
pub mod Needed
