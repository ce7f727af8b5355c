-- Laws of the list.
pub mod Laws
pub mod Same
pub mod Worked
