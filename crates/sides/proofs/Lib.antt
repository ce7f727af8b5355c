-- Laws of the definitions in specs/.
pub mod Deeds
pub mod Places
pub mod Dead
pub mod Uses
pub mod Has
pub mod Grow
pub mod Words
pub mod Having
pub mod Twin
pub mod Confined
pub mod OneCall
pub mod TwoRuns
pub mod OnTables
pub mod Needed
pub mod Stay
