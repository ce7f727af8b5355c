-- Laws of the definitions in specs/.
pub mod Computes
pub mod Worked
pub mod Parts
pub mod Keep
pub mod Decide
pub mod Inside
pub mod KeepCalls
pub mod Serials
pub mod Slots
