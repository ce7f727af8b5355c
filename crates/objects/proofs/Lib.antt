-- What the calls on inner places come to.
pub mod Opening
