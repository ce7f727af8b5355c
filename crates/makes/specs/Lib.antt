-- What a make stores.
pub mod Makes
