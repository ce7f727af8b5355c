-- The tree listing as a walk: what is listed, and what is opened next.
pub mod Walking
