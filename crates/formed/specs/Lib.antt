-- What the parts of the well-formed test answer. The test itself answers `well_formed` of the tables.
pub mod Block
