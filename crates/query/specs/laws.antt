pub mod Limits
pub mod Lines
pub mod Picks
pub mod Readable
pub mod RowsSet
pub mod Tests
