pub mod Runs
pub mod Usages
pub mod Sectors
pub mod Pieces
pub mod Writing
pub mod Reading
pub mod laws
pub mod inner
