pub mod Stored
pub mod Paging
pub mod laws
