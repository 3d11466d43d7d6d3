-- Laws that the crates above use.
pub mod Changes
pub mod Ids
pub mod Kept
