-- Laws that the crates above use.
pub mod Runs
pub mod Usages
pub mod ReadBack
