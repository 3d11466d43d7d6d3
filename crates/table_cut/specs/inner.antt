pub mod Seen
pub mod Bounds
pub mod Columns
pub mod EntrySizes
pub mod Filling
pub mod Fit
pub mod Weights
pub mod Room
