pub mod Cells
pub mod Weights
pub mod Ranges
pub mod Shapes
pub mod EntryEquality
pub mod Entries
pub mod Unlimited
