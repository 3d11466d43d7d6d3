pub mod Copies
pub mod Kept
pub mod Picked
pub mod TableParts
