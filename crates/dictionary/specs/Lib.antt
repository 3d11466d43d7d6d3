pub mod InEffect
pub mod Kept
pub mod laws
pub mod inner
