pub mod Bytes
pub mod Checks
pub mod Outcomes
pub mod Texts
pub mod laws
