pub mod Capped
pub mod Lines
pub mod Names
pub mod Weight
