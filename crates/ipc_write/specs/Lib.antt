pub mod Trees
pub mod Decoded
pub mod Written
pub mod Contents
pub mod Walked
pub mod laws
pub mod inner
