pub mod Arrays
pub mod Coded
pub mod Ended
pub mod Fields
pub mod Joined
pub mod Offsets
pub mod Premises
pub mod Turns
