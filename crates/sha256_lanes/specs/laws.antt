-- Laws for the crates above.
pub mod Fours
