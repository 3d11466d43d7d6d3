pub mod Joined
pub mod OneRow
pub mod Runs
