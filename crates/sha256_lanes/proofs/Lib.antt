pub mod LaneLemmas
pub mod Blocks
mod Rotations
