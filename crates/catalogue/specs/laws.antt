-- Laws that the crates above use.
pub mod Kept
pub mod Order
pub mod Sums
pub mod Changed
pub mod Bare
pub mod Shapes
pub mod Digests
pub mod Forms
