pub mod Climbing
pub mod Fitting
pub mod Most
pub mod Steps
pub mod Batches
pub mod Streams
