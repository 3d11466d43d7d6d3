pub mod Reached
pub mod Decoding
pub mod Failing
